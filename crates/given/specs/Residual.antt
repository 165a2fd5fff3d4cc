-- `residual_check`, open to callers (01, part 6, with questions 1, 2, 3, 6 and 7), on a given estimate. Definitions
-- only.
use Rattle.std.specs.Prelude.{ℕ, List, length, Float, Result}
use Rattle.elements.specs.Element.{elements_in}
use Rattle.fits.specs.List.{fits_in}
use Rattle.measure.specs.declared.residual.ResidualCheck.{ResidualCheck}
use Rattle.measure.specs.Residual.{residual_check_of}
use Rattle.questions.specs.declared.refusals.Refusal.{Refusal}
use Rattle.questions.specs.Answers.{Outcome, outcome_of, by_questions}
use Rattle.questions.specs.Questions.{measure_questions}

-- The residual check, and the length of the work slice.
pub record ResidualResult : Type 0 where
  pub check : ResidualCheck
  pub work : ℕ

-- the number and the result of each answer, with what the lent slice then holds
abbrev pub residual_outcome : Result ResidualCheck Refusal → List Float → Outcome (List Float) ResidualResult
residual_outcome a work = outcome_of a (λ r. record { check = r; work = length work }) work

-- The first no is the result, and nothing is written; else the residual check, at the estimate's carrier, elements and
-- fits. The carrier step is asked about and has no part in it.
unfoldable pub residual_rule : List Float → Float → Float → Float → List Float → ℕ → List Float → ℕ → List Float → Outcome (List Float) ResidualResult
residual_rule iq fs hz step elements element_count fits fit_count work =
    by_questions (measure_questions iq fs hz step elements element_count fits fit_count (length work))
    (record { check = residual_check_of iq fs hz (fits_in fits fit_count) (elements_in elements element_count); work = length work })
    work
