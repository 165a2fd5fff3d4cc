-- `fit_elements`, open to callers (01, part 4, with questions 1 to 7). Definitions only.
use Rattle.std.specs.Prelude.{ℕ, ◌/◌, List, [], ◌∷◌, ◌++◌, length, Float, Result}
use Rattle.row.specs.Window.{step_blocks}
use Rattle.lists.specs.Records.{Handed, handed}
use Rattle.elements.specs.Element.{elements_in}
use Rattle.fits.specs.declared.fit.ElementFit.{ElementFit}
use Rattle.fits.specs.List.{FIT, handed_fits, fits_of}
use Rattle.questions.specs.declared.refusals.Refusal.{Refusal}
use Rattle.questions.specs.Answers.{Outcome, outcome_of, by_questions}
use Rattle.questions.specs.Refusals.{REFUSED_CARRIER, REFUSED_PLACES, REFUSED_WORK, REFUSED_GIVEN}
use Rattle.questions.specs.Questions.{Asked, ask, recording_questions, carrier_ok, places_ok, work_ok, elements_ok}

-- It asks 1 to 7. The list to be filled needs one place per given element.
abbrev pub fit_questions : List Float → Float → Float → List Float → ℕ → ℕ → ℕ → List Asked
fit_questions iq fs hz elements count fits work =
    recording_questions iq fs
    ++ (ask REFUSED_CARRIER (carrier_ok fs hz) ∷ ask REFUSED_PLACES (places_ok count (fits / FIT)) ∷ ask REFUSED_WORK (work_ok (step_blocks iq fs) work) ∷ ask REFUSED_GIVEN (elements_ok elements count) ∷ [])

-- The number of fits, the fits that the list hands out, and the length of the work slice.
pub record FitResult : Type 0 where
  pub fitted : ℕ
  pub fits : Handed ElementFit
  pub work : ℕ

-- the number and the result of each answer, with what the lent slices then hold
abbrev pub fit_outcome : Result ℕ Refusal → List Float → List Float → Outcome (List Float × List Float) FitResult
fit_outcome a fits work = outcome_of a (λ n. record { fitted = n; fits = handed_fits fits n; work = length work }) (fits, work)

-- the fits of the given elements
abbrev pub fits_given : List Float → Float → Float → List Float → ℕ → List ElementFit
fits_given iq fs hz elements count = fits_of iq fs hz (elements_in elements count)

-- The first no is the result, and nothing is written; else the number of fits, and the fits in the list.
unfoldable pub fit_rule : List Float → Float → Float → List Float → ℕ → List Float → List Float → Outcome (List Float × List Float) FitResult
fit_rule iq fs hz elements count fits work =
    let given = fits_given iq fs hz elements count in
    by_questions (fit_questions iq fs hz elements count (length fits) (length work))
    (record { fitted = length given; fits = handed FIT given fits; work = length work })
    (fits, work)
