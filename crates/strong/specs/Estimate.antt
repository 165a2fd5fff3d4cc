-- `estimate_strong`, open to callers (01, part 4, with questions 1 to 6). Definitions only.
use Rattle.std.specs.Prelude.{ℕ, List, length, Float, Result}
use Rattle.elements.specs.declared.element.KeyedElement.{KeyedElement}
use Rattle.lists.specs.Records.{Handed, handed}
use Rattle.elements.specs.Element.{ELEMENT, handed_elements}
use Rattle.fits.specs.declared.fit.ElementFit.{ElementFit}
use Rattle.fits.specs.declared.estimate.Estimate.{Estimate}
use Rattle.fits.specs.List.{FIT, handed_fits}
use Rattle.fits.specs.Estimate.{strong_estimate, strong_elements, strong_fits}
use Rattle.questions.specs.declared.refusals.Refusal.{Refusal}
use Rattle.questions.specs.Answers.{Outcome, outcome_of, by_questions}
use Rattle.questions.specs.Questions.{estimate_questions}

-- The estimate, the elements and the fits that the lists hand out, and the length of the work slice.
pub record EstimateResult : Type 0 where
  pub estimate : Estimate
  pub elements : Handed KeyedElement
  pub fits : Handed ElementFit
  pub work : ℕ

-- the number and the result of each answer, with what the lent slices then hold
abbrev pub estimate_outcome : Result Estimate Refusal → List Float → List Float → List Float → Outcome (List Float × List Float × List Float) EstimateResult
estimate_outcome a elements fits work =
    outcome_of a (λ e. record { estimate = e; elements = handed_elements elements e.found.listed; fits = handed_fits fits e.fitted; work = length work })
    (elements, fits, work)

-- The first no is the result, and nothing is written; else the estimate, and in the lists the elements and the fits of
-- the second pass.
unfoldable pub estimate_rule : List Float → Float → Float → List Float → List Float → List Float → Outcome (List Float × List Float × List Float) EstimateResult
estimate_rule iq fs hint elements fits work =
    by_questions (estimate_questions iq fs hint (length elements) (length fits) (length work))
    (record {
      estimate = strong_estimate iq fs hint;
      elements = handed ELEMENT (strong_elements iq fs hint) elements;
      fits = handed FIT (strong_fits iq fs hint) fits;
      work = length work;
    })
    (elements, fits, work)
