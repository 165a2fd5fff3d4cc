-- What a call from C returns and leaves in what it was lent (include/cancel.h). Definitions only.
use Rattle.std.specs.Prelude.{ℕ, List, length, Float}
use Rattle.elements.specs.declared.element.KeyedElement.{KeyedElement}
use Rattle.lists.specs.Records.{Handed}
use Rattle.elements.specs.Element.{handed_elements}
use Rattle.fits.specs.declared.fit.ElementFit.{ElementFit}
use Rattle.fits.specs.declared.estimate.Estimate.{Estimate}
use Rattle.fits.specs.List.{handed_fits}
use Rattle.questions.specs.Answers.{Outcome, accepted, refused, by_number}
use Rattle.strong.specs.Find.{FindResult, find_rule}
use Rattle.strong.specs.Fit.{FitResult, fit_rule}
use Rattle.strong.specs.Estimate.{EstimateResult, estimate_rule}
use Rattle.figures.specs.Calls.{found_figures, fitted_figures, estimate_figures}

-- The result of an accepted call: its figures, what its lists hand out, of type A (with a run's buffer), and the length
-- of the work slice.
pub record Called (A : Type 0) : Type 0 where
  pub figures : List Float
  pub lists : A
  pub work : ℕ

-- The outcome of a call of crate cancel, for C. A refusal leaves the figures as they were.
abbrev pub for_c : {L A B : Type 0} → (A → Called B) → List Float → Outcome L A → Outcome (List Float × L) (Called B)
for_c told figures (accepted r) = accepted (told r)
for_c told figures (refused n lent) = refused n (figures, lent)

-- ---- cancel_find_elements

-- of the number that is returned, 0 for an accepted call, with what the lent slices then hold: `listed` elements, as
-- many as the rule counts
abbrev pub find_called : ℕ → ℕ → List Float → List Float → List Float → Outcome (List Float × (List Float × List Float)) (Called (Handed KeyedElement))
find_called n listed elements work figures =
    by_number n (record { figures = figures; lists = handed_elements elements listed; work = length work }) (figures, (elements, work))

abbrev pub find_told : FindResult → Called (Handed KeyedElement)
find_told r = record { figures = found_figures r.found; lists = r.elements; work = r.work }

unfoldable pub find_call : List Float → Float → Float → List Float → List Float → List Float → Outcome (List Float × (List Float × List Float)) (Called (Handed KeyedElement))
find_call iq fs hz elements work figures = for_c find_told figures (find_rule iq fs hz elements work)

-- ---- cancel_fit_elements

abbrev pub fit_called : ℕ → ℕ → List Float → List Float → List Float → Outcome (List Float × (List Float × List Float)) (Called (Handed ElementFit))
fit_called n fitted fits work figures =
    by_number n (record { figures = figures; lists = handed_fits fits fitted; work = length work }) (figures, (fits, work))

abbrev pub fit_told : FitResult → Called (Handed ElementFit)
fit_told r = record { figures = fitted_figures r.fitted; lists = r.fits; work = r.work }

unfoldable pub fit_call : List Float → Float → Float → List Float → ℕ → List Float → List Float → List Float → Outcome (List Float × (List Float × List Float)) (Called (Handed ElementFit))
fit_call iq fs hz elements count fits work figures = for_c fit_told figures (fit_rule iq fs hz elements count fits work)

-- ---- cancel_estimate_strong

abbrev pub estimate_called : ℕ → Estimate → List Float → List Float → List Float → List Float → Outcome (List Float × (List Float × List Float × List Float)) (Called (Handed KeyedElement × Handed ElementFit))
estimate_called n e elements fits work figures =
    by_number n (record { figures = figures; lists = (handed_elements elements e.found.listed, handed_fits fits e.fitted); work = length work })
    (figures, (elements, fits, work))

abbrev pub estimate_told : EstimateResult → Called (Handed KeyedElement × Handed ElementFit)
estimate_told r = record { figures = estimate_figures r.estimate; lists = (r.elements, r.fits); work = r.work }

unfoldable pub estimate_call : List Float → Float → Float → List Float → List Float → List Float → List Float → Outcome (List Float × (List Float × List Float × List Float)) (Called (Handed KeyedElement × Handed ElementFit))
estimate_call iq fs hint elements fits work figures = for_c estimate_told figures (estimate_rule iq fs hint elements fits work)
