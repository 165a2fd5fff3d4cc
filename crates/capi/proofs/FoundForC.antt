-- A find or an estimate that returns 0 to C is an accepted one: what `Handed` of crate strong says of every accepted
-- one, where each number of the recording is an f32, holds of what C then has. Assumes nothing.
use mathlib.Core.Path.{◌≡◌, sym, ap, ◌∙◌}
use mathlib.Core.List.{List}
use lib.Ieee.{Float}
use Rattle.elements.specs.declared.element.KeyedElement.{KeyedElement}
use Rattle.elements.specs.Find.{found_of}
use Rattle.lists.specs.Records.{Handed}
use Rattle.fits.specs.declared.fit.ElementFit.{ElementFit}
use Rattle.fits.specs.Estimate.{strong_estimate}
use Rattle.questions.specs.Answers.{accepted, by_number}
use Rattle.std.specs.Prelude.{Ok}
use Rattle.strong.specs.Find.{find_outcome, find_rule}
use Rattle.strong.specs.Estimate.{estimate_outcome, estimate_rule}
use Rattle.strong.proofs.FindAccepted.{find_result, find_done}
use Rattle.strong.proofs.EstimateAccepted.{estimate_result, estimate_done}
use Rattle.figures.specs.Calls.{found_figures, estimate_figures}
use Rattle.capi.specs.Calls.{Called, find_called, find_told, find_call, estimate_called, estimate_told, estimate_call}
use Rattle.capi.proofs.Ways.{call_told}

-- `promise` is what `cancel_find_elements` ensures where it returns 0
module _ (iq : List Float) (fs hz : Float) (elements work figures-before elements-after work-after figures : List Float)
    (promise : find_called 0 (found_of iq fs hz).listed elements-after work-after figures ≡ find_call iq fs hz elements work figures-before) where
  pub find_for_c : (figures ≡ found_figures (found_of iq fs hz)) × (find_outcome (Ok (found_of iq fs hz)) elements-after work-after ≡ find_rule iq fs hz elements work)
  unfolding find_call by_number
  find_for_c =
      let told = call_told find_told figures-before (find_rule iq fs hz elements work) _ promise in
      let done = find_done iq fs hz elements work told.0 told.1 in
      let same = told.2 in (
        ap (λ (c : Called (Handed KeyedElement)). c.figures) same ∙ ap found_figures done.1,
        ap accepted
            (find_result _ _ _ _ _ _ (sym done.1) (ap (λ (c : Called (Handed KeyedElement)). c.lists) same) (ap (λ (c : Called (Handed KeyedElement)). c.work) same))
            ∙ told.1,
      )

-- `promise` is what `cancel_estimate_strong` ensures where it returns 0
module _ (iq : List Float) (fs hint : Float) (elements fits work figures-before elements-after fits_after work-after figures : List Float)
    (promise : estimate_called 0 (strong_estimate iq fs hint) elements-after fits_after work-after figures ≡ estimate_call iq fs hint elements fits work figures-before) where
  abbrev Lists : Type 0
  Lists = Handed KeyedElement × Handed ElementFit

  pub estimate_for_c : (figures ≡ estimate_figures (strong_estimate iq fs hint))
      × (estimate_outcome (Ok (strong_estimate iq fs hint)) elements-after fits_after work-after ≡ estimate_rule iq fs hint elements fits work)
  unfolding estimate_call by_number
  estimate_for_c =
      let told = call_told estimate_told figures-before (estimate_rule iq fs hint elements fits work) _ promise in
      let done = estimate_done iq fs hint elements fits work told.0 told.1 in
      let same = told.2 in (
        ap (λ (c : Called Lists). c.figures) same ∙ ap estimate_figures done.1,
        ap accepted
            (estimate_result _ _ _ _ _ _ _ _ (sym done.1) (ap (λ (c : Called Lists). c.lists.0) same) (ap (λ (c : Called Lists). c.lists.1) same) (ap (λ (c : Called Lists). c.work) same))
            ∙ told.1,
      )
