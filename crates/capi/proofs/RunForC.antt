-- A run that returns 0 to C is an accepted run: what every accepted run promises (`RunPromises` of crate cancel) holds
-- of what C then has. Assumes nothing.
use mathlib.Core.Path.{◌≡◌, sym, ap, ◌∙◌}
use mathlib.Core.List.{List}
use lib.Ieee.{Float}
use Rattle.fits.specs.Estimate.{strong_estimate}
use Rattle.engine.specs.Run.{run_figures}
use Rattle.std.specs.Prelude.{Ok}
use Rattle.questions.specs.Answers.{accepted, by_number}
use Rattle.cancel.specs.Running.{run_outcome, run_rule}
use Rattle.cancel.proofs.RunAccepted.{run_result, run_done}
use Rattle.capi.specs.Calls.{Called}
use Rattle.figures.specs.Running.{ran_figures}
use Rattle.capi.specs.Running.{Left, run_called, run_told, run_call}
use Rattle.capi.proofs.Ways.{call_told}

-- `promise` is what `cancel_run` ensures where it returns 0
module _ (buf : List Float) (fs hint : Float) (elements fits work figures-before buffer-after elements-after fits_after work-after figures : List Float)
    (promise : run_called 0 (strong_estimate buf fs hint) buffer-after elements-after fits_after work-after figures ≡ run_call buf fs hint elements fits work figures-before) where
  pub run_for_c : (figures ≡ ran_figures (run_figures buf fs hint)) × (run_outcome (Ok (run_figures buf fs hint)) buffer-after elements-after fits_after work-after ≡ run_rule buf fs hint elements fits work)
  unfolding run_call by_number run_figures
  run_for_c =
      let told = call_told run_told figures-before (run_rule buf fs hint elements fits work) _ promise in
      let done = run_done buf fs hint elements fits work told.0 told.1 in
      let same = told.2 in
      let lists = ap (λ (c : Called Left). c.lists) same in (
        ap (λ (c : Called Left). c.figures) same ∙ ap ran_figures done.1,
        ap accepted
            (run_result _ _ _ _ _ _ _ _ _ _ (sym done.1) (ap (λ (l : Left). l.0) lists) (ap (λ (l : Left). l.1) lists) (ap (λ (l : Left). l.2) lists) (ap (λ (c : Called Left). c.work) same))
            ∙ told.1,
      )
