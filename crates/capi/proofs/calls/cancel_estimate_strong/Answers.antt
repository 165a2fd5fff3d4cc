-- `capi::calls::cancel_estimate_strong` meets its contract.
use Rattle.strong.specs.Estimate.{estimate_rule}
use Rattle.strong.proofs.EstimateAccepted.{estimate_done}
use Rattle.figures.specs.Calls.{estimate_figures}
use Rattle.capi.specs.Calls.{estimate_call, estimate_told}
use Rattle.capi.proofs.Ways.{told_way, estimate_told_lem}
use Rattle.capi.proofs.calls.cancel_estimate_strong.Goals as goal

pub returns : goal.returns
unfolding estimate_call estimate_rule
returns c =
    told_way estimate_told _ _ estimate_figures _ _ _ _ _ _ _ _ c.estimate_strong.ensures.work_after c.told.ensures
    (λ x e q. estimate_told_lem _ _ _ _ _ _ (estimate_done c.args.iq.now c.args.fs c.args.hint_hz c.args.elements.now c.args.fits.now c.args.work.now _ e).1 q)
