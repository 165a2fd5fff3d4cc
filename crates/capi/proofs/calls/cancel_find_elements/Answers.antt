-- `capi::calls::cancel_find_elements` meets its contract.
use Rattle.strong.specs.Find.{find_rule}
use Rattle.strong.proofs.FindAccepted.{find_done}
use Rattle.figures.specs.Calls.{found_figures}
use Rattle.capi.specs.Calls.{find_call, find_told}
use Rattle.capi.proofs.Ways.{told_way, find_told_lem}
use Rattle.capi.proofs.calls.cancel_find_elements.Goals as goal

pub returns : goal.returns
unfolding find_call find_rule
returns c =
    told_way find_told _ _ found_figures _ _ _ _ _ _ _ _ c.find_elements.ensures.work_after c.told.ensures
    (λ x e q. find_told_lem _ _ _ _ _ (find_done c.args.iq.now c.args.fs c.args.carrier_hz c.args.elements.now c.args.work.now _ e).1 q)
