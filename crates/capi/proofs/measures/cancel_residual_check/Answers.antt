-- `capi::measures::cancel_residual_check` meets its contract.
use Rattle.given.specs.Residual.{residual_rule}
use Rattle.figures.specs.Measures.{residual_figures}
use Rattle.capi.specs.Measures.{residual_call, residual_told}
use Rattle.capi.proofs.Ways.{told_way, measure_told}
use Rattle.capi.proofs.measures.cancel_residual_check.Goals as goal

pub returns : goal.returns
unfolding residual_call residual_rule
returns c =
    told_way residual_told _ _ residual_figures _ _ _ _ _ _ _ _ c.residual_check.ensures.work_after c.told.ensures
    (λ x e q. measure_told _ _ _ q)
