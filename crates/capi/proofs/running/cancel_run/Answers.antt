-- `capi::running::cancel_run` meets its contract.
use Rattle.engine.specs.Run.{run_figures}
use Rattle.cancel.specs.Running.{run_rule}
use Rattle.cancel.proofs.RunAccepted.{run_done}
use Rattle.figures.specs.Running.{ran_figures}
use Rattle.capi.specs.Running.{run_call, run_told}
use Rattle.capi.proofs.Ways.{told_way}
use Rattle.capi.proofs.RunTold.{run_told_lem}
use Rattle.capi.proofs.running.cancel_run.Goals as goal

pub returns-clause-figures_after : goal.returns-clause-figures_after
unfolding run_call run_rule run_figures
returns-clause-figures_after c =
    told_way run_told _ _ ran_figures _ _ _ _ _ _ _ _ c.run.ensures.work_after c.told.ensures
    (λ x e q. run_told_lem _ _ _ (run_figures _ _ _) _ _ _ (run_done c.args.buf.now c.args.fs c.args.hint_hz c.args.elements.now c.args.fits.now c.args.work.now _ e).1 q)
