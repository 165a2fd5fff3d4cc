use Rattle.measure.proofs.Figures.{check_is}
use Rattle.measure.proofs.residual.residual_check.Goals as goal

pub returns : goal.returns
returns c =
    let ready = c.make_ready-free.ensures in
    check_is _ _ _ _ _ _ _ _ _ _ ready.grid.1 ready.count ready.held c.residual.ensures
