use Rattle.measure.proofs.Measured.{measures_are}
use Rattle.measure.proofs.both.measure_both.Goals as goal

pub returns : goal.returns
returns c =
    let ready = c.make_ready-free.ensures in
    measures_are _ _ _ _ _ _ _ _ _ _ _ _ _ _ ready.grid ready.count ready.held c.count_classes.ensures c.residual.ensures c.evidence.ensures
