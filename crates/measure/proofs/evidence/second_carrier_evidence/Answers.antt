use Rattle.measure.proofs.Evidences.{check_is}
use Rattle.measure.proofs.evidence.second_carrier_evidence.Goals as goal

pub returns : goal.returns
returns c =
    let ready = c.make_ready-free.ensures in
    check_is _ _ _ _ _ _ _ _ _ _ _ _ ready.grid ready.count ready.held c.evidence.ensures
