use Rattle.measure.proofs.Offsets.{strongest_is}
use Rattle.measure.proofs.offset.strongest.Goals as goal

pub returns : goal.returns
returns c =
    strongest_is _ _ _ _ _ _ _ _ c.measured-first.ensures c.measured-under.ensures c.measured-over.ensures c.stronger.ensures c.stronger-2.ensures
