use Rattle.gaps.proofs.References.{reference_is}
use Rattle.gaps.proofs.reference.find_reference.Goals as goal

pub returns : goal.returns
returns c =
    reference_is _ _ _ _ _ _ _ _ _ _ _ c.side_level-side.ensures (rw c.args.classed.now.all at c.level_of-interior.ensures.0) c.unwrap_or-floor.ensures c.max.ensures c.max-2.ensures
