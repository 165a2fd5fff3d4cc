use Rattle.constants.proofs.Bits.{neighbour_percentile_bits}
use Rattle.measure.proofs.Figures.{residual_is}
use Rattle.measure.proofs.residual.residual.Goals as goal

pub returns : goal.returns
returns c =
    let edge = rw c.requires.all at c.level_of-edge.ensures in
    let interior = rw c.requires.all at c.level_of-interior.ensures in
    let gap = rw c.requires.all at c.level_of-gap.ensures in
    residual_is _ _ _ _ _ _ _ _ _ _ _ c.requires.window c.subtract_from_means.ensures.less record { value = edge.0; count = edge.1 }
    record { value = interior.0; count = interior.1 } record { value = rw neighbour_percentile_bits gap.0; count = gap.1 } c.check_of.ensures
