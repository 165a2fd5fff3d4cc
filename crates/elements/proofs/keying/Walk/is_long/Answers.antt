use Rattle.elements.specs.Keying.{is_long}
use Rattle.constants.proofs.Bits.{rise_bits}
use Rattle.elements.proofs.keying.Walk.is_long.Goals as goal

pub returns : goal.returns
unfolding is_long
returns c = rw rise_bits
