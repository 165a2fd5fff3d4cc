-- `trig::circle::small_sine` meets its contract: the literals are the whole numbers of the definition.
use Rattle.std.proofs.Common.{refl}
use lib.Ieee.{of_bits, of_int}
use Rattle.trig.proofs.circle.small_sine.Goals as goal

pub returns : goal.returns
unfolding of_bits of_int
returns c = refl
