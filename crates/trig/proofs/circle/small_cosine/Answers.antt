-- `trig::circle::small_cosine` meets its contract: the literals are the whole numbers of the definition. Assumes
-- nothing.
use Rattle.std.proofs.Common.{refl}
use lib.Ieee.{of_bits, of_int}
use Rattle.trig.proofs.circle.small_cosine.Goals as goal

pub returns : goal.returns
unfolding of_bits of_int
returns c = refl
