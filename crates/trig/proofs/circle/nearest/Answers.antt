-- `trig::circle::nearest` meets its contract.
use lib.Ieee.{of_bits, of_int}
use Rattle.float.proofs.Compared.{yes}
use Rattle.trig.proofs.Halves.{nearest_is}
use Rattle.trig.proofs.circle.nearest.Goals as goal

pub returns : goal.returns
unfolding of_bits of_int
returns c = rw (c.pick.ensures, c.abs-m.ensures) (nearest_is c.args.y (yes c.well_formed.0.1) c.requires)
