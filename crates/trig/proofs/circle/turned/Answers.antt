-- `trig::circle::turned` meets its contract.
use Rattle.std.proofs.Common.{arith}
use lib.Ieee.{of_bits, of_int}
use Rattle.trig.specs.Consts.{PI}
use Rattle.trig.proofs.Angles.{scaled_small, place_number, place_is, rest_is}
use Rattle.trig.proofs.circle.turned.Goals as goal

pub marked-w-requires : goal.marked-w-requires
unfolding of_bits of_int PI
marked-w-requires c = scaled_small c.args.x c.requires

pub float_to_bits-result : goal.float_to_bits-result
unfolding of_bits of_int PI
float_to_bits-result c = place_number c.args.x c.marked-w.result c.requires c.marked-w.ensures

pub returns : goal.returns
unfolding of_bits of_int PI
returns c = (place_is c.args.x c.marked-w.result c.requires c.marked-w.ensures, rest_is c.args.x c.marked-w.result c.requires c.marked-w.ensures, omega arith)
