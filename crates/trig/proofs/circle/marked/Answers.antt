-- `trig::circle::marked` meets its contract.
use lib.Ieee.{of_bits, of_int}
use Rattle.float.proofs.Compared.{yes}
use Rattle.trig.proofs.Marks.{marked_is}
use Rattle.trig.proofs.Halves.{halves}
use Rattle.trig.proofs.circle.marked.Goals as goal

pub returns-then-d : goal.returns-then-d
unfolding of_bits of_int
returns-then-d c = marked_is c.args.y c.requires (yes c.if-d.true)

pub returns-else-d : goal.returns-else-d
unfolding of_bits of_int
returns-else-d c = rw (c.pick.ensures, c.nearest-n.ensures) (halves c.args.y c.requires)
