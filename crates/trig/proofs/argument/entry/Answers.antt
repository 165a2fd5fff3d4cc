-- `trig::argument::entry` meets its contract.
use lib.Ieee.{of_bits, of_int}
use Rattle.trig.proofs.Rules.{arctan_small}
use Rattle.trig.proofs.argument.entry.Goals as goal

pub exact-requires : goal.exact-requires
exact-requires c = rw c.arctan_at.ensures (arctan_small c.args.j c.requires)

pub returns : goal.returns
unfolding of_bits of_int
returns c = rw (c.exact.ensures, c.arctan_at.ensures)
