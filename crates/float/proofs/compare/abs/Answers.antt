-- `float::compare::abs` meets its contract.
use lib.Ieee.{of_bits}
use Rattle.float.proofs.Compared.{yes, no}
use Rattle.float.proofs.Remainders.{abs_above, abs_other}
use Rattle.float.proofs.compare.abs.Goals as goal

pub returns-then-x : goal.returns-then-x
unfolding of_bits
returns-then-x c = abs_above c.args.x (yes c.if-x.true)

pub returns-else-x : goal.returns-else-x
unfolding of_bits
returns-else-x c = abs_other c.args.x (yes c.well_formed.0.1) (no c.if-x.false)
