-- `trig::table::arctan_at` meets its contract: the constant is the table of the rule.
use Rattle.std.proofs.Common.{refl}
use Rattle.trig.specs.Arctan.{arctan_table}
use Rattle.trig.proofs.table.arctan_at.Goals as goal

pub returns : goal.returns
unfolding arctan_table
returns c = refl
