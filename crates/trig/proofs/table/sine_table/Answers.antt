-- `trig::table::sine_table` meets its contract: the constant is the table of the rule. The invariant: k of its entries
-- are divided and stored.
use Rattle.std.proofs.Common.{◌∙◌, rules}
use lib.Ieee.{of_bits, of_int}
use Rattle.lists.proofs.Fill.{fill_none, fill_turn0, fill_done}
use Rattle.trig.specs.Sine.{sine_table}
use Rattle.trig.specs.Circle.{entry_of}
use Rattle.trig.proofs.Rules.{sine_small, sines_stored}
use Rattle.trig.proofs.table.sine_table.Goals as goal

pub loop-k-preserved : goal.loop-k-preserved
unfolding sine_table of_bits of_int
loop-k-preserved c = fill_turn0 _ entry_of _ _ _ c.loop-k.invariant (rw c.exact.ensures)

pub exact-requires : goal.exact-requires
unfolding sine_table
exact-requires c = sine_small c.loop-k.k (search rules)

pub returns : goal.returns
returns c = fill_done _ 0 entry_of 1025 _ _ c.loop-k.invariant (search rules) (search rules) ∙ sines_stored _ (search rules)

pub loop-k-init : goal.loop-k-init
loop-k-init c = search (rules, fill_none)
