use Rattle.std.proofs.Common.{◌≡◌}
use Rattle.lists.specs.Fill.{fill}
use Rattle.trig.specs.Circle.{entry_of}
use Rattle.trig.proofs.table.sine_table.Given as goal

abbrev pub invariant-loop-k : goal.invariant-loop-k
invariant-loop-k l = l.s-items ≡ fill l.initial.s-items 0 entry_of l.k
