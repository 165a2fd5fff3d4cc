-- The first i parts are stored.
use Rattle.std.proofs.Common.{◌≡◌}
use Rattle.lists.specs.Fill.{fill}
use Rattle.format.specs.Bytes.{part_at}
use Rattle.format.proofs.bytes.samples.Given as goal

abbrev pub invariant-loop-i : goal.invariant-loop-i
invariant-loop-i l = l.x-items ≡ fill l.initial.x-items 0 (part_at l.bytes) l.i
