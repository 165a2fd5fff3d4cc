-- The first i places are those of the other row.
use Rattle.std.proofs.Common.{◌≡◌, get_or}
use Rattle.std.specs.Float.{nan}
use Rattle.lists.specs.Fill.{fill}
use Rattle.row.proofs.copies.copy.Given as goal

abbrev pub invariant-loop-i : goal.invariant-loop-i
invariant-loop-i l = l.to ≡ fill l.initial.to 0 (λ k. get_or l.from k nan) l.i
