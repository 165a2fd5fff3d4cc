use Rattle.std.proofs.Common.{◌≡◌, ◌+◌}
use Rattle.rank.specs.Inner.{sum_to}
use Rattle.rank.proofs.select.walk.Given as goal

abbrev pub invariant-loop-digit : goal.invariant-loop-digit
invariant-loop-digit l = sum_to l.hist l.digit + l.left ≡ l.rank
