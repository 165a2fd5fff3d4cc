use Rattle.std.proofs.Common.{◌^◌}
use Rattle.rank.specs.Inner.{Histogram}
use Rattle.rank.proofs.select.Digits.tally.Given as goal

abbrev pub invariant-loop-x : goal.invariant-loop-x
invariant-loop-x l = Histogram l.v (2 ^ l.self.shift) (2 ^ l.self.bits) l.self.prefix l.x-index l.hist
