use Rattle.std.proofs.Common.{◌^◌}
use Rattle.rank.specs.Inner.{Between}
use Rattle.rank.proofs.select.Cell.bounds.Given as goal

abbrev pub invariant-loop-x : goal.invariant-loop-x
invariant-loop-x l = Between l.v (2 ^ l.self.shift) l.self.prefix l.x-index l.least l.greatest
