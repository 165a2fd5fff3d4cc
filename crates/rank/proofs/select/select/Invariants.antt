use Rattle.std.proofs.Common.{◌^◌, ◌≤◌}
use Rattle.rank.specs.Inner.{RankIn}
use Rattle.rank.proofs.select.select.Given as goal

abbrev pub invariant-loop-cell : goal.invariant-loop-cell
invariant-loop-cell l = (l.cell.shift ≤ 64) × RankIn l.v (2 ^ l.cell.shift) l.rank l.cell.prefix l.left

abbrev pub decreases-loop-cell : goal.decreases-loop-cell
decreases-loop-cell l = l.cell.shift
