-- `rank::select::walk` meets its contract.
use Rattle.std.proofs.Common.{arith}
use Rattle.rank.proofs.Counted.{sum_none, sum_turn}
use Rattle.rank.proofs.select.walk.Goals as goal

pub loop-digit-init : goal.loop-digit-init
loop-digit-init c = omega (arith, sum_none c.args.hist.now)

pub loop-digit-preserved : goal.loop-digit-preserved
loop-digit-preserved c = omega (arith, sum_turn c.args.hist.now c.loop-digit.digit)
