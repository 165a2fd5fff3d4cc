-- The invariant: the sum so far is that of what f is at the samples from a up to k.
use Rattle.std.proofs.Common.{arith}
use Rattle.complex.proofs.RowLaws.{c_sum_none, c_sum_turn, c_sum_done}
use Rattle.row.specs.Inner.{mean_of}
use Rattle.row.proofs.blocks.mean.Goals as goal

pub loop-k-init : goal.loop-k-init
loop-k-init g c f h = c_sum_none f c.args.a

pub loop-k-preserved : goal.loop-k-preserved
loop-k-preserved g c f h =
    let l = c.loop-k in
    c_sum_turn f c.args.a l.k l.sum _ _ (omega arith) (l.invariant f h) (h l.k _ (omega arith) c.turned.ensures) c.add-sum.ensures

pub returns : goal.returns
unfolding mean_of
returns g c f h =
    let l = c.loop-k in
    rw (c.div_real.ensures, c.exact.ensures, c_sum_done f c.args.a c.args.len l.k l.sum (l.invariant f h) (omega arith) (omega arith))
