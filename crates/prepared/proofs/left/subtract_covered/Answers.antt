use native.Mathlib.Omega.{arith}
use Rattle.prepared.proofs.Less.{less_from_none, less_from_turn, less_from_done}
use Rattle.prepared.proofs.left.subtract_covered.Goals as goal

pub loop-k-init : goal.loop-k-init
loop-k-init c = (omega arith, less_from_none _ _ _ _ _)

pub loop-k-preserved : goal.loop-k-preserved
loop-k-preserved c =
    (omega arith, less_from_turn _ _ _ _ _ _ _ _ _ _ _ c.loop-k.auto.k c.loop-k.invariant.1 c.synth_baseband.ensures c.div_real.ensures c.exact-d.ensures c.sub-left.ensures)

pub returns : goal.returns
returns c = less_from_done _ _ _ _ _ _ _ _ _ _ c.max-a.ensures c.min-e.ensures c.loop-k.invariant.1 c.loop-k-test.false c.loop-k.invariant.0
