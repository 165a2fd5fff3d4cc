-- The invariant: each sum so far is the specification's, of the first b points.
use native.Mathlib.Omega.{arith}
use mathlib.Core.Path.{refl, ap, ap₂}
use lib.Ieee.{mul, binary64}
use Rattle.float.specs.Ops.{◌⊖◌}
use Rattle.lists.proofs.Sums.{f_sum_turn}
use Rattle.interiors.proofs.Laws.{total_none, phase_read, weight_read}
use Rattle.interiors.proofs.line.Points.moments.Goals as goal

pub loop-b-init : goal.loop-b-init
loop-b-init c = record { num = total_none _; den = total_none _ }

pub loop-b-preserved : goal.loop-b-preserved
loop-b-preserved c =
    let inv = c.loop-b.invariant in
    let t = ap (λ x. x ⊖ c.args.tm) c.time.ensures in
    let w = ap₂ (mul binary64) (weight_read _ _ c.loop-b.b c.as_chunks.ensures.front (omega arith)) t in
    let p = ap (λ x. x ⊖ c.args.pm) (phase_read _ _ c.loop-b.b c.as_chunks.ensures.front (omega arith)) in
    record {
      num = f_sum_turn _ _ _ _ _ _ inv.num (ap₂ (mul binary64) w p) refl;
      den = f_sum_turn _ _ _ _ _ _ inv.den (ap₂ (mul binary64) w t) refl;
    }
