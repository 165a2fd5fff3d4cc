-- The invariant: each sum so far is the specification's, of the first b points.
use native.Mathlib.Omega.{arith}
use mathlib.Core.Path.{refl, ap₂}
use lib.Ieee.{mul, binary64}
use Rattle.lists.proofs.Sums.{f_sum_turn}
use Rattle.interiors.proofs.Laws.{total_none, phase_read, weight_read}
use Rattle.interiors.proofs.line.Points.sums.Goals as goal

pub loop-b-init : goal.loop-b-init
loop-b-init c = record { weight = total_none _; time = total_none _; phase = total_none _ }

pub loop-b-preserved : goal.loop-b-preserved
loop-b-preserved c =
    let inv = c.loop-b.invariant in
    let w = weight_read _ _ c.loop-b.b c.as_chunks.ensures.front (omega arith) in
    let p = phase_read _ _ c.loop-b.b c.as_chunks.ensures.front (omega arith) in
    record {
      weight = f_sum_turn _ _ _ _ _ _ inv.weight w refl;
      time = f_sum_turn _ _ _ _ _ _ inv.time (ap₂ (mul binary64) w c.time.ensures) refl;
      phase = f_sum_turn _ _ _ _ _ _ inv.phase (ap₂ (mul binary64) w p) refl;
    }
