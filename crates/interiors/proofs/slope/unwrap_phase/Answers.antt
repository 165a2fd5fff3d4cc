-- The invariant: the phase and the mean are those of block b - 1, and the points before block b are stored.
use Prim.Native.Nat.{◌+◌, ◌-◌}
use native.Mathlib.Omega.{arith}
use mathlib.Core.Path.{◌≡◌}
use Rattle.complex.proofs.RowLaws.{z_fill_none, z_fill_turn0}
use Rattle.interiors.proofs.Laws.{phase_first, phase_turn, point_is}
use Rattle.interiors.proofs.slope.unwrap_phase.Goals as goal

pub loop-b-init : goal.loop-b-init
loop-b-init c =
    let mean = c.slope_mean-mean.ensures in
    let phase = phase_first _ _ _ mean c.arg-phase.ensures in
    record {
      mean = mean;
      phase = phase;
      points = z_fill_turn0 _ _ 0 _ _ _ (z_fill_none _ _ _) (point_is _ _ _ _ _ phase mean c.point.ensures) c.put.ensures;
    }

pub loop-b-preserved : goal.loop-b-preserved
loop-b-preserved c =
    let inv = c.loop-b.invariant in
    let here : c.loop-b.b + 1 - 1 ≡ c.loop-b.b = omega arith in
    let mean = c.slope_mean-next.ensures in
    let phase = phase_turn _ _ c.loop-b.b _ _ _ _ (omega arith) inv.phase inv.mean mean c.phase_on-phase.ensures in
    record {
      mean = rw here mean;
      phase = rw here phase;
      points = z_fill_turn0 _ _ _ _ _ _ inv.points (point_is _ _ _ _ _ phase mean c.point-in-loop-b.ensures) c.put-in-loop-b.ensures;
    }
