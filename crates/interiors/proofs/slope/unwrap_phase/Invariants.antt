use mathlib.Core.Path.{◌≡◌}
use Prim.Native.Nat.{◌-◌}
use Rattle.complex.specs.Rows.{z_fill}
use Rattle.interiors.specs.Slope.{slope_mean, phase_of}
use Rattle.interiors.specs.Inner.{point_of}
use Rattle.interiors.proofs.slope.unwrap_phase.Given as goal

abbrev pub invariant-loop-b : goal.invariant-loop-b
invariant-loop-b l = let s = l.kept.stretch in let z = slope_mean s.samples.iq.now s.cyc s.i0 l.block in record {
  mean : l.mean ≡ z (l.b - 1);
  phase : l.phase ≡ phase_of z (l.b - 1);
  points : l.points ≡ z_fill l.fn.points 0 (point_of z) l.b;
}
