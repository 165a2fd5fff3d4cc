use Prim.Native.Nat.{◌*◌, ◌/◌}
use mathlib.Core.Path.{◌≡◌}
use lib.ListN.{length, take}
use lib.Seq.{length-take-le}
use native.Mathlib.Omega.{arith}
use Rattle.interiors.specs.Slope.{slope_of}
use Rattle.interiors.proofs.Slopes.{slope_none, slope_stored}
use Rattle.interiors.proofs.slope.phase_slope.Goals as goal

pub returns-then-n-lt2 : goal.returns-then-n-lt2
returns-then-n-lt2 c = slope_none _ _ _ _ _ (omega arith)

pub returns : goal.returns
unfolding slope_of
returns c =
    let n = c.args.kept.now.stretch.len / c.args.block in
    let own = length-take-le (2 * n) c.args.points.now c.requires.block_in_bounds in
    let stored : length (take (2 * n) c.args.points.now) / 2 ≡ n = rw own (omega arith) in
    let read : length c.unwrap_phase.new.points / 2 ≡ n = omega (arith, own) in
    slope_stored _ _ _ _ _ _ (rw stored at c.unwrap_phase.ensures) (omega (arith, own)) (rw read at c.slope.ensures)
