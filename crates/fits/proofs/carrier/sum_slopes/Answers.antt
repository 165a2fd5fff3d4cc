-- The invariant: both sums so far are the specification's, of the fits behind the loop.
use native.Mathlib.Omega.{arith}
use mathlib.Core.Path.{refl, ap₂}
use Rattle.float.specs.Ops.{◌⊗◌}
use Rattle.fits.proofs.Records.{fit_read}
use Rattle.fits.proofs.Carriers.{over_none, over_turn}
use Rattle.fits.proofs.carrier.sum_slopes.Goals as goal

pub loop-place-init : goal.loop-place-init
loop-place-init c = record { num = over_none _ _; den = over_none _ _ }

pub loop-place-preserved : goal.loop-place-preserved
loop-place-preserved c =
    let inv = c.loop-place.invariant in
    let f = fit_read _ _ _ c.loop-place.place-index _ c.each-place-items.ensures.value (omega arith) c.fit_at-f.ensures in
    record {
      num = over_turn _ _ _ _ _ _ _ inv.num f (ap₂ (λ w s. w ⊗ s) c.fit_weight-w.ensures refl) refl;
      den = over_turn _ _ _ _ _ _ _ inv.den f c.fit_weight-w.ensures refl;
    }
