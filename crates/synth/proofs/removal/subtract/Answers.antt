-- The invariant: the fits behind the loop are taken off.
use native.Mathlib.Omega.{arith}
use Rattle.fits.proofs.Records.{fit_read}
use Rattle.synth.proofs.Removals.{subtracted_none, subtracted_turn}
use Rattle.synth.proofs.removal.subtract.Goals as goal

pub loop-place-init : goal.loop-place-init
loop-place-init c = subtracted_none _ _ _ _

pub loop-place-preserved : goal.loop-place-preserved
loop-place-preserved c =
    let f = fit_read _ _ _ c.loop-place.place-index _ c.each-place-items.ensures.value (omega arith) c.fit_at-f.ensures in
    subtracted_turn _ _ _ _ _ _ _ _ _ c.loop-place.invariant f c.fit_span-span.ensures c.subtract_span.ensures
