use Prim.Native.Nat.{◌≤◌}
use mathlib.Core.Path.{◌≡◌}
use lib.ListN.{length}
use Rattle.fits.specs.Inner.{fits_stored}
use Rattle.fits.proofs.Listing.{fits_to}
use Rattle.fits.proofs.list.fit_elements.Given as goal

abbrev pub invariant-loop-place : goal.invariant-loop-place
invariant-loop-place l = let made = fits_to l.recording.samples.iq.now l.recording.rate.hz l.carrier l.elements.numbers.now l.initial.fits l.place-index in record {
  few : l.fitted ≤ l.place-index;
  counted : l.fitted ≡ length made;
  stored : l.fits ≡ fits_stored l.initial.fits made;
}
