-- The counts of an estimate: its lists have room for them, and skipped = listed − fitted. Assumes nothing.
use Prim.Native.Nat.{◌-◌, ◌/◌, ◌≤◌}
use native.Mathlib.Omega.{arith}
use mathlib.Core.Path.{◌≡◌}
use mathlib.Core.List.{List}
use lib.ListN.{length}
use lib.Ieee.{Float}
use Rattle.row.specs.Window.{step_blocks}
use Rattle.elements.proofs.Recording.{all_counted, enough_places}
use Rattle.fits.specs.declared.estimate.Estimate.{Estimate}
use Rattle.fits.specs.List.{skipped_of}
use Rattle.fits.specs.Estimate.{refined, strong_elements, strong_fits, strong_estimate}
use Rattle.fits.proofs.Passes.{fits_few}
use Rattle.fits.proofs.Strong.{strong_counted}

module _ (iq : List Float) (fs hint : Float) (e : Estimate) (q : e ≡ strong_estimate iq fs hint) where
  pub listed_room : e.found.listed ≤ step_blocks iq fs / 2
  unfolding strong_estimate
  listed_room =
      let all = all_counted iq fs (refined iq fs hint) in
      let most = enough_places iq fs (refined iq fs hint) in
      rw q (omega arith)

  pub fitted_room : e.fitted ≤ step_blocks iq fs / 2
  unfolding strong_estimate strong_fits
  fitted_room = rw q (fits_few iq fs (refined iq fs hint))

  pub fitted_le_listed : e.fitted ≤ e.found.listed
  fitted_le_listed = let all = strong_counted iq fs hint in rw q (omega arith)

  pub skipped_is : e.found.listed - e.fitted ≡ length (skipped_of iq fs (refined iq fs hint) (strong_elements iq fs hint))
  skipped_is = let all = strong_counted iq fs hint in rw q (omega arith)
