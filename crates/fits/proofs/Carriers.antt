-- Sums over the fits of a list, and the mean slope.
use Prim.Native.Nat.{ℕ, ◌+◌}
use native.Mathlib.Numerals.{add-one}
use mathlib.Core.Path.{◌≡◌, refl}
use mathlib.Core.Bool.{true, false}
use mathlib.Core.List.{List}
use lib.Ieee.{Float, lt}
use Rattle.float.specs.Ops.{◌⊕◌, ◌⊗◌, ◌⊘◌, bits, plus_zero}
use Rattle.trig.proofs.Bits.{tau_bits}
use Rattle.fits.specs.declared.fit.ElementFit.{ElementFit}
use Rattle.lists.specs.Firsts.{firsts}
use Rattle.fits.specs.List.{fit_at, fits_in}
use Rattle.lists.specs.Sums.{sum_over}
use Rattle.fits.specs.Carrier.{fit_weight, weighted_slope, mean_slope}
use Rattle.lists.proofs.Sums.{over_more}

-- A loop over the fits of a list, at place k: before it, and a turn of it.
module _ (figure : ElementFit → Float) (l : List Float) where
  pub over_none : plus_zero ≡ sum_over figure plus_zero (fits_in l 0)
  unfolding sum_over fits_in firsts
  over_none = refl

  pub over_turn : (k : ℕ) (acc x r : Float) (f : ElementFit)
      → acc ≡ sum_over figure plus_zero (fits_in l k) → f ≡ fit_at l k → x ≡ figure f → r ≡ acc ⊕ x → r ≡ sum_over figure plus_zero (fits_in l (k + 1))
  unfolding fits_in firsts
  over_turn k acc x r f p e q h = rw (add-one, over_more figure plus_zero (firsts (fit_at l) k) (fit_at l k), ← e, ← q, ← p, h)

-- ---- the two ways out of `mean_slope_hz`
module _ (fs : Float) (fits : List ElementFit) (num den : Float) (n : num ≡ sum_over (weighted_slope fs) plus_zero fits) (d : den ≡ sum_over (fit_weight fs) plus_zero fits) where
  pub mean_some : lt plus_zero den ≡ true → num ⊘ den ⊗ fs ⊘ bits 0x4019_21fb_5444_2d18 ≡ mean_slope fs fits
  unfolding mean_slope
  mean_some h = rw (← d, ← n, h, tau_bits)

  pub mean_none : lt plus_zero den ≡ false → plus_zero ≡ mean_slope fs fits
  unfolding mean_slope
  mean_none h = rw (← d, h)
