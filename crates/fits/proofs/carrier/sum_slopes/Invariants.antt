use mathlib.Core.Path.{◌≡◌}
use Rattle.float.specs.Ops.{plus_zero}
use Rattle.fits.specs.List.{fits_in}
use Rattle.fits.specs.Carrier.{fit_weight, weighted_slope}
use Rattle.lists.specs.Sums.{sum_over}
use Rattle.fits.proofs.carrier.sum_slopes.Given as goal

abbrev pub invariant-loop-place : goal.invariant-loop-place
invariant-loop-place l = let so_far = fits_in l.fits.numbers.now l.place-index in record {
  num : l.num ≡ sum_over (weighted_slope l.fs) plus_zero so_far;
  den : l.den ≡ sum_over (fit_weight l.fs) plus_zero so_far;
}
