-- The first k fits are taken off each mean.
use Prim.Native.Nat.{ℕ, ◌<◌}
use mathlib.Core.Path.{◌≡◌}
use Rattle.complex.specs.Rows.{z_at}
use Rattle.fits.specs.List.{fits_in}
use Rattle.prepared.specs.Left.{less_fits}
use Rattle.prepared.proofs.left.subtract_from_means.Given as goal

abbrev pub invariant-loop-place : goal.invariant-loop-place
invariant-loop-place l =
    (b : ℕ) → b < l.blocks.count → z_at l.row b ≡ less_fits l.blocks.fs l.blocks.window l.blocks.count (fits_in l.fits.numbers.now l.place-index) b (z_at l.initial.row b)
