-- The residual check at its ends: the row of 01's edge table that speaks of it, and what `ratio_db` and `clean` make of
-- infinities, of a NaN and of powers below the smallest normal number. Assumes nothing.
use Rattle.std.proofs.Common.{Some, None}
use Rattle.std.specs.declared.option.Option.{Option}
use Prim.Native.Nat.{ℕ, ◌^◌}
use native.Mathlib.Omega.{arith}
use mathlib.Core.Path.{◌≡◌, refl}
use mathlib.Core.Bool.{true, false, and-false}
use mathlib.Core.List.{List, [], ◌∷◌}
use lib.ListN.{length}
use lib.Ieee.{Float, nan, inf, neg, lt, le, eq, is_nan, of_bits, of_int, round, add, sub, mul, div}
use Rattle.float.specs.Ops.{of, fraction, half, plus_zero}
use Rattle.float.specs.Compare.{max_of}
use Rattle.logarithm.specs.Logarithm.{mantissa_of, exponent_of, series, log_of, log10_of}
use Rattle.trig.specs.Consts.{LN_2, LN_10}
use Rattle.constants.specs.Constants.{MIN_POSITIVE, CLEAN_EDGE_OVER_NEIGHBOUR_DB, CLEAN_INTERIOR_OVER_NEIGHBOUR_DB}
use Rattle.complex.specs.declared.value.Complex.{Complex}
use Rattle.rank.specs.Select.{percentile_of}
use Rattle.fits.specs.declared.fit.ElementFit.{ElementFit}
use Rattle.classes.specs.declared.class.BlockClass.{BlockClass}
use Rattle.classes.specs.declared.class.BlockClass.TheVariants.{Edge, Interior, Gap}
use Rattle.measure.specs.declared.residual.ResidualCheck.{ResidualCheck}
use Rattle.prepared.specs.Powers.{powers_of}
use Rattle.prepared.specs.Left.{residual_mean}
use Rattle.measure.specs.Residual.{ratio_db, floored, figures_of, residual_of, clean_of}

no_median : percentile_of [] half ≡ None
unfolding percentile_of
no_median = refl

-- ---- a class with no block

infinite_edge : (r : ResidualCheck) → r.edge_over_neighbour_db ≡ inf false → clean_of r ≡ false
unfolding clean_of CLEAN_EDGE_OVER_NEIGHBOUR_DB of_int neg le lt eq
infinite_edge r e = rw e

infinite_interior : (r : ResidualCheck) → r.interior_over_neighbour_db ≡ inf false → clean_of r ≡ false
unfolding clean_of CLEAN_INTERIOR_OVER_NEIGHBOUR_DB of_int neg le lt eq
infinite_interior r e = rw (e, and-false)

nothing_over : (den : Option Float) → ratio_db None den ≡ inf false
unfolding ratio_db
nothing_over den = refl

over_nothing : (num : Option Float) → ratio_db num None ≡ inf false
unfolding ratio_db
over_nothing (Some n) = refl
over_nothing None = refl

empty : (l : List Float) → length l ≡ 0 → l ≡ []
empty [] e = refl
empty (x ∷ l) e = let z : ◌≡◌ {A = ℕ} 0 1 = cc in absurd (omega arith)

module _ (edge interior gap : List Float) where
  figures_no_edge : length edge ≡ 0 → (figures_of edge interior gap).edge_over_neighbour_db ≡ inf false
  unfolding figures_of
  figures_no_edge e = rw (empty edge e, no_median) (nothing_over _)

  figures_no_interior : length interior ≡ 0 → (figures_of edge interior gap).interior_over_neighbour_db ≡ inf false
  unfolding figures_of
  figures_no_interior e = rw (empty interior e, no_median) (nothing_over _)

  figures_no_gap : length gap ≡ 0 → ((figures_of edge interior gap).edge_over_neighbour_db ≡ inf false) × ((figures_of edge interior gap).interior_over_neighbour_db ≡ inf false)
  unfolding figures_of percentile_of floored
  figures_no_gap e = (rw (empty gap e) (over_nothing _), rw (empty gap e) (over_nothing _))

module _ (fs : Float) (z : ℕ → Complex) (class : ℕ → BlockClass) (blocks : ℕ) (fits : List ElementFit) where
  abbrev check : ResidualCheck
  check = residual_of fs z class blocks fits

  abbrev left : BlockClass → List Float
  left c = powers_of c class (residual_mean fs blocks fits z) blocks

  -- Edge blocks empty: ratio +∞, not clean.
  pub no_edge_blocks : check.edge_blocks ≡ 0 → (check.edge_over_neighbour_db ≡ inf false) × (clean_of check ≡ false)
  unfolding residual_of figures_of
  no_edge_blocks e = let h = figures_no_edge (left Edge) (left Interior) (left Gap) e in (h, infinite_edge check h)

  -- the same of interior blocks, and of gap blocks, without which both are infinite
  pub no_interior_blocks : check.interior_blocks ≡ 0 → (check.interior_over_neighbour_db ≡ inf false) × (clean_of check ≡ false)
  unfolding residual_of figures_of
  no_interior_blocks e = let h = figures_no_interior (left Edge) (left Interior) (left Gap) e in (h, infinite_interior check h)

  pub no_gap_blocks : check.gap_blocks ≡ 0 → (check.edge_over_neighbour_db ≡ inf false) × (check.interior_over_neighbour_db ≡ inf false) × (clean_of check ≡ false)
  unfolding residual_of figures_of
  no_gap_blocks e = let h = figures_no_gap (left Edge) (left Interior) (left Gap) e in (h.0, h.1, infinite_edge check h.0)

-- ---- ends of `ratio_db`, computed

-- silence in the gaps: the neighbour's level is the smallest normal number, and 4.0 over it is too large
pub over_silence : ratio_db (Some (of 4)) (floored (Some plus_zero)) ≡ inf false
unfolding ratio_db floored max_of is_nan lt MIN_POSITIVE fraction round of_int of_bits mul div log10_of
over_silence = refl

-- nothing left: −∞ over a neighbour far above the smallest normal number, and 0 dB over silence, where both sides count
-- as that number
pub nothing_left : ratio_db (Some plus_zero) (floored (Some (of (2 ^ 60)))) ≡ inf true
unfolding ratio_db floored max_of is_nan lt MIN_POSITIVE fraction round of_int of_bits mul div log10_of
nothing_left = refl

pub nothing_over_silence : ratio_db (Some plus_zero) (floored (Some plus_zero)) ≡ plus_zero
unfolding ratio_db floored max_of is_nan lt MIN_POSITIVE fraction round of_int of_bits add sub mul div neg log10_of mantissa_of exponent_of log_of series LN_2 LN_10
nothing_over_silence = refl

-- ---- `clean`: at the thresholds, −∞, +∞ and a NaN

abbrev figures : Float → Float → ResidualCheck
figures e i = record { edge_over_neighbour_db = e; interior_over_neighbour_db = i; edge_blocks = 1; interior_blocks = 1; gap_blocks = 1 }

pub clean_ends : (clean_of (figures (neg (of 7)) (neg (of 10))) ≡ true) × (clean_of (figures (inf true) (inf true)) ≡ true)
    × (clean_of (figures nan (inf true)) ≡ false) × (clean_of (figures (inf true) nan) ≡ false)
    × (clean_of (figures (inf false) (inf true)) ≡ false) × (clean_of (figures (inf true) (inf false)) ≡ false)
unfolding clean_of CLEAN_EDGE_OVER_NEIGHBOUR_DB CLEAN_INTERIOR_OVER_NEIGHBOUR_DB of_int round neg le lt eq
clean_ends = (refl, refl, refl, refl, refl, refl)
