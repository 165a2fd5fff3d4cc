-- The run's four conditions at their ends. No row of 01's table: part 7 says them in words. A step or a ratio that is
-- one place of the last digit above its threshold is above it. Assumes nothing.
use Prim.Native.Nat.{ℕ, ◌+◌, ◌-◌, ◌*◌, ◌^◌}
use mathlib.Core.Path.{◌≡◌, refl}
use mathlib.Core.Bool.{true, false, and-false}
use lib.Ieee.{Float, nan, neg, lt, le, eq, of_int, round}
use Rattle.float.specs.Ops.{of, fraction}
use Rattle.float.specs.Compare.{abs_of}
use Rattle.constants.specs.Constants.{MAX_CARRIER_STEP_HZ, CLEAN_EDGE_OVER_NEIGHBOUR_DB, CLEAN_INTERIOR_OVER_NEIGHBOUR_DB}
use Rattle.measure.specs.declared.hypothesis.Hypothesis.{Hypothesis}
use Rattle.measure.specs.declared.hypothesis.Hypothesis.TheVariants.{OneSignal, TwoSignalCw, NonCw, Unresolved}
use Rattle.measure.specs.declared.residual.ResidualCheck.{ResidualCheck}
use Rattle.measure.specs.Residual.{clean_of}
use Rattle.engine.specs.Run.{takes}

-- a residual check with these ratios, of so many edge, interior and gap blocks
abbrev ratios : Float → Float → ℕ → ℕ → ℕ → ResidualCheck
ratios edge interior e i g =
    record { edge_over_neighbour_db = edge; interior_over_neighbour_db = interior; edge_blocks = e; interior_blocks = i; gap_blocks = g }

-- the next f64 above 5, above −7 and above −10
abbrev above_5 : Float
above_5 = fraction (5 * 2 ^ 50 + 1) (2 ^ 50)

abbrev above_7 : Float
above_7 = neg (fraction (7 * 2 ^ 50 - 1) (2 ^ 50))

abbrev above_10 : Float
above_10 = neg (fraction (10 * 2 ^ 49 - 1) (2 ^ 49))

-- TwoSignalCw, 20 fits, a step of 5 to either side, both ratios at their thresholds: taken
pub all_four : (e i g : ℕ)
    → (takes (TwoSignalCw (of 10)) 20 (of 5) (ratios (neg (of 7)) (neg (of 10)) e i g) ≡ true)
    × (takes (TwoSignalCw (of 10)) 20 (neg (of 5)) (ratios (neg (of 7)) (neg (of 10)) e i g) ≡ true)
unfolding takes clean_of MAX_CARRIER_STEP_HZ CLEAN_EDGE_OVER_NEIGHBOUR_DB CLEAN_INTERIOR_OVER_NEIGHBOUR_DB abs_of neg le lt eq of_int
all_four e i g = (refl, refl)

-- any other hypothesis, 19 fits, a step above 5 to either side or a NaN, a ratio above its threshold: kept, whatever
-- the rest
pub other_hypotheses : (fitted : ℕ) (step : Float) (r : ResidualCheck)
    → (takes OneSignal fitted step r ≡ false) × (takes NonCw fitted step r ≡ false) × (takes Unresolved fitted step r ≡ false)
unfolding takes
other_hypotheses fitted step r = (refl, refl, refl)

module _ (h : Hypothesis) where
  pub nineteen_fits : (step : Float) (r : ResidualCheck) → takes h 19 step r ≡ false
  unfolding takes
  nineteen_fits step r = rw and-false

  module _ (fitted : ℕ) where
    large_step : (step : Float) (r : ResidualCheck) → le (abs_of step) MAX_CARRIER_STEP_HZ ≡ false → takes h fitted step r ≡ false
    unfolding takes
    large_step step r e = rw (e, and-false)

    pub large_steps : (r : ResidualCheck)
        → (takes h fitted above_5 r ≡ false) × (takes h fitted (neg above_5) r ≡ false) × (takes h fitted nan r ≡ false)
    unfolding MAX_CARRIER_STEP_HZ fraction round abs_of neg le lt eq of_int
    large_steps r = (large_step above_5 r refl, large_step (neg above_5) r refl, large_step nan r refl)

    not_clean : (step : Float) (r : ResidualCheck) → clean_of r ≡ false → takes h fitted step r ≡ false
    unfolding takes
    not_clean step r e = rw (e, and-false)

    pub large_ratios : (step other : Float) (e i g : ℕ)
        → (takes h fitted step (ratios above_7 other e i g) ≡ false) × (takes h fitted step (ratios other above_10 e i g) ≡ false)
    unfolding clean_of CLEAN_EDGE_OVER_NEIGHBOUR_DB CLEAN_INTERIOR_OVER_NEIGHBOUR_DB fraction round neg le lt eq of_int
    large_ratios step other e i g = (not_clean step (ratios above_7 other e i g) refl, not_clean step (ratios other above_10 e i g) (rw and-false))
