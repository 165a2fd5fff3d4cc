-- A block of the slope fit is no shorter than the step of the edge window, at any rate from 2,000 to 192,000: both
-- grow with the rate, and from each rate of a list to the next the step at the end is at most the block at the
-- beginning.
use mathlib.Core.Path.{◌≡◌, refl}
use mathlib.Core.Bool.{Bool, true, false, not, ◌&&◌}
use mathlib.Core.List.{List, [], ◌∷◌}
use Prim.Native.Nat.{ℕ, ◌≤◌}
use native.Mathlib.Nat.{le_trans}
use lib.Dec.{T, leb, leb→le}
use lib.Ieee.{Float, nan, inf, fin, binary64, lt, le, eq, is_nan, mul, div, round, of_int, of_bits, to_unsigned}
use lib.Ieee.Bits.{is_true}
use lib.Ieee.Fits.{and_l, and_r}
use lib.Ieee.Positive.{positive, mul_mono}
use Rattle.float.specs.Ops.{◌⊗◌, of, fraction}
use Rattle.float.specs.Compare.{max_of}
use Rattle.float.specs.Whole.{round_of, whole_by}
use Rattle.float.proofs.Compared.{yes, no}
use Rattle.float.proofs.Monotone.{lt_le, not_lt_le, round_mono}
use Rattle.row.specs.Window.{Rate, rate_ok, step_of}
use Rattle.constants.specs.Constants.{EDGE_WINDOW_S, SLOPE_BLOCK_S}
use Rattle.row.proofs.Steps.{rate_is, rate_pos, max_low, max_mono, step_mono}
use Rattle.interiors.specs.Interior.{slope_block}

pub block_some : (fs : Float) → 1 ≤ slope_block fs
unfolding slope_block
block_some fs = max_low (round_of (SLOPE_BLOCK_S ⊗ fs))

-- a block grows with the rate
block_pos : T (positive SLOPE_BLOCK_S) × T (le SLOPE_BLOCK_S SLOPE_BLOCK_S)
unfolding SLOPE_BLOCK_S fraction round le lt eq
block_pos = (tt, tt)

block_mono : (x y : Float) → Rate x → Rate y → T (le x y) → slope_block x ≤ slope_block y
unfolding slope_block
block_mono x y p q h =
    let s = SLOPE_BLOCK_S in
    max_mono _ _ (round_mono _ _ (mul_mono binary64 s s x y block_pos.0 block_pos.0 (rate_pos x p) (rate_pos y q) block_pos.1 h))

-- ---- from each rate of a list to the next, and from the last to 192,000
within_ok : ℕ → ℕ → Bool
within_ok a b = leb (step_of (of b)) (slope_block (of a))

grid_ok : ℕ → List ℕ → Bool
grid_ok a [] = rate_ok (of a) && (rate_ok (of 192000) && within_ok a 192000)
grid_ok a (b ∷ g) = rate_ok (of a) && (within_ok a b && grid_ok b g)

grid : List ℕ
grid = 4400 ∷ 7400 ∷ 13400 ∷ 22400 ∷ 34400 ∷ 52400 ∷ 79400 ∷ 121400 ∷ 184400 ∷ []

grid_is : T (grid_ok 2000 grid)
unfolding grid_ok grid within_ok rate_ok step_of slope_block EDGE_WINDOW_S SLOPE_BLOCK_S fraction round of_int mul div of_bits round_of whole_by max_of is_nan lt le eq to_unsigned
grid_is = tt

rate_of : (a : ℕ) → T (rate_ok (of a)) → Rate (of a)
rate_of a t = rate_is (of a) (is_true (rate_ok (of a)) t)

grid_starts : (a : ℕ) (g : List ℕ) → T (grid_ok a g) → Rate (of a)
unfolding grid_ok
grid_starts a [] k = rate_of a (and_l (rate_ok (of a)) (rate_ok (of 192000) && within_ok a 192000) k)
grid_starts a (b ∷ g) k = rate_of a (and_l (rate_ok (of a)) (within_ok a b && grid_ok b g) k)

no_nan : (x : Float) → T (positive x) → T (not (is_nan x))
unfolding is_nan
no_nan nan p = absurd p
no_nan (inf s) p = absurd p
no_nan (fin s m e) p = tt

module _ (fs : Float) (r : Rate fs) where
  step_between : (a b : ℕ) → Rate (of a) → Rate (of b) → T (within_ok a b) → T (le (of a) fs) → T (le fs (of b)) → step_of fs ≤ slope_block fs
  unfolding within_ok
  step_between a b p q k h g =
      le_trans (step_mono fs (of b) r q g) (le_trans (leb→le (step_of (of b)) (slope_block (of a)) k) (block_mono (of a) fs p r h))

  step_along : (a : ℕ) (g : List ℕ) → T (grid_ok a g) → T (le (of a) fs) → step_of fs ≤ slope_block fs
  unfolding grid_ok
  step_along a [] k h =
      let more = and_r (rate_ok (of a)) (rate_ok (of 192000) && within_ok a 192000) k in
      step_between a 192000 (grid_starts a [] k) (rate_of 192000 (and_l (rate_ok (of 192000)) (within_ok a 192000) more)) (and_r (rate_ok (of 192000)) (within_ok a 192000) more) h r.high
  step_along a (b ∷ g) k h = go (lt fs (of b)) refl (step_along b g rest)
    where
      more : T (within_ok a b && grid_ok b g)
      more = and_r (rate_ok (of a)) (within_ok a b && grid_ok b g) k

      rest : T (grid_ok b g)
      rest = and_r (within_ok a b) (grid_ok b g) more

      next : Rate (of b)
      next = grid_starts b g rest

      go : (t : Bool) → lt fs (of b) ≡ t → (T (le (of b) fs) → step_of fs ≤ slope_block fs) → step_of fs ≤ slope_block fs
      go true e on = step_between a b (grid_starts a (b ∷ g) k) next (and_l (within_ok a b) (grid_ok b g) more) h (lt_le fs (of b) (yes e))
      go false e on = on (not_lt_le fs (of b) (no_nan fs (rate_pos fs r)) (no_nan (of b) (rate_pos (of b) next)) (no e))

  pub step_le_block : step_of fs ≤ slope_block fs
  step_le_block = step_along 2000 grid grid_is r.low
