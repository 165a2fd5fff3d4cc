-- The step of the edge window grows with the rate, and lies from 1 to 64: it is 1 or more for every rate, and 64 at
-- 192,000.
use mathlib.Core.Path.{◌≡◌, refl, sym}
use mathlib.Core.Bool.{Bool, true, false, not, cond, false≢true}
use Prim.Native.Nat.{ℕ, ◌≤◌}
use native.Mathlib.Nat.{le_trans, le_of_eq}
use lib.Dec.{T, lit≤}
use lib.Ieee.{Float, nan, inf, fin, binary64, round, mul, div, lt, le, eq, is_nan, to_unsigned, of_bits, of_int}
use lib.Ieee.Positive.{positive, between, mul_mono}
use Rattle.float.specs.Ops.{◌⊗◌, ◌⊘◌, of, one, eight, fraction}
use Rattle.float.specs.Compare.{max_of}
use Rattle.float.specs.Whole.{whole_by, round_of}
use Rattle.float.proofs.Compared.{yes, no}
use Rattle.float.proofs.Ordered.{quotient_mono, unsigned_mono}
use Rattle.float.proofs.Monotone.{lt_le, not_lt_le, round_mono}
use Rattle.lists.proofs.Every.{and_left, and_right}
use Rattle.row.specs.Window.{rate_ok, Rate, step_of}
use Rattle.constants.specs.Constants.{EDGE_WINDOW_S}

-- what a yes to question 1 says
pub rate_is : (fs : Float) → rate_ok fs ≡ true → Rate fs
unfolding rate_ok
rate_is fs h =
    let a = le (of 2000) fs in
    let b = le fs (of 192000) in
    record { low = yes {b = a} (and_left a b h); high = yes {b = b} (and_right a b h) }

-- ---- `.max(1.0) as usize`

one_is : (to_unsigned 64 one ≡ 1) × T (not (is_nan one))
unfolding of_bits to_unsigned is_nan
one_is = (refl, tt)

nan_zero : (x : Float) → is_nan x ≡ true → to_unsigned 64 x ≡ 0
unfolding is_nan to_unsigned
nan_zero nan e = refl
nan_zero (inf s) e = absurd (false≢true e)
nan_zero (fin s m d) e = absurd (false≢true e)

-- it is the cast of x or 1, whichever is more
module _ (x : Float) where
  pick_low : (n t : Bool) → is_nan x ≡ n → lt x one ≡ t → 1 ≤ to_unsigned 64 (cond n one (cond t one x))
  pick_low true t p q = le_of_eq (sym one_is.0)
  pick_low false true p q = le_of_eq (sym one_is.0)
  pick_low false false p q = rw (← one_is.0) (unsigned_mono 64 one x (not_lt_le x one (no p) one_is.1 (no q)))

  pick_over : (n t : Bool) → is_nan x ≡ n → lt x one ≡ t → to_unsigned 64 x ≤ to_unsigned 64 (cond n one (cond t one x))
  pick_over true t p q = rw (nan_zero x p, one_is.0) (lit≤ tt)
  pick_over false true p q = unsigned_mono 64 x one (lt_le x one (yes q))
  pick_over false false p q = le_of_eq refl

  pick_high : (k : ℕ) (n t : Bool) → 1 ≤ k → to_unsigned 64 x ≤ k → to_unsigned 64 (cond n one (cond t one x)) ≤ k
  pick_high k true t h g = rw one_is.0 h
  pick_high k false true h g = rw one_is.0 h
  pick_high k false false h g = g

  pub max_low : 1 ≤ to_unsigned 64 (max_of x one)
  unfolding max_of
  max_low = pick_low (is_nan x) (lt x one) refl refl

  pub max_over : to_unsigned 64 x ≤ to_unsigned 64 (max_of x one)
  unfolding max_of
  max_over = pick_over (is_nan x) (lt x one) refl refl

  pub max_high : (k : ℕ) → 1 ≤ k → to_unsigned 64 x ≤ k → to_unsigned 64 (max_of x one) ≤ k
  unfolding max_of
  max_high k h g = pick_high k (is_nan x) (lt x one) h g

pub max_mono : (x y : Float) → T (le x y) → to_unsigned 64 (max_of x one) ≤ to_unsigned 64 (max_of y one)
max_mono x y h = max_high x (to_unsigned 64 (max_of y one)) (max_low y) (le_trans (unsigned_mono 64 x y h) (max_over y))

-- ---- the step

abbrev wide : Float → Float
wide fs = fs ⊗ EDGE_WINDOW_S

window_is : T (positive EDGE_WINDOW_S) × T (le EDGE_WINDOW_S EDGE_WINDOW_S)
unfolding EDGE_WINDOW_S fraction round le lt eq
window_is = (tt, tt)

eight_is : T (positive eight) × T (le eight eight)
unfolding of_bits le lt eq
eight_is = (tt, tt)

ends_pos : T (positive (of 2000)) × T (positive (of 192000)) × T (positive (wide (of 2000))) × T (positive (wide (of 192000)))
unfolding EDGE_WINDOW_S fraction round of_int mul
ends_pos = (tt, tt, tt, tt)

wide_mono : (x y : Float) → T (positive x) → T (positive y) → T (le x y) → T (le (wide x) (wide y))
wide_mono x y p q h = let w = EDGE_WINDOW_S in mul_mono binary64 x y w w p q window_is.0 window_is.0 h window_is.1

pub rate_pos : (fs : Float) → Rate fs → T (positive fs)
rate_pos fs r = between (of 2000) fs (of 192000) ends_pos.0 ends_pos.1 r.low r.high

wide_pos : (fs : Float) → Rate fs → T (positive (wide fs))
wide_pos fs r =
    let p = rate_pos fs r in
    between (wide (of 2000)) (wide fs) (wide (of 192000)) ends_pos.2 ends_pos.3 (wide_mono (of 2000) fs ends_pos.0 p r.low)
    (wide_mono fs (of 192000) p ends_pos.1 r.high)

pub step_mono : (x y : Float) → Rate x → Rate y → T (le x y) → step_of x ≤ step_of y
unfolding step_of
step_mono x y p q h =
    let e = eight_is.0 in
    let w = wide_mono x y (rate_pos x p) (rate_pos y q) h in
    max_mono (round_of (wide x ⊘ eight)) (round_of (wide y ⊘ eight))
    (round_mono (wide x ⊘ eight) (wide y ⊘ eight) (quotient_mono binary64 (wide x) (wide y) eight eight (wide_pos x p) (wide_pos y q) e e w eight_is.1))

pub step_low : (fs : Float) → 1 ≤ step_of fs
unfolding step_of
step_low fs = max_low (round_of (wide fs ⊘ eight))

highest : Rate (of 192000)
unfolding of_int round le lt eq
highest = record { low = tt; high = tt }

step_highest : step_of (of 192000) ≡ 64
unfolding step_of EDGE_WINDOW_S fraction round of_int mul div of_bits round_of whole_by max_of is_nan lt to_unsigned
step_highest = refl

pub step_high : (fs : Float) → Rate fs → step_of fs ≤ 64
step_high fs r = le_trans (step_mono fs (of 192000) r highest r.high) (le_of_eq step_highest)
