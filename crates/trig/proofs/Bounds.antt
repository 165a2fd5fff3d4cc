-- The sine and the cosine are finite, of size at most 2 ^ 50, at every x, a NaN and the infinities included: beyond 7
-- they are 0.0, and up to 7 each step has a bound. Assumes nothing.
use Rattle.std.proofs.Common.{ℕ, ◌-◌, ◌^◌, ◌<◌, ◌≤◌, Bool, true, false, cond, not, T, leb, get_or, zero-le, le_trans, le_of_eq, lit<, lit≤, leb→le}
use lib.Dec.{nleb→lt}
use lib.ListN.{get_or-eq_default}
use lib.Ieee.{Float, round, div, le, of_int}
use Rattle.float.specs.Ops.{of, fraction, plus_zero, ◌⊘◌}
use Rattle.float.specs.Compare.{abs_of}
use Rattle.float.proofs.Bounds.{Bounded, bounded_zero, bounded_more, bounded_shift, bounded_neg, bounded_cond, bounded_add, bounded_sub, bounded_mul, bounded_div, bounded_round, bounded_whole, bounded_ratio, bounded_le, beyond_whole}
use Rattle.trig.specs.Consts.{PI}
use Rattle.trig.specs.Sine.{sine_table}
use Rattle.trig.proofs.Rules.{sine_small}
use Rattle.trig.specs.Circle.{rest_of, small_sine, small_cosine, entry_of, sine_at, sin_of, cos_of}

-- ---- the table

entry_le : (k : ℕ) → get_or sine_table k 0 ≤ 2 ^ 53
unfolding sine_table
entry_le k = go (leb 1025 k) (leb→le 1025 k) (nleb→lt 1025 k)
  where
    go : (t : Bool) → (T t → 1025 ≤ k) → (T (not t) → k < 1025) → get_or sine_table k 0 ≤ 2 ^ 53
    go true past here = le_trans (le_of_eq (get_or-eq_default sine_table 0 (past tt))) zero-le
    go false past here = sine_small k (here tt)

entry_bounded : (k : ℕ) → Bounded 0 2 (entry_of k)
entry_bounded k = bounded_ratio 2 (get_or sine_table k 0) (2 ^ 52) (lit< tt) (lit≤ tt) (entry_le k) (lit≤ tt) (entry_le k)

sine_at_bounded : (p : ℕ) → Bounded 0 2 (sine_at p)
unfolding sine_at
sine_at_bounded p =
    bounded_cond (leb p 1024) (entry_bounded p)
    (bounded_cond (leb p 2048) (entry_bounded (2048 - p))
    (bounded_cond (leb p 3072) (bounded_neg (entry_bounded (p - 2048))) (bounded_neg (entry_bounded (4096 - p)))))

-- ---- what is left of x, up to 7

per_radian : Bounded 0 652 (of 2048 ⊘ PI)
unfolding of_int PI fraction round div
per_radian = record { bound = lit≤ tt }

per_place : Bounded 0 1 (PI ⊘ of 2048)
unfolding of_int PI fraction round div
per_place = record { bound = lit≤ tt }

rest_bounded : (x : Float) → Bounded 0 7 x → Bounded 0 4571 (rest_of x)
rest_bounded x h =
    bounded_sub h (bounded_mul (bounded_round (bounded_mul h per_radian (lit≤ tt) (lit≤ tt)) (lit≤ tt) (lit≤ tt)) per_place (lit≤ tt) (lit≤ tt)) (lit≤ tt) (lit≤ tt)

-- ---- s and c, from a bound of r

small_sine_lem : (r : Float) → Bounded 0 4571 r → Bounded 0 (2 ^ 37) (small_sine r)
small_sine_lem r h =
    bounded_more
    (bounded_sub h (bounded_div (bounded_mul (bounded_mul h h (lit≤ tt) (lit≤ tt)) h (lit≤ tt) (lit≤ tt)) (beyond_whole 6 (lit≤ tt) (lit≤ tt)) (lit≤ tt) (lit≤ tt)) (lit≤ tt) (lit≤ tt))
    (lit≤ tt) (lit≤ tt)

small_cosine_lem : (r : Float) → Bounded 0 4571 r → Bounded 0 (2 ^ 49 - 2 ^ 38) (small_cosine r)
small_cosine_lem r h =
    let square = bounded_mul h h (lit≤ tt) (lit≤ tt) in
    bounded_more
    (bounded_add
    (bounded_sub (bounded_whole 1 (lit≤ tt)) (bounded_div square (beyond_whole 2 (lit≤ tt) (lit≤ tt)) (lit≤ tt) (lit≤ tt)) (lit≤ tt) (lit≤ tt))
    (bounded_div (bounded_mul (bounded_mul square h (lit≤ tt) (lit≤ tt)) h (lit≤ tt) (lit≤ tt)) (beyond_whole 24 (lit≤ tt) (lit≤ tt)) (lit≤ tt) (lit≤ tt))
    (lit≤ tt) (lit≤ tt))
    (lit≤ tt) (lit≤ tt)

-- ---- the sine and the cosine

-- 0.0 where the test |x| ≤ 7 fails
tested : {k a : ℕ} (x y : Float) → (Bounded 0 7 x → Bounded k a y) → Bounded k a (cond (le (abs_of x) (of 7)) y plus_zero)
tested {k} {a} x y h = go (le (abs_of x) (of 7)) (bounded_le x 7 (lit≤ tt))
  where
    go : (t : Bool) → (T t → Bounded 0 7 x) → Bounded k a (cond t y plus_zero)
    go true g = h (g tt)
    go false g = bounded_more bounded_zero zero-le zero-le

pub sine_bounded : (x : Float) → Bounded 50 1 (sin_of x)
unfolding sin_of
sine_bounded x =
    tested x _ (λ h.
    bounded_shift 50 {k = 0}
    (bounded_more
    (bounded_add (bounded_mul (sine_at_bounded _) (small_cosine_lem (rest_of x) (rest_bounded x h)) (lit≤ tt) (lit≤ tt)) (bounded_mul (sine_at_bounded _) (small_sine_lem (rest_of x) (rest_bounded x h)) (lit≤ tt) (lit≤ tt)) (lit≤ tt) (lit≤ tt))
    (lit≤ tt) (lit≤ tt)))

pub cosine_bounded : (x : Float) → Bounded 50 1 (cos_of x)
unfolding cos_of
cosine_bounded x =
    tested x _ (λ h.
    bounded_shift 50 {k = 0}
    (bounded_more
    (bounded_sub (bounded_mul (sine_at_bounded _) (small_cosine_lem (rest_of x) (rest_bounded x h)) (lit≤ tt) (lit≤ tt)) (bounded_mul (sine_at_bounded _) (small_sine_lem (rest_of x) (rest_bounded x h)) (lit≤ tt) (lit≤ tt)) (lit≤ tt) (lit≤ tt))
    (lit≤ tt) (lit≤ tt)))
