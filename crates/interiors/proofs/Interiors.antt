-- The ways out of `interior_of`, and what an interior is: at least one sample long, and within the recording.
use Rattle.std.proofs.Common.{None, ap}
use mathlib.Core.Path.{◌≡◌, refl}
use mathlib.Core.Bool.{Bool, true, false, ◌||◌, cond}
use Prim.Native.Nat.{ℕ, ◌+◌, ◌^◌, ◌≤◌, ◌<◌}
use native.Mathlib.Nat.{le_trans}
use native.Mathlib.Omega.{arith}
use lib.IntN.{pos}
use lib.Dec.{T, lit≤, lit<}
use lib.Ieee.{Float, nan, inf, fin, binary64, round, mul, lt, le, eq, of_int, to_unsigned}
use lib.Ieee.Positive.{positive, mul_mono}
use Rattle.float.specs.Ops.{◌⊕◌, ◌⊖◌, ◌⊗◌, of, bits, plus_zero, fraction}
use Rattle.float.specs.Compare.{abs_of}
use Rattle.float.specs.Whole.{whole_by, floor_of, ceil_of}
use Rattle.float.proofs.Ordered.{unsigned_mono}
use Rattle.float.proofs.Monotone.{le_through, ceil_mono}
use Rattle.float.proofs.Within.{Within, within_finite, within_more, le_within, add_within, sub_within, mul_within}
use Rattle.float.proofs.Intervals.{interval_is}
use Rattle.row.specs.Window.{Rate}
use Rattle.row.specs.declared.span.Span.{Span}
use Rattle.constants.specs.Constants.{RISE_S, MIN_INTERIOR_S}
use Rattle.constants.proofs.Bits.{rise_bits}
use Rattle.interiors.specs.Interior.{inside, lo_of, hi_of, min_len, unfit, interior_of}
use Rattle.float.specs.Size.{sized}
use Rattle.row.proofs.Steps.{rate_pos}

pub lo_is : (fs start lo : Float) → lo ≡ ceil_of (start ⊕ bits 0x3f74_7ae1_47ae_147b ⊗ fs) → lo ≡ lo_of fs start
unfolding lo_of
lo_is fs start lo e = rw (rise_bits) e

pub hi_is : (fs end hi : Float) → hi ≡ floor_of (end ⊖ bits 0x3f74_7ae1_47ae_147b ⊗ fs) → hi ≡ hi_of fs end
unfolding hi_of
hi_is fs end hi e = rw (rise_bits) e

module _ (n : ℕ) (fs start end lo hi : Float) (e : lo ≡ lo_of fs start) (f : hi ≡ hi_of fs end) where
  pub before_it : lt lo plus_zero ≡ true → None ≡ interior_of n fs start end
  unfolding interior_of unfit
  before_it h = rw (← e, h)

  module _ (top : Float) (g : top ≡ of n) (h : lt lo plus_zero ≡ false) where
    pub past_it : lt top hi ≡ true → None ≡ interior_of n fs start end
    unfolding interior_of unfit
    past_it i = rw (← e, ← f, ← g, h, i)

    module _ (least : Float) (j : least ≡ of (min_len fs)) (i : lt top hi ≡ false) where
      pub too_short : lt (hi ⊖ lo) least ≡ true → None ≡ interior_of n fs start end
      unfolding interior_of unfit
      too_short k = rw (← e, ← f, ← g, ← j, h, i, k)

      pub long_enough : (a b : ℕ) → a ≡ to_unsigned 64 lo → b ≡ to_unsigned 64 hi → lt (hi ⊖ lo) least ≡ false → inside a b ≡ interior_of n fs start end
      unfolding interior_of unfit
      long_enough a b p q k = rw (p, q, ← e, ← f, ← g, ← j, h, i, k)

-- ---- what an interior is

-- the three tests of an || that is false
or_left : (a b : Bool) → (a || b) ≡ false → a ≡ false
or_left false b e = refl
or_left true b e = e

or_right : (a b : Bool) → (a || b) ≡ false → b ≡ false
or_right false b e = e
or_right true false e = refl
or_right true true e = e

positive_abs : (x : Float) → T (positive x) → abs_of x ≡ x
unfolding abs_of
positive_abs nan p = absurd p
positive_abs (inf s) p = absurd p
positive_abs (fin true m e) p = absurd p
positive_abs (fin false m e) p = refl

rise_small : Within 0 RISE_S
unfolding RISE_S fraction round
rise_small = lit≤ tt

rate_small : T (le (of 192000) (fin false 1 (pos 18)))
unfolding of_int round le lt eq
rate_small = tt

least_pos : T (positive MIN_INTERIOR_S) × T (le MIN_INTERIOR_S MIN_INTERIOR_S)
unfolding MIN_INTERIOR_S fraction round le lt eq
least_pos = (tt, tt)

ends_pos : T (positive (of 2000)) × T (positive (of 192000))
unfolding of_int round
ends_pos = (tt, tt)

least_ends : (min_len (of 2000) ≡ 20) × (min_len (of 192000) ≡ 1920)
unfolding min_len MIN_INTERIOR_S fraction round of_int mul ceil_of whole_by to_unsigned
least_ends = (refl, refl)

enough : (n : ℕ) → n ≤ 2 ^ 20 → n < 2 ^ 53
enough n h = omega arith

further : (a b m : ℕ) → 20 ≤ m → a + m ≤ b → a + 20 ≤ b
further a b m h g = omega arith

-- the least length grows with the rate
least_mono : (x y : Float) → T (positive x) → T (positive y) → T (le x y) → min_len x ≤ min_len y
unfolding min_len
least_mono x y p q h =
    let m = MIN_INTERIOR_S in
    unsigned_mono 64 _ _ (ceil_mono _ _ (mul_mono binary64 m m x y least_pos.0 least_pos.0 p q least_pos.1 h))

module _ (fs : Float) (r : Rate fs) where
  rise_within : Within 18 (RISE_S ⊗ fs)
  rise_within =
      mul_within binary64 RISE_S fs 0 18 (lit≤ tt) rise_small
      (le_within 18 fs (rw (positive_abs fs (rate_pos fs r)) (le_through fs (of 192000) (fin false 1 (pos 18)) r.high rate_small)))

  -- from 20 samples at 2,000 to 1,920 at 192,000
  least_low : 20 ≤ min_len fs
  least_low = rw least_ends.0 at (least_mono (of 2000) fs ends_pos.0 (rate_pos fs r) r.low)

  least_high : min_len fs ≤ 1920
  least_high = rw least_ends.1 at (least_mono fs (of 192000) (rate_pos fs r) ends_pos.1 r.high)

  -- the tests have failed
  module _ (n : ℕ) (few : n ≤ 2 ^ 20) (start end : Float) (s : T (sized start)) (t : T (sized end)) where
    fit_bounds : unfit n fs start end ≡ false → (to_unsigned 64 (lo_of fs start) + 20 ≤ to_unsigned 64 (hi_of fs end)) × (to_unsigned 64 (hi_of fs end) ≤ n)
    unfolding unfit lo_of hi_of sized
    fit_bounds e =
        let rise = within_more 18 200 (RISE_S ⊗ fs) (lit≤ tt) rise_within in
        let x = start ⊕ RISE_S ⊗ fs in
        let y = end ⊖ RISE_S ⊗ fs in
        let later = or_right (lt (ceil_of x) plus_zero) _ e in
        let i =
        interval_is x y n (min_len fs) (within_finite 201 x (add_within binary64 start (RISE_S ⊗ fs) 200 (lit< tt) (le_within 200 start s) rise))
        (within_finite 201 y (sub_within binary64 end (RISE_S ⊗ fs) 200 (lit< tt) (le_within 200 end t) rise))
        (enough n few) (le_trans (lit≤ tt) least_low) (le_trans least_high (lit≤ tt))
        (or_left (lt (ceil_of x) plus_zero) _ e) (or_left (lt (of n) (floor_of y)) _ later) (or_right (lt (of n) (floor_of y)) _ later) in
        (further _ _ _ least_low i.long, i.inside)

    pub interior_within : (a b : ℕ) → inside a b ≡ interior_of n fs start end → (a + 20 ≤ b) × (b ≤ n)
    unfolding interior_of
    interior_within a b e = go (unfit n fs start end) refl e
      where
        go : (u : Bool) → unfit n fs start end ≡ u → inside a b ≡ cond u None (inside (to_unsigned 64 (lo_of fs start)) (to_unsigned 64 (hi_of fs end))) → (a + 20 ≤ b) × (b ≤ n)
        go true p q = absurd (cc)
        go false p q =
            let same : ◌≡◌ {A = Span} record { lo = a; hi = b } record { lo = to_unsigned 64 (lo_of fs start); hi = to_unsigned 64 (hi_of fs end) } = cc in
            let i : a ≡ to_unsigned 64 (lo_of fs start) = ap (λ x. x.lo) same in
            let j : b ≡ to_unsigned 64 (hi_of fs end) = ap (λ x. x.hi) same in
            rw (i, j) (fit_bounds p)
