-- a % b by |a| and |b|: what their bit patterns are where there is something to divide (`sizes`), and what a's sign
-- does to the remainder (`sign_plus`, `sign_minus`); where there is no number (`not_finite`, `no_divisor`). Assumes
-- nothing.
use Rattle.std.proofs.Common.{◌≡◌, ℕ, zero, suc, ◌+◌, ◌*◌, ◌/◌, ◌%◌, ◌^◌, ◌<◌, ◌≤◌, Bool, true, false, cond, not, T, eqb, ℤ, sym, refl, ap, ◌∙◌, subst, true≢false, mul-pos, zero-lt-suc, zero-mul, mul-one, arith, pow_pos, T_not}
use mathlib.Core.Bool.{false≢true}
use native.Mathlib.Nat.{le_of_mul-le-mul_right}
use native.Mathlib.Decide.{dec_lt}
use borrow.Author.Tests.{le-leb}
use lib.Ieee.{Float, nan, inf, fin, binary64, up, down, odd, round, neg, rem, lt, fits, of_fields, of_bits, to_bits, is_nan}
use lib.Ieee.Bits.{of_bits-to_bits}
use lib.Ieee.Exact.{HasValue, odd_sign}
use lib.Ieee.Fits.{up_pos, down_pos, neg-fits}
use Rattle.float.specs.Compare.{abs_of}
use Rattle.float.specs.Inner.{counted}
use Rattle.float.specs.Size.{finite_f}
use Rattle.float.proofs.Compared.{nought, yes as holds, no as fails, lt→cross, nlt→cross, cross→lt}
use Rattle.float.proofs.Exactly.{neg_round}
use Rattle.float.proofs.Sums.{under_zero, not_under, over_zero}
use Rattle.float.proofs.Value.{counted_value, above_inf}

-- ---- the pattern of a finite value with the sign clear
no_plus : (v : Float) (a c m : ℕ) (e : ℤ) → HasValue v true a c → v ≡ fin false m e → ⊥
no_plus v a c m e p h = false≢true (subst (λ (x : Float). HasValue x true a c) h p).0

no_inf : (s : Bool) (m : ℕ) (e : ℤ) → inf s ≡ fin false m e → ⊥
no_inf s m e h = subst (λ (x : Float). HasValue x false (m * up e) (down e)) (sym h) (refl, refl)

no_nan_value : (m : ℕ) (e : ℤ) → nan ≡ fin false m e → ⊥
no_nan_value m e h = subst (λ (x : Float). HasValue x false (m * up e) (down e)) (sym h) (refl, refl)

minus_fields : (x t m : ℕ) (e : ℤ) → of_fields binary64 true x t ≡ fin false m e → ⊥
unfolding of_fields
minus_fields zero t m e h = no_plus (odd 53 true t 0 1074) (t * 2 ^ 0) (2 ^ 1074) m e (odd_sign 53 true t 0 1074) h
minus_fields (suc x) t m e h = go (eqb (suc x) 2047) (eqb t 0) h
  where
    go : (a b : Bool) → cond a (cond b (inf true) nan) (odd 53 true (2 ^ 52 + t) x 1074) ≡ fin false m e → ⊥
    go true true h = no_inf true m e h
    go true false h = no_nan_value m e h
    go false b h = no_plus (odd 53 true (2 ^ 52 + t) x 1074) ((2 ^ 52 + t) * 2 ^ x) (2 ^ 1074) m e (odd_sign 53 true (2 ^ 52 + t) x 1074) h

minus_bits : (b m : ℕ) (e : ℤ) → 2 ^ 63 ≤ b → of_bits binary64 b ≡ fin false m e → ⊥
unfolding of_bits
minus_bits b m e h k =
    minus_fields (b % 2 ^ 63 / 2 ^ 52) (b % 2 ^ 52) m e
    (sym (ap (λ (s : Bool). of_fields binary64 s (b % 2 ^ 63 / 2 ^ 52) (b % 2 ^ 52)) (le-leb (2 ^ 63) b h)) ∙ k)

top_bits : of_bits binary64 0x7ff0_0000_0000_0000 ≡ inf false
unfolding of_bits
top_bits = refl

number : (m : ℕ) (e : ℤ) → T (not (is_nan (fin false m e)))
unfolding is_nan
number m e = tt

is_number : (v : Float) (m : ℕ) (e : ℤ) → v ≡ fin false m e → T (not (is_nan v))
is_number v m e h = subst (λ (x : Float). T (not (is_nan x))) (sym h) (number m e)

pub bits_small : (m : ℕ) (e : ℤ) → T (fits binary64 (fin false m e)) → to_bits binary64 (fin false m e) < 0x7ff0_0000_0000_0000
bits_small m e t = go (dec_lt b 0x7ff0_0000_0000_0000) (dec_lt b (2 ^ 63)) (dec_lt 0x7ff0_0000_0000_0000 b)
  where
    b : ℕ
    b = to_bits binary64 (fin false m e)

    same : of_bits binary64 b ≡ fin false m e
    same = of_bits-to_bits binary64 (fin false m e) t

    go : Dec (b < 0x7ff0_0000_0000_0000) → Dec (b < 2 ^ 63) → Dec (0x7ff0_0000_0000_0000 < b) → b < 0x7ff0_0000_0000_0000
    go (yes h) k l = h
    go (no h) (no k) l = absurd (minus_bits b m e (omega arith) same)
    go (no h) (yes k) (yes l) = absurd (above_inf b l k (is_number (of_bits binary64 b) m e same))
    go (no h) (yes k) (no l) =
        let at : b ≡ 0x7ff0_0000_0000_0000 = omega arith in
        absurd (no_inf false m e (sym top_bits ∙ sym (ap (of_bits binary64) at) ∙ same))

-- ---- |a| and |b|
pub record Sizes (x y : Float) : Type 0 where
  pub x_bound : to_bits binary64 x < 0x7ff0_0000_0000_0000
  pub y_bound : to_bits binary64 y < 0x7ff0_0000_0000_0000
  pub y_nonzero : 0 < counted (to_bits binary64 y)
  pub order : counted (to_bits binary64 y) ≤ counted (to_bits binary64 x)
  pub x_is : of_bits binary64 (to_bits binary64 x) ≡ x
  pub y_is : of_bits binary64 (to_bits binary64 y) ≡ y
  pub x_number : T (not (is_nan x))

pub plus_fits : (s : Bool) (m : ℕ) (e : ℤ) → T (fits binary64 (fin s m e)) → T (fits binary64 (fin false m e))
unfolding neg
plus_fits false m e t = t
plus_fits true m e t = neg-fits binary64 (fin true m e) t

value : (m : ℕ) (e : ℤ) → T (fits binary64 (fin false m e)) → HasValue (fin false m e) false (counted (to_bits binary64 (fin false m e))) (2 ^ 1074)
value m e t =
    subst (λ (v : Float). HasValue v false (counted (to_bits binary64 (fin false m e))) (2 ^ 1074)) (of_bits-to_bits binary64 (fin false m e) t)
    (counted_value (to_bits binary64 (fin false m e)) (bits_small m e t))

zero_value : (c : ℕ) → HasValue nought false 0 c
zero_value c = (refl, zero-mul c)

two_sizes : (m n : ℕ) (e d : ℤ) → T (fits binary64 (fin false m e)) → T (fits binary64 (fin false n d)) → T (lt nought (fin false n d)) → T (not (lt (fin false m e) (fin false n d))) → Sizes (fin false m e) (fin false n d)
two_sizes m n e d t u p h =
    let x = to_bits binary64 (fin false m e) in
    let y = to_bits binary64 (fin false n d) in
    let C = pow_pos 1074 in
    let some = lt→cross nought (fin false n d) 0 1 (counted y) (2 ^ 1074) (zero-lt-suc 0) C (zero_value 1) (value n d u) p in
    record {
      x_bound = bits_small m e t;
      y_bound = bits_small n d u;
      y_nonzero = omega (arith, some);
      order = le_of_mul-le-mul_right (nlt→cross (fin false m e) (fin false n d) (counted x) (2 ^ 1074) (counted y) (2 ^ 1074) C C (value m e t) (value n d u) h) C;
      x_is = of_bits-to_bits binary64 (fin false m e) t;
      y_is = of_bits-to_bits binary64 (fin false n d) u;
      x_number = is_number (fin false m e) m e refl;
    }

not_below_inf : (s : Bool) (m : ℕ) (e : ℤ) → T (not (lt (fin s m e) (inf false))) → ⊥
unfolding lt
not_below_inf s m e h = h

not_above_nan : (x : Float) → T (lt x nan) → ⊥
unfolding lt
not_above_nan nan h = h
not_above_nan (inf s) h = h
not_above_nan (fin s m e) h = h

pub sizes : (a b : Float) → T (fits binary64 a) → T (fits binary64 b) → finite_f (abs_of a) ≡ true → T (lt nought (abs_of b)) → T (not (lt (abs_of a) (abs_of b))) → Sizes (abs_of a) (abs_of b)
unfolding abs_of finite_f
sizes nan b t u f p h = absurd (false≢true f)
sizes (inf s) b t u f p h = absurd (false≢true f)
sizes (fin s m e) nan t u f p h = absurd (not_above_nan nought p)
sizes (fin s m e) (inf r) t u f p h = absurd (not_below_inf false m e h)
sizes (fin s m e) (fin r n d) t u f p h = two_sizes m n e d (plus_fits s m e t) (plus_fits r n d u) p h

-- ---- the sign of a
none_below : (e : ℤ) (n : ℕ) (d : ℤ) → T (lt nought (fin false n d)) → T (lt (fin false zero e) (fin false n d))
none_below e n d p =
    let some = lt→cross nought (fin false n d) 0 1 (n * up d) (down d) (zero-lt-suc 0) (down_pos d) (zero_value 1) (refl, refl) p in
    cross→lt (fin false zero e) (fin false n d) 0 1 (n * up d) (down d) (zero-lt-suc 0) (down_pos d) (refl, mul-one (zero * up e) ∙ zero-mul (up e) ∙ sym (zero-mul (down e))) (refl, refl) some

pub sign_plus : (a b : Float) → T (not (lt a nought)) → finite_f (abs_of a) ≡ true → T (lt nought (abs_of b)) → T (not (lt (abs_of a) (abs_of b))) → rem binary64 (abs_of a) (abs_of b) ≡ rem binary64 a b
unfolding abs_of finite_f rem
sign_plus nan b z f p h = absurd (false≢true f)
sign_plus (inf s) b z f p h = absurd (false≢true f)
sign_plus (fin s m e) nan z f p h = absurd (not_above_nan nought p)
sign_plus (fin s m e) (inf r) z f p h = absurd (not_below_inf false m e h)
sign_plus (fin false m e) (fin r n d) z f p h = refl
sign_plus (fin true zero e) (fin r n d) z f p h = absurd (T_not (lt (fin false zero e) (fin false n d)) h (none_below e n d p))
sign_plus (fin true (suc m) e) (fin r n d) z f p h = absurd (T_not (lt (fin true (suc m) e) nought) z (under_zero (fin true (suc m) e) (suc m * up e) (down e) (mul-pos (zero-lt-suc m) (up_pos e)) (refl, refl)))

minus_nan : neg nan ≡ nan
unfolding neg
minus_nan = refl

minus_round : (n : ℕ) (x d : ℕ) → neg (cond (eqb n 0) nan (round binary64 false x d)) ≡ cond (eqb n 0) nan (round binary64 true x d)
minus_round n x d = go (eqb n 0)
  where
    go : (t : Bool) → neg (cond t nan (round binary64 false x d)) ≡ cond t nan (round binary64 true x d)
    go true = minus_nan
    go false = neg_round binary64 false x d

pub sign_minus : (a b : Float) → T (lt a nought) → finite_f (abs_of a) ≡ true → T (lt nought (abs_of b)) → T (not (lt (abs_of a) (abs_of b))) → neg (rem binary64 (abs_of a) (abs_of b)) ≡ rem binary64 a b
unfolding abs_of finite_f rem
sign_minus nan b z f p h = absurd (false≢true f)
sign_minus (inf s) b z f p h = absurd (false≢true f)
sign_minus (fin s m e) nan z f p h = absurd (not_above_nan nought p)
sign_minus (fin s m e) (inf r) z f p h = absurd (not_below_inf false m e h)
sign_minus (fin false m e) (fin r n d) z f p h = absurd (T_not (lt (fin false m e) nought) (not_under (fin false m e) (m * up e) (down e) (refl, refl)) z)
sign_minus (fin true m e) (fin r n d) z f p h = minus_round n (m * up e * down d % (n * up d * down e)) (down e * down d)

-- ---- no number
pub not_finite : (a b : Float) → finite_f (abs_of a) ≡ false → nan ≡ rem binary64 a b
unfolding abs_of finite_f rem
not_finite nan b h = refl
not_finite (inf s) b h = refl
not_finite (fin s m e) b h = absurd (true≢false h)

pub no_divisor : (a b : Float) → T (not (lt nought (abs_of b))) → T (not (lt (abs_of a) (abs_of b))) → nan ≡ rem binary64 a b
unfolding abs_of rem
no_divisor nan b z h = refl
no_divisor (inf s) b z h = refl
no_divisor (fin s m e) nan z h = refl
no_divisor (fin s m e) (inf r) z h = absurd (not_below_inf false m e h)
no_divisor (fin s m e) (fin r zero d) z h = refl
no_divisor (fin s m e) (fin r (suc n) d) z h = absurd (T_not (lt nought (fin false (suc n) d)) z (over_zero (fin false (suc n) d) (suc n * up d) (down d) (mul-pos (zero-lt-suc n) (up_pos d)) (refl, refl)))

-- ---- as the code has them: x and y are |a| and |b|, r says whether x is finite
module _ (a b x y : Float) (r : Bool) (p : x ≡ abs_of a) (q : y ≡ abs_of b) (t : T (fits binary64 a)) (u : T (fits binary64 b)) (e : r ≡ finite_f x) (k : r ≡ true) (z : lt nought y ≡ true) (h : lt x y ≡ false) where
  number_a : finite_f (abs_of a) ≡ true
  number_a = ap finite_f (sym p) ∙ sym e ∙ k

  some_b : T (lt nought (abs_of b))
  some_b = holds (ap (lt nought) (sym q) ∙ z)

  not_small : T (not (lt (abs_of a) (abs_of b)))
  not_small = fails (ap (λ (v : Float). lt v (abs_of b)) (sym p) ∙ ap (lt x) (sym q) ∙ h)

  pub divided : Sizes x y
  divided = subst (λ (v : Float). Sizes v y) (sym p) (subst (λ (w : Float). Sizes (abs_of a) w) (sym q) (sizes a b t u number_a some_b not_small))

  taken : (v : Float) → v ≡ rem binary64 (of_bits binary64 (to_bits binary64 x)) (of_bits binary64 (to_bits binary64 y)) → v ≡ rem binary64 (abs_of a) (abs_of b)
  taken v i = i ∙ ap (λ (w : Float). rem binary64 w (of_bits binary64 (to_bits binary64 y))) (divided.x_is ∙ p) ∙ ap (rem binary64 (abs_of a)) (divided.y_is ∙ q)

  pub divided_plus : (v : Float) → v ≡ rem binary64 (of_bits binary64 (to_bits binary64 x)) (of_bits binary64 (to_bits binary64 y)) → lt a nought ≡ false → v ≡ rem binary64 a b
  divided_plus v i g = taken v i ∙ sign_plus a b (fails g) number_a some_b not_small

  pub divided_minus : (v : Float) → v ≡ rem binary64 (of_bits binary64 (to_bits binary64 x)) (of_bits binary64 (to_bits binary64 y)) → lt a nought ≡ true → neg v ≡ rem binary64 a b
  divided_minus v i g = ap neg (taken v i) ∙ sign_minus a b (holds g) number_a some_b not_small
