-- Ordinals stand in the order of the values (`precedes_ordinal`), and an ordinal gives its value back
-- (`value_ordinal`). `is_ordinal`: which numbers are one. Assumes nothing.
use mathlib.Core.Path.{◌≡◌, refl, sym, ap, ◌∙◌, subst}
use mathlib.Core.Logic.{inl, inr}
use mathlib.Core.Bool.{Bool, true, false, not, ◌&&◌, ◌||◌, cond}
use Prim.Native.Nat.{ℕ, zero, suc, ◌+◌, ◌-◌, ◌/◌, ◌%◌, ◌^◌, ◌≤◌, ◌<◌}
use native.Mathlib.Nat.{zero-add, eq-or-lt_of_le, mod-eq_of_lt}
use native.Mathlib.Decide.{dec_lt}
use native.Mathlib.Omega.{arith}
use borrow.Author.Tests.{lt-ltb, le-ltb, ne_eqb}
use Rattle.std.proofs.lemmas.Bool.Decides.{nat_tests}
use lib.Dec.{T, ltb, eqb}
use lib.Ieee.{Float, nan, inf, fin, Format, lt, eq, odd, neg, of_fields, of_bits, to_bits, below, level, binary64, fits, is_nan, nan_bits, prec, low, ones, hid}
use lib.Ieee.Exact.{HasValue}
use lib.Ieee.Bits.{of_bits-to_bits, to_bits-lt}
use Rattle.std.proofs.lemmas.Float.{not_nan_f64_bits}
use Rattle.float.specs.Inner.{counted}
use Rattle.float.proofs.Value.{counted_value}
use Rattle.float.proofs.Exactly.{neg_odd}
use Rattle.float.proofs.Patterns.{of_bits_fields}
use Rattle.float.proofs.Narrowing.{magnitude_le}
use Rattle.rank.specs.Order.{precedes}
use Rattle.rank.specs.Inner.{ordinal_bits, ordinal_of, of_ordinal, Ordinal}
use Rattle.rank.proofs.Patterns.{top, Pattern, lt_pattern, eq_pattern, zero_pattern}

-- ---- a pattern with the sign is that of the negated value
neg_cond : (a b : Bool) (x y : Float) → x ≡ neg y → cond a (cond b (inf true) nan) x ≡ neg (cond a (cond b (inf false) nan) y)
unfolding neg
neg_cond true true x y e = refl
neg_cond true false x y e = refl
neg_cond false b x y e = e

neg_fields : (f : Format) (x t : ℕ) → of_fields f true x t ≡ neg (of_fields f false x t)
unfolding of_fields
neg_fields f zero t = sym (neg_odd (prec f) false t 0 (low f))
neg_fields f (suc x) t = neg_cond (eqb (suc x) (ones f)) (eqb t 0) (odd (prec f) true (hid f + t) x (low f)) (odd (prec f) false (hid f + t) x (low f)) (sym (neg_odd (prec f) false (hid f + t) x (low f)))

minus_bits : (p : ℕ) → p < 2 ^ 63 → of_bits binary64 (2 ^ 63 + p) ≡ neg (of_bits binary64 p)
minus_bits p h =
    of_bits_fields binary64 true p h
    ∙ neg_fields binary64 (p / 2 ^ 52) (p % 2 ^ 52)
    ∙ ap neg (sym (of_bits_fields binary64 false p h) ∙ ap (of_bits binary64) (zero-add p))

-- ---- what a pattern stands for
of_value : (x : Float) (p : ℕ) → p < top → HasValue x false (counted p) (2 ^ 1074) → Pattern x false p
of_value nan p h v = v
of_value (inf s) p h v = absurd v
of_value (fin s m e) p h v = (v.0, h, v.1)

infinite : Pattern (of_bits binary64 top) false top
unfolding of_bits
infinite = (refl, refl)

plus : (p : ℕ) → p ≤ top → Pattern (of_bits binary64 p) false p
plus p h = elim (eq-or-lt_of_le h) [ inl e ↦ subst (λ (z : ℕ). Pattern (of_bits binary64 z) false z) (sym e) infinite | inr l ↦ of_value (of_bits binary64 p) p l (counted_value p l) ]

negated : (x : Float) (p : ℕ) → Pattern x false p → Pattern (neg x) true p
unfolding neg
negated nan p h = h
negated (inf s) p h = (ap not h.0, h.1)
negated (fin s m e) p h = (ap not h.0, h.1, h.2)

minus : (p : ℕ) → p ≤ top → Pattern (of_bits binary64 (2 ^ 63 + p)) true p
minus p h = subst (λ (x : Float). Pattern x true p) (sym (minus_bits p (omega arith))) (negated (of_bits binary64 p) p (plus p h))

-- ---- the ordinal of a sign and a pattern without the sign
abbrev sign_ordinal : Bool → ℕ → ℕ
sign_ordinal false p = p + 2 ^ 63
sign_ordinal true p = 2 ^ 63 - 1 - p

pub ordinal_number : (x : Float) → T (not (is_nan x)) → ordinal_of x ≡ ordinal_bits (to_bits binary64 x)
unfolding ordinal_of is_nan
ordinal_number nan h = absurd h
ordinal_number (inf s) h = refl
ordinal_number (fin s m e) h = refl

pub ordinal_plus : (b : ℕ) → b < 2 ^ 63 → ordinal_bits b ≡ b + 2 ^ 63
ordinal_plus b h = ap (λ (t : Bool). cond t (b + 2 ^ 63) (2 ^ 64 - 1 - b)) (lt-ltb b (2 ^ 63) h)

pub ordinal_minus : (b : ℕ) → 2 ^ 63 ≤ b → ordinal_bits b ≡ 2 ^ 64 - 1 - b
ordinal_minus b h = ap (λ (t : Bool). cond t (b + 2 ^ 63) (2 ^ 64 - 1 - b)) (le-ltb b (2 ^ 63) h)

pub value_low : (k : ℕ) → k < 2 ^ 63 → of_ordinal k ≡ of_bits binary64 (2 ^ 64 - 1 - k)
unfolding of_ordinal
value_low k h = rw (ne_eqb k (2 ^ 64 - 1) (omega arith), lt-ltb k (2 ^ 63) h)

pub value_high : (k : ℕ) → 2 ^ 63 ≤ k → k < 2 ^ 64 - 1 → of_ordinal k ≡ of_bits binary64 (k - 2 ^ 63)
unfolding of_ordinal
value_high k h l = rw (ne_eqb k (2 ^ 64 - 1) (omega arith), le-ltb k (2 ^ 63) h)

-- ---- every f64 is the NaN or has a sign and a pattern
pub data View : Float → Type 0 where
  missing : View nan
  signed : {x : Float} (s : Bool) (p : ℕ) → p ≤ top → Pattern x s p → ordinal_of x ≡ sign_ordinal s p → of_ordinal (sign_ordinal s p) ≡ x → View x

number : (x : Float) → T (not (is_nan x)) → T (fits binary64 x) → View x
number x n f = go (dec_lt b (2 ^ 63))
  where
    b : ℕ
    b = to_bits binary64 x

    go : Dec (b < 2 ^ 63) → View x
    go (yes h) =
        let m : b ≤ top = subst (λ (z : ℕ). z ≤ top) (mod-eq_of_lt h) (magnitude_le x f n) in
        let e : of_bits binary64 b ≡ x = of_bits-to_bits binary64 x f in
        signed false b m (subst (λ (y : Float). Pattern y false b) e (plus b m)) (ordinal_number x n ∙ ordinal_plus b h)
        (value_high (b + 2 ^ 63) (omega arith) (omega arith) ∙ ap (of_bits binary64) (omega arith) ∙ e)
    go (no h) =
        let w : b < 2 ^ 64 = to_bits-lt binary64 x f in
        let p = b - 2 ^ 63 in
        let l : 2 ^ 63 ≤ b = omega arith in
        let r : b % 2 ^ 63 ≡ p = omega arith in
        let m : p ≤ top = subst (λ (z : ℕ). z ≤ top) r (magnitude_le x f n) in
        let i : 2 ^ 63 + p ≡ b = omega arith in
        let e : of_bits binary64 (2 ^ 63 + p) ≡ x = ap (of_bits binary64) i ∙ of_bits-to_bits binary64 x f in
        let k : 2 ^ 64 - 1 - b ≡ 2 ^ 63 - 1 - p = omega arith in
        let j : 2 ^ 64 - 1 - (2 ^ 63 - 1 - p) ≡ 2 ^ 63 + p = omega arith in
        signed true p m (subst (λ (y : Float). Pattern y true p) e (minus p m)) (ordinal_number x n ∙ ordinal_minus b l ∙ k)
        (value_low (2 ^ 63 - 1 - p) (omega arith) ∙ ap (of_bits binary64) j ∙ e)

pub view : (x : Float) → T (fits binary64 x) → View x
unfolding is_nan
view nan f = missing
view (inf s) f = number (inf s) tt f
view (fin s m e) f = number (fin s m e) tt f

-- ---- what the view shows
pub ordinal_nan : ordinal_of nan ≡ 2 ^ 64 - 1
unfolding ordinal_of is_nan
ordinal_nan = refl

pub value_nan : of_ordinal (2 ^ 64 - 1) ≡ nan
unfolding of_ordinal
value_nan = refl

pub value_ordinal : (x : Float) → T (fits binary64 x) → of_ordinal (ordinal_of x) ≡ x
value_ordinal x f = go x (view x f)
  where
    go : (x : Float) → View x → of_ordinal (ordinal_of x) ≡ x
    go x missing = ap of_ordinal ordinal_nan ∙ value_nan
    go x (signed s p m h k v) = ap of_ordinal k ∙ v

pub is_ordinal : (x : Float) → T (fits binary64 x) → Ordinal (ordinal_of x)
is_ordinal x f = go x (view x f)
  where
    go : (x : Float) → View x → Ordinal (ordinal_of x)
    go x missing = inl ordinal_nan
    go x (signed false p m h k v) = inr (omega arith, omega arith)
    go x (signed true p m h k v) = inr (omega arith, omega arith)

pub ordinal_lt : (x : Float) → T (fits binary64 x) → ordinal_of x < 2 ^ 64
ordinal_lt x f = elim (is_ordinal x f) [ inl e ↦ omega arith | inr h ↦ omega arith ]

pub ordinal_injective : (x y : Float) → T (fits binary64 x) → T (fits binary64 y) → ordinal_of x ≡ ordinal_of y → x ≡ y
ordinal_injective x y f g e = sym (value_ordinal x f) ∙ ap of_ordinal e ∙ value_ordinal y g

-- ---- the order
abbrev ordered : Bool → ℕ → Bool → ℕ → Bool
ordered s p t q = below s p t q || (level s p t q && (s && eqb p 0) && not (t && eqb q 0)) || false

order : (s : Bool) (p : ℕ) (t : Bool) (q : ℕ) → p ≤ top → q ≤ top → ordered s p t q ≡ ltb (sign_ordinal s p) (sign_ordinal t q)
order s p t q h k = grind (arith, nat_tests)

is_number : (x : Float) (s : Bool) (p : ℕ) → Pattern x s p → is_nan x ≡ false
unfolding is_nan
is_number nan s p h = absurd h
is_number (inf t) s p h = refl
is_number (fin t m e) s p h = refl

before_nan : (x : Float) → is_nan x ≡ false → precedes x nan ≡ true
unfolding precedes is_nan lt eq
before_nan nan h = sym h
before_nan (inf s) h = refl
before_nan (fin s m e) h = refl

after_nan : (y : Float) → precedes nan y ≡ false
unfolding precedes is_nan lt eq
after_nan nan = refl
after_nan (inf s) = refl
after_nan (fin s m e) = refl

sign_ordinal_lt : (s : Bool) (p : ℕ) → p ≤ top → sign_ordinal s p < 2 ^ 64 - 1
sign_ordinal_lt s p h = grind (arith, nat_tests)

by_patterns : (x y : Float) (s t : Bool) (p q : ℕ) → Pattern x s p → Pattern y t q → precedes x y ≡ ordered s p t q
unfolding precedes
by_patterns x y s t p q h k = rw (lt_pattern x y s t p q h k, eq_pattern x y s t p q h k, zero_pattern x s p h, zero_pattern y t q k, is_number y t q k)

pub precedes_ordinal : (x y : Float) → T (fits binary64 x) → T (fits binary64 y) → precedes x y ≡ ltb (ordinal_of x) (ordinal_of y)
precedes_ordinal x y f g = go x y (view x f) (view y g)
  where
    go : (x y : Float) → View x → View y → precedes x y ≡ ltb (ordinal_of x) (ordinal_of y)
    go x y missing missing = rw ordinal_nan (after_nan nan)
    go x y missing (signed t q m h k v) = after_nan y ∙ sym (le-ltb (ordinal_of nan) (ordinal_of y) (omega (arith, ordinal_nan, sign_ordinal_lt t q m)))
    go x y (signed s p m h k v) missing = before_nan x (is_number x s p h) ∙ sym (lt-ltb (ordinal_of x) (ordinal_of nan) (omega (arith, ordinal_nan, sign_ordinal_lt s p m)))
    go x y (signed s p m h k v) (signed t q m' h' k' v') = by_patterns x y s t p q h h' ∙ order s p t q m m' ∙ rw (k, k')

-- ---- back from an ordinal: no pattern of a NaN
pub low_number : (k : ℕ) → Ordinal k → k < 2 ^ 63 → T (not (nan_bits binary64 (2 ^ 64 - 1 - k)))
low_number k (inl e) h = absurd (omega arith)
low_number k (inr r) h = not_nan_f64_bits (2 ^ 64 - 1 - k) (omega arith)

pub high_number : (k : ℕ) → Ordinal k → (k ≡ 2 ^ 64 - 1 → ⊥) → T (not (nan_bits binary64 (k - 2 ^ 63)))
high_number k (inl e) n = absurd (n e)
high_number k (inr r) n = not_nan_f64_bits (k - 2 ^ 63) (omega arith)

pub ordinal_under : (k : ℕ) → Ordinal k → (k ≡ 2 ^ 64 - 1 → ⊥) → k < 2 ^ 64 - 1
ordinal_under k (inl e) n = absurd (n e)
ordinal_under k (inr r) n = omega arith
