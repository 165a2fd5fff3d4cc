-- Order. `le_fin`, `fin_le`: what `<=` of two finite values says of their signs and sizes. `neg_le`: a minus turns it
-- round. `lt_le`, `not_lt_le`: between the tests. `le_through`: by way of a third. `minus_le_plus`, `signed_le`: by
-- sign. `ceil_mono`, `round_mono`: x at most y has ceil and round of x at most those of y. With infinities and minus
-- signs among the values. Assumes nothing.
use Rattle.std.proofs.Common.{◌≡◌, ℕ, ◌+◌, ◌*◌, ◌<◌, ◌≤◌, Bool, true, false, not, ◌&&◌, ◌||◌, T, eqb, ltb, ℤ, pos, sym, ap, ◌∙◌, subst, inl, inr, true≢false, le_of_eq, le_of_lt, mul-le-mul_right, eq-zero-or-pos, eq-or-lt_of_le, zero-mul, arith, lit<, eqb→eq, ltb→lt, lt→ltb}
use native.Mathlib.Nat.{eq_of_mul-eq-mul_right}
use mir.Facts.{or_yes}
use lib.Ieee.{Float, nan, inf, fin, binary64, up, down, below, level, round, neg, le}
use lib.Ieee.Fits.{down_pos, and_i, and_l, and_r, eq→eqb}
use lib.Ieee.Order.{round_mono as rounds-up}
-- std's, by the names that the crates above cite
pub use Rattle.std.proofs.lemmas.Float.{le_of_lt as lt_le, le_of_not-lt as not_lt_le, le_trans as le_through}
use Rattle.float.specs.Whole.{ceil_of, round_of}
use Rattle.float.proofs.Exactly.{neg_round}
use Rattle.float.proofs.Compared.{nought, lt_or_eq}
use Rattle.float.proofs.Picks.{Steps, wholly, ceil_pick, round_pick, ceil_steps, round_steps, ceil_is, round_is}
use Rattle.float.proofs.Signs.{Signed, round_signed}

-- ---- ± a at most ± b
abbrev pub Most : Bool → ℕ → Bool → ℕ → Type 0
Most false a false b = a ≤ b
Most false a true b = (a ≡ 0) × (b ≡ 0)
Most true a false b = Unit {0}
Most true a true b = b ≤ a

or_l : (a b : Bool) → T a → T (a || b)
or_l true b t = tt
or_l false b t = absurd t

or_r : (a b : Bool) → T b → T (a || b)
or_r true b t = tt
or_r false b t = t

most : (s t : Bool) (a b : ℕ) → T (below s a t b || level s a t b) → Most s a t b
most false false a b h = lt_or_eq a b h
most false true a b h = let z : a ≡ 0 = eqb→eq a 0 (and_r (eqb a b) (eqb a 0) h) in (z, sym (eqb→eq a b (and_l (eqb a b) (eqb a 0) h)) ∙ z)
most true false a b h = tt
most true true a b h = elim (or_yes (ltb b a) (eqb a b && true) h) [ inl u ↦ le_of_lt (ltb→lt b a u) | inr u ↦ le_of_eq (sym (eqb→eq a b (and_l (eqb a b) true u))) ]

at_most : (s t : Bool) (a b : ℕ) → Most s a t b → T (below s a t b || level s a t b)
at_most false false a b h =
    elim (eq-or-lt_of_le h) [
      | inl e ↦ or_r (ltb a b) (eqb a b && true) (and_i (eqb a b) true (eq→eqb e) tt)
      | inr l ↦ or_l (ltb a b) (eqb a b && true) (lt→ltb a b l)
    ]
at_most false true a b h = and_i (eqb a b) (eqb a 0) (eq→eqb (h.0 ∙ sym h.1)) (eq→eqb h.0)
at_most true false a b h =
    elim (eq-zero-or-pos (a + b)) [
      | inl z ↦ or_r (ltb 0 (a + b)) (eqb a b && eqb a 0) (and_i (eqb a b) (eqb a 0) (eq→eqb (omega (arith, z))) (eq→eqb (omega (arith, z))))
      | inr l ↦ or_l (ltb 0 (a + b)) (eqb a b && eqb a 0) (lt→ltb 0 (a + b) l)
    ]
at_most true true a b h =
    elim (eq-or-lt_of_le h) [
      | inl e ↦ or_r (ltb b a) (eqb a b && true) (and_i (eqb a b) true (eq→eqb (sym e)) tt)
      | inr l ↦ or_l (ltb b a) (eqb a b && true) (lt→ltb b a l)
    ]

pub le_fin : (s : Bool) (m : ℕ) (e : ℤ) (t : Bool) (n : ℕ) (d : ℤ) → T (le (fin s m e) (fin t n d)) → Most s (m * up e * down d) t (n * up d * down e)
unfolding le
le_fin s m e t n d h = most s t (m * up e * down d) (n * up d * down e) h

pub fin_le : (s : Bool) (m : ℕ) (e : ℤ) (t : Bool) (n : ℕ) (d : ℤ) → Most s (m * up e * down d) t (n * up d * down e) → T (le (fin s m e) (fin t n d))
unfolding le
fin_le s m e t n d h = at_most s t (m * up e * down d) (n * up d * down e) h

-- ---- a minus turns it round
turned : (s t : Bool) (a b : ℕ) → Most s a t b → Most (not t) b (not s) a
turned false false a b h = h
turned false true a b h = (h.1, h.0)
turned true false a b h = tt
turned true true a b h = h

pub neg_le : (x y : Float) → T (le x y) → T (le (neg y) (neg x))
unfolding le neg
neg_le nan y h = absurd h
neg_le (inf s) nan h = absurd (nothing h)
  where
    nothing : T (false || false) → ⊥
    nothing t = t
neg_le (inf true) (inf true) h = tt
neg_le (inf true) (inf false) h = tt
neg_le (inf false) (inf true) h = absurd h
neg_le (inf false) (inf false) h = tt
neg_le (inf true) (fin t n d) h = tt
neg_le (inf false) (fin t n d) h = absurd h
neg_le (fin s m e) nan h = absurd h
neg_le (fin s m e) (inf true) h = absurd h
neg_le (fin s m e) (inf false) h = tt
neg_le (fin s m e) (fin t n d) h = at_most (not t) (not s) (n * up d * down e) (m * up e * down d) (turned s t (m * up e * down d) (n * up d * down e) (most s t (m * up e * down d) (n * up d * down e) h))

nil : (x d : ℕ) → 0 < d → x * d ≡ 0 → x ≡ 0
nil x d D h = eq_of_mul-eq-mul_right d D x 0 (h ∙ sym (zero-mul d))

no_nan : (y : Float) → T (le y nan) → ⊥
unfolding le
no_nan nan k = k
no_nan (inf t) k = k
no_nan (fin t n d) k = k

-- ---- by sign
pub minus_le_plus : (x y : Float) → Signed true x → Signed false y → T (le x y)
unfolding le
minus_le_plus nan y h k = absurd h
minus_le_plus (inf true) nan h k = absurd k
minus_le_plus (inf true) (inf t) h k = subst (λ (u : Bool). T (le (inf true) (inf u))) (sym k) tt
minus_le_plus (inf false) y h k = absurd (true≢false (sym h))
minus_le_plus (inf true) (fin t n d) h k = tt
minus_le_plus (fin true m e) nan h k = absurd k
minus_le_plus (fin true m e) (inf true) h k = absurd (true≢false k)
minus_le_plus (fin true m e) (inf false) h k = tt
minus_le_plus (fin false m e) y h k = absurd (true≢false (sym h))
minus_le_plus (fin true m e) (fin true n d) h k = absurd (true≢false k)
minus_le_plus (fin true m e) (fin false n d) h k = fin_le true m e false n d tt

pub signed_le : (x : Float) → Signed false x → T (le nought x)
unfolding le
signed_le nan h = h
signed_le (inf true) h = absurd (true≢false h)
signed_le (inf false) h = tt
signed_le (fin true m e) h = absurd (true≢false h)
signed_le (fin false m e) h = fin_le false 0 (pos 0) false m e (omega (arith, zero-mul (down e)))

least : (s : Bool) (y : Float) → Signed s y → T (le (inf true) y)
unfolding le
least s nan h = absurd h
least s (inf true) h = tt
least s (inf false) h = tt
least s (fin t m e) h = tt

largest : (s : Bool) (y : Float) → Signed s y → T (le y (inf false))
unfolding le
largest s nan h = absurd h
largest s (inf true) h = tt
largest s (inf false) h = tt
largest s (fin t m e) h = tt

zeros_le : T (le (round binary64 false 0 1) (round binary64 true 0 1))
unfolding round le
zeros_le = tt

round_le : (s t : Bool) (p q : ℕ) → Most s p t q → T (le (round binary64 s p 1) (round binary64 t q 1))
round_le false false p q h = rounds-up binary64 p 1 q 1 (lit< tt) (lit< tt) (mul-le-mul_right 1 h)
round_le false true p q h = subst (λ (z : ℕ). T (le (round binary64 false z 1) (round binary64 true q 1))) (sym h.0) (subst (λ (z : ℕ). T (le (round binary64 false 0 1) (round binary64 true z 1))) (sym h.1) zeros_le)
round_le true false p q h = minus_le_plus (round binary64 true p 1) (round binary64 false q 1) (round_signed binary64 true p 1) (round_signed binary64 false q 1)
round_le true true p q h =
    subst (λ (z : Float). T (le z (round binary64 true q 1))) (neg_round binary64 false p 1)
    (subst (λ (z : Float). T (le (neg (round binary64 false p 1)) z)) (neg_round binary64 false q 1)
    (neg_le (round binary64 false q 1) (round binary64 false p 1) (rounds-up binary64 q 1 p 1 (lit< tt) (lit< tt) (mul-le-mul_right 1 h))))

nan_no : (y : Float) → T (le nan y) → ⊥
unfolding le
nan_no y h = h

no_top : (t : Bool) (n : ℕ) (d : ℤ) → T (le (inf false) (fin t n d)) → ⊥
unfolding le
no_top t n d h = h

no_bottom : (s : Bool) (m : ℕ) (e : ℤ) → T (le (fin s m e) (inf true)) → ⊥
unfolding le
no_bottom s m e h = h

-- ---- to a whole number, each sign its own way
module _ (pick : Bool → ℕ → ℕ → ℕ) (steps : (s : Bool) → Steps (pick s)) where
  zero_picked : (s : Bool) (m u c d : ℕ) → 0 < c → 0 < d → m * u * d ≡ 0 → pick s (m * u) c ≡ 0
  zero_picked s m u c d C D h = ap (λ (z : ℕ). pick s z c) (nil (m * u) d D h ∙ sym (zero-mul c)) ∙ (steps s).keeps 0 c C

  picked : (s t : Bool) (m : ℕ) (e : ℤ) (n : ℕ) (d : ℤ) → Most s (m * up e * down d) t (n * up d * down e) → Most s (pick s (m * up e) (down e)) t (pick t (n * up d) (down d))
  picked false false m e n d h = (steps false).mono (m * up e) (down e) (n * up d) (down d) (down_pos e) (down_pos d) h
  picked false true m e n d h = (zero_picked false m (up e) (down e) (down d) (down_pos e) (down_pos d) h.0, zero_picked true n (up d) (down d) (down e) (down_pos d) (down_pos e) h.1)
  picked true false m e n d h = tt
  picked true true m e n d h = (steps true).mono (n * up d) (down d) (m * up e) (down e) (down_pos d) (down_pos e) h

  wholly_mono : (x y : Float) → T (le x y) → T (le (wholly pick x) (wholly pick y))
  unfolding wholly
  wholly_mono nan y h = absurd (nan_no y h)
  wholly_mono (inf s) nan h = absurd (no_nan (inf s) h)
  wholly_mono (inf s) (inf t) h = h
  wholly_mono (inf true) (fin t n d) h = least t (round binary64 t (pick t (n * up d) (down d)) 1) (round_signed binary64 t (pick t (n * up d) (down d)) 1)
  wholly_mono (inf false) (fin t n d) h = absurd (no_top t n d h)
  wholly_mono (fin s m e) nan h = absurd (no_nan (fin s m e) h)
  wholly_mono (fin s m e) (inf true) h = absurd (no_bottom s m e h)
  wholly_mono (fin s m e) (inf false) h = largest s (round binary64 s (pick s (m * up e) (down e)) 1) (round_signed binary64 s (pick s (m * up e) (down e)) 1)
  wholly_mono (fin s m e) (fin t n d) h = round_le s t (pick s (m * up e) (down e)) (pick t (n * up d) (down d)) (picked s t m e n d (le_fin s m e t n d h))

pub ceil_mono : (x y : Float) → T (le x y) → T (le (ceil_of x) (ceil_of y))
ceil_mono x y h = rw (ceil_is x, ceil_is y) (wholly_mono ceil_pick ceil_steps x y h)

pub round_mono : (x y : Float) → T (le x y) → T (le (round_of x) (round_of y))
round_mono x y h = rw (round_is x, round_is y) (wholly_mono round_pick round_steps x y h)
