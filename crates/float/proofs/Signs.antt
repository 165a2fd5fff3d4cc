-- The sign of a result. `Signed s x`: x is no NaN and has the sign s (an infinity counts, and so does a zero by its
-- sign bit). A rounded value has the sign that it was given, `round_signed`; so have a sum of two of one sign,
-- `add_signed`, and a square, which has plus, `square_signed`. `signed_number`: no NaN. (`signed_le` of `Monotone`: not
-- below zero.) Over any format. Assumes nothing.
use Rattle.std.proofs.Common.{◌≡◌, ℕ, suc, ◌+◌, ◌*◌, ◌^◌, Bool, true, false, cond, not, T, ltb, sym, refl, ◌∙◌, subst, true≢false}
use mathlib.Core.Bool.{beq}
use lib.Ieee.{Float, nan, inf, fin, Format, prec, emax, low, up, down, odd, units, round, sum, add, mul, is_nan}
use lib.Ieee.Fits.{round_is as round-core}
use lib.Ieee.Exact.{HasValue, odd_sign}
use lib.Ieee.Scale.{finite}
use lib.Ieee.Positive.{num, den}
use Rattle.float.proofs.Sums.{sum_plus}

-- ---- a rounded value has the sign that it was given
abbrev pub Signed : Bool → Float → Type 0
Signed s nan = ⊥
Signed s (inf t) = t ≡ s
Signed s (fin t m e) = t ≡ s

pub value_signed : (x : Float) (s : Bool) (a c : ℕ) → HasValue x s a c → Signed s x
value_signed nan s a c v = v
value_signed (inf t) s a c v = absurd v
value_signed (fin t m e) s a c v = v.0

-- a finite value is its own fraction
pub signed_value : (s : Bool) (x : Float) → Signed s x → T (finite x) → HasValue x s (num x) (den x)
signed_value s nan p h = absurd p
signed_value s (inf t) p h = absurd h
signed_value s (fin t m e) p h = (p, refl)

units_signed : (f : Format) (s : Bool) (q k : ℕ) → Signed s (units f s q k)
unfolding units
units_signed f s q k = go (ltb (q * 2 ^ k) (2 ^ (low f + suc (emax f))))
  where
    go : (b : Bool) → Signed s (cond b (odd (suc (prec f)) s q k (low f)) (inf s))
    go true = value_signed (odd (suc (prec f)) s q k (low f)) s (q * 2 ^ k) (2 ^ low f) (odd_sign (suc (prec f)) s q k (low f))
    go false = refl

pub round_signed : (f : Format) (s : Bool) (a c : ℕ) → Signed s (round f s a c)
round_signed f s a c = subst (Signed s) (sym (round-core f s a c)) (units_signed f s _ _)

pub signed_number : (x : Float) (s : Bool) → Signed s x → T (not (is_nan x))
unfolding is_nan
signed_number nan s h = h
signed_number (inf t) s h = tt
signed_number (fin t m e) s h = tt

pub number_signed : (x : Float) → T (not (is_nan x)) → (s : Bool) × Signed s x
unfolding is_nan
number_signed nan h = absurd h
number_signed (inf t) h = (t, refl)
number_signed (fin t m e) h = (t, refl)

-- ---- a sum of two of one sign
pub add_signed : (f : Format) (s : Bool) (x y : Float) → Signed s x → Signed s y → Signed s (add f x y)
unfolding add
add_signed f s nan y h k = h
add_signed f s (inf t) nan h k = absurd k
add_signed f s (inf t) (inf u) h k = subst (λ (o : Bool). Signed s (cond o (inf t) nan)) (sym (alike t u (h ∙ sym k))) h
  where
    alike : (t u : Bool) → t ≡ u → beq t u ≡ true
    alike true true e = refl
    alike true false e = absurd (true≢false e)
    alike false true e = absurd (true≢false (sym e))
    alike false false e = refl
add_signed f s (inf t) (fin u n d) h k = h
add_signed f s (fin t m e) nan h k = absurd k
add_signed f s (fin t m e) (inf u) h k = k
add_signed f s (fin t m e) (fin u n d) h k =
    subst (λ (o : Bool). Signed s (sum f o (m * up e * down d) u (n * up d * down e) (down e * down d))) (sym h)
    (subst (λ (o : Bool). Signed s (sum f s (m * up e * down d) o (n * up d * down e) (down e * down d))) (sym k)
    (subst (Signed s) (sym (sum_plus f s (m * up e * down d) (n * up d * down e) (down e * down d))) (round_signed f s (m * up e * down d + n * up d * down e) (down e * down d))))

-- ---- a square
pub square_signed : (f : Format) (s : Bool) (x : Float) → Signed s x → Signed false (mul f x x)
unfolding mul
square_signed f s nan h = h
square_signed f s (inf true) h = refl
square_signed f s (inf false) h = refl
square_signed f s (fin true m e) h = round_signed f false (m * up e * (m * up e)) (down e * down e)
square_signed f s (fin false m e) h = round_signed f false (m * up e * (m * up e)) (down e * down e)
