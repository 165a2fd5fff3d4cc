-- A fraction rounded with either sign has one size (`shape`), and rounded to below a number of the format it lies
-- below it (`under`). Over any format. Assumes nothing.
use Rattle.std.proofs.Common.{◌≡◌, ℕ, zero, suc, ◌+◌, ◌-◌, ◌*◌, ◌/◌, ◌%◌, ◌^◌, ◌<◌, ◌≤◌, Bool, true, false, cond, not, T, ltb, ◌⊎◌, ℤ, pos, refl, ◌∙◌, subst, inl, inr, lt_of_not-le, not-le_of_lt}
use Prim.Native.Nat.{compare}
use lib.Count.{count_trailing_zeros}
use lib.Ieee.{Float, nan, inf, fin, Format, prec, emax, low, up, down, size, nearest, odd, units, minus, round, lt, le, fits, is_nan}
use lib.Ieee.Fits.{round_is, down_pos}
use lib.Ieee.Exact.{HasValue}
use lib.Ieee.Order.{round_mono}
use Rattle.float.proofs.Exactly.{round_self}
use Rattle.float.proofs.Compared.{lt→cross, le→value}

-- ---- a fraction rounded with either sign: one size, or an infinity
abbrev pub Shape : Format → ℕ → ℕ → Type 0
Shape f a c = ((m : ℕ) × (e : ℤ) × ((u : Bool) → round f u a c ≡ fin u m e)) ⊎ ((u : Bool) → round f u a c ≡ inf u)

odd_shape : (d q k l : ℕ) → (m : ℕ) × (e : ℤ) × ((u : Bool) → odd d u q k l ≡ fin u m e)
unfolding odd
odd_shape d zero k l = (0, pos 0, λ u. refl)
odd_shape d (suc q) k l = (suc q / 2 ^ count_trailing_zeros d (suc q), minus (k + count_trailing_zeros d (suc q)) l, λ u. refl)

units_shape : (f : Format) (q k : ℕ) → ((m : ℕ) × (e : ℤ) × ((u : Bool) → units f u q k ≡ fin u m e)) ⊎ ((u : Bool) → units f u q k ≡ inf u)
unfolding units
units_shape f q k = go (ltb (q * 2 ^ k) (2 ^ (low f + suc (emax f))))
  where
    go : (t : Bool) → ((m : ℕ) × (e : ℤ) × ((u : Bool) → cond t (odd (suc (prec f)) u q k (low f)) (inf u) ≡ fin u m e)) ⊎ ((u : Bool) → cond t (odd (suc (prec f)) u q k (low f)) (inf u) ≡ inf u)
    go true = inl (odd_shape (suc (prec f)) q k (low f))
    go false = inr (λ u. refl)

pub shape : (f : Format) (a c : ℕ) → Shape f a c
shape f a c =
    let k = size (a * 2 ^ low f / c) - prec f in
    let q = nearest (a * 2 ^ low f / (c * 2 ^ k)) (compare (a * 2 ^ low f % (c * 2 ^ k) * 2) (c * 2 ^ k)) in
    elim (units_shape f q k) [
      | inl w ↦ inl (w.0, w.1, λ u. round_is f u a c ∙ w.2 u)
      | inr w ↦ inr (λ u. round_is f u a c ∙ w u)
    ]

no_infinity : (n : ℕ) (g : ℤ) → T (lt (inf false) (fin false n g)) → ⊥
unfolding lt
no_infinity n g t = t

-- ---- bounds go through `round` both ways
-- rounded to below n 2^g, which the format holds: below it
pub under : (f : Format) (a c n : ℕ) (g : ℤ) → 0 < c → T (fits f (fin false n g)) → T (lt (round f false a c) (fin false n g)) → a * down g < n * up g * c
under f a c n g C t h =
    lt_of_not-le (λ (k : n * up g * c ≤ a * down g).
    elim (shape f a c) [
      | inl w ↦ not-le_of_lt (lt→cross (fin false w.0 w.1) (fin false n g) (w.0 * up w.1) (down w.1) (n * up g) (down g) (down_pos w.1) (down_pos g) (refl, refl) (refl, refl) (subst (λ (z : Float). T (lt z (fin false n g))) (w.2 false) h))
          (le→value (fin false n g) (fin false w.0 w.1) (n * up g) (down g) (w.0 * up w.1) (down w.1) (down_pos g) (down_pos w.1) (refl, refl) (refl, refl) (subst (λ (z : Float). T (le (fin false n g) z)) (w.2 false) (bigger k)))
      | inr w ↦ absurd (no_infinity n g (subst (λ (z : Float). T (lt z (fin false n g))) (w false) h))
    ])
  where
    bigger : n * up g * c ≤ a * down g → T (le (fin false n g) (round f false a c))
    bigger k = subst (λ (z : Float). T (le z (round f false a c))) (round_self f false n g t) (round_mono f (n * up g) (down g) a c (down_pos g) C k)

-- ---- no NaN
pub value_no_nan : (x : Float) (s : Bool) (a c : ℕ) → HasValue x s a c → T (not (is_nan x))
unfolding is_nan
value_no_nan nan s a c v = absurd v
value_no_nan (inf t) s a c v = absurd v
value_no_nan (fin t m e) s a c v = tt
