-- The smaller over the larger of two sizes is at most 1, or a NaN, so that round(64t) is a place of the arctangents'
-- table. Assumes nothing.
use Rattle.std.proofs.Common.{◌≡◌, ℕ, zero, suc, ◌*◌, ◌^◌, ◌<◌, ◌≤◌, Bool, true, false, cond, not, T, eqb, ltb, ◌⊎◌, ℤ, pos, sym, refl, ap, ◌∙◌, subst, inl, inr, le_trans, le_of_eq, lt_of_lt_of_le, le_of_suc-le-suc, le_of_lt, lt_irrefl, zero-lt-suc, div-lt_iff_lt-mul, mul-pos, one-mul, zero-mul, mul-one, arith, lit<, lit≤, ltb→lt, nltb→le}
use lib.Dec.{eqb-suc-zero}
use lib.Ieee.{Float, nan, inf, fin, binary64, up, down, round, mul, div, lt, le, of_int, to_unsigned}
use lib.Ieee.Fits.{up_pos, down_pos}
use lib.Ieee.Bits.{cond_no}
use lib.Ieee.Exact.{HasValue}
use lib.Ieee.Back.{round_whole, unsigned_back}
use lib.Ieee.Order.{round_mono}
use Rattle.float.specs.Ops.{of, ◌⊗◌, ◌⊘◌}
use Rattle.float.specs.Compare.{abs_of}
use Rattle.float.specs.Whole.{half_up, round_of, whole_by}
use Rattle.float.proofs.Intervals.{no_top}
use Rattle.float.proofs.Compared.{le→value}
use Rattle.trig.proofs.Marks.{in_float_lem}
use Rattle.trig.specs.Argument.{ratio_of, nearest_step}
use Rattle.float.proofs.Counts.{whole_value}
use Rattle.float.proofs.Sums.{mul_over}
use Rattle.trig.proofs.Fractions.{shape}

-- a NaN, or a number from 0 to w
abbrev pub UpTo : ℕ → Float → Type 0
UpTo w t = (t ≡ nan) ⊎ ((m : ℕ) × (e : ℤ) × (t ≡ fin false m e) × (m * up e ≤ w * down e))

-- a fraction up to w, rounded
rounded : (w a c : ℕ) → 0 < c → w ≤ 2 ^ 53 → a ≤ w * c → UpTo w (round binary64 false a c)
rounded w a c C l h =
    let b : T (le (round binary64 false a c) (round binary64 false w 1)) = round_mono binary64 a c w 1 C (lit< tt) (le_trans (le_of_eq (mul-one a)) h) in
    let v : HasValue (round binary64 false w 1) false w 1 = round_whole binary64 false w l in
    elim (shape binary64 a c) [
      | inl s ↦ inr (
        s.0,
        s.1,
        s.2 false,
        le_trans (le_of_eq (sym (mul-one (s.0 * up s.1))))
            (le→value (fin false s.0 s.1) (round binary64 false w 1) (s.0 * up s.1) (down s.1) w 1 (down_pos s.1) (lit< tt) (refl, refl) v (subst (λ (z : Float). T (le z (round binary64 false w 1))) (s.2 false) b)),
      )
      | inr s ↦ absurd (no_top (round binary64 false w 1) w v (subst (λ (z : Float). T (le z (round binary64 false w 1))) (s false) b))
    ]

-- ---- a quotient
none : (n : ℕ) (g e : ℤ) (m : ℕ) (d : ℤ) → suc m * up e * down d ≤ 0 * up g * down e → ⊥
none n g e m d h = lt_irrefl 0 (lt_of_lt_of_le (mul-pos (mul-pos (zero-lt-suc m) (up_pos e)) (down_pos d)) (le_trans h (le_of_eq (ap (λ (z : ℕ). z * down e) (zero-mul (up g)) ∙ zero-mul (down e)))))

quotient : (m : ℕ) (e : ℤ) (n : ℕ) (g : ℤ) → m * up e * down g ≤ n * up g * down e → UpTo 1 (fin false m e ⊘ fin false n g)
unfolding div
quotient zero e zero g h = inl refl
quotient (suc m) e zero g h = absurd (none 0 g e m g h)
quotient m e (suc n) g h =
    let c = suc n * up g * down e in
    subst (UpTo 1) (sym (cond_no (eqb (suc n) 0) (cond (eqb m 0) nan (inf false)) (round binary64 false (m * up e * down g) c) (subst (λ (b : Bool). T (not b)) (sym (eqb-suc-zero n)) tt)))
    (rounded 1 (m * up e * down g) c (mul-pos (mul-pos (zero-lt-suc n) (up_pos g)) (down_pos e)) (lit≤ tt) (le_trans h (le_of_eq (sym (one-mul c)))))

-- t is at most 1, or a NaN
pub ratio_small : (re im : Float) → UpTo 1 (ratio_of re im)
unfolding abs_of lt div
ratio_small nan nan = inl refl
ratio_small nan (inf t) = inl refl
ratio_small nan (fin t n g) = inl refl
ratio_small (inf s) nan = inl refl
ratio_small (inf s) (inf t) = inl refl
ratio_small (inf s) (fin t n g) = inr (0, pos 0, refl, lit≤ tt)
ratio_small (fin s m e) nan = inl refl
ratio_small (fin s m e) (inf t) = inr (0, pos 0, refl, lit≤ tt)
ratio_small (fin s m e) (fin t n g) = go (ltb (m * up e * down g) (n * up g * down e)) (ltb→lt (m * up e * down g) (n * up g * down e)) (nltb→le (m * up e * down g) (n * up g * down e))
  where
    go : (b : Bool) → (T b → m * up e * down g < n * up g * down e) → (T (not b) → n * up g * down e ≤ m * up e * down g) → UpTo 1 (cond b (fin false m e ⊘ fin false n g) (fin false n g ⊘ fin false m e))
    go true h k = quotient m e n g (le_of_lt (h tt))
    go false h k = quotient n g m e (k tt)

-- ---- 64 times as much, rounded
sixty_four : HasValue (of 64) false 64 1
sixty_four = whole_value binary64 64 (lit≤ tt)

times : (t : Float) → UpTo 1 t → UpTo 64 (of 64 ⊗ t)
unfolding mul of_int
times t (inl h) = inl (ap (λ (z : Float). of 64 ⊗ z) h)
times t (inr h) =
    let a = h.0 * up h.1 in
    let c = down h.1 in
    subst (UpTo 64) (sym (ap (λ (z : Float). of 64 ⊗ z) h.2 ∙ mul_over binary64 (of 64) (fin false h.0 h.1) false false 64 1 a c (lit< tt) (down_pos h.1) sixty_four (refl, refl)))
    (rounded 64 (64 * a) (1 * c) (mul-pos (lit< tt) (down_pos h.1)) (lit≤ tt) (omega (arith, h.3)))

whole_back : (n : ℕ) → n ≤ 64 → to_unsigned 64 (round binary64 false n 1) ≡ n
unfolding of_int
whole_back n h = (unsigned_back binary64 64 n (in_float_lem n (omega arith)) (omega arith)).1

half_up_lem : (a c : ℕ) → 0 < c → a ≤ 64 * c → half_up a c ≤ 64
half_up_lem a c C h = le_of_suc-le-suc ((div-lt_iff_lt-mul (omega arith)).1 (omega arith))

placed : (t : Float) → UpTo 64 t → to_unsigned 64 (round_of t) ≤ 64
unfolding round_of whole_by to_unsigned
placed t (inl h) = subst (λ (z : Float). to_unsigned 64 (round_of z) ≤ 64) (sym h) (lit≤ tt)
placed t (inr h) =
    let n = half_up (h.0 * up h.1) (down h.1) in
    let l : n ≤ 64 = half_up_lem (h.0 * up h.1) (down h.1) (down_pos h.1) h.3 in
    le_trans (le_of_eq (ap (λ (z : Float). to_unsigned 64 (round_of z)) h.2 ∙ whole_back n l)) l

pub step_small : (re im : Float) → to_unsigned 64 (nearest_step (ratio_of re im)) ≤ 64
step_small re im = placed (of 64 ⊗ ratio_of re im) (times (ratio_of re im) (ratio_small re im))
