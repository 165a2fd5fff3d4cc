-- From tests on floats to bounds on integers: `to_unsigned` keeps the order (`unsigned_mono`), and a difference above
-- zero has its operands in order (`sub_above`). A quotient grows with its numerator and shrinks as its denominator
-- grows (`div_mono`).
-- Over any format, with infinities and negative values among the operands. Assumes nothing.
use Rattle.std.proofs.Common.{◌≡◌, ℕ, zero, suc, ◌+◌, ◌-◌, ◌*◌, ◌/◌, ◌^◌, ◌<◌, ◌≤◌, min, Bool, true, false, cond, not, ◌||◌, T, eqb, ltb, ℤ, sym, refl, ap, ◌∙◌, subst, inl, inr, zero-le, le_trans, le_of_eq, le_refl, lt_irrefl, mul_assoc, mul_comm, eq-zero-or-pos, mul-le-mul, mul-pos, zero-mul, not-le_of_lt, mul_left_comm, arith, lit<, eqb→eq, ltb→lt, lt→ltb, nltb→le, pow_pos}
use native.Mathlib.Nat.{div-eq_of_lt}
use Rattle.std.proofs.Math.Nat.{min-le_right}
use lib.Ieee.{Float, nan, inf, fin, Format, prec, emax, low, up, down, odd, units, round, sum, sub, div, lt, le, to_unsigned}
use lib.Ieee.Fits.{round_is, up_pos, down_pos, and_r}
use lib.Ieee.Exact.{HasValue, round_exact}
use lib.Ieee.Order.{round_mono}
use lib.Ieee.Nearest.{div_mono}
use lib.Ieee.Positive.{num, den, positive, den_pos, own_value, le→cross}
use Rattle.float.proofs.Sums.{div_over}
use Rattle.float.proofs.Compared.{nought, lt→cross, lt_or_eq}

-- ---- `to_unsigned` keeps the order
-- not negative, and at most a negative value: zero
no_size : (m u d : ℕ) → 0 < u → 0 < d → m * u * d ≡ 0 → m ≡ 0
no_size zero u d U D h = refl
no_size (suc m) u d U D h = absurd (lt_irrefl 0 (subst (λ (z : ℕ). 0 < z) h (mul-pos (mul-pos (omega arith) U) D)))

pub unsigned_mono : (w : ℕ) (x y : Float) → T (le x y) → to_unsigned w x ≤ to_unsigned w y
unfolding le to_unsigned
unsigned_mono w nan y h = absurd h
unsigned_mono w (inf s) nan h = absurd (no_or h)
  where
    no_or : T (false || false) → ⊥
    no_or t = t
unsigned_mono w (inf true) (inf t) h = zero-le
unsigned_mono w (inf false) (inf true) h = absurd h
unsigned_mono w (inf false) (inf false) h = le_refl (2 ^ w - 1)
unsigned_mono w (inf true) (fin t n d) h = zero-le
unsigned_mono w (inf false) (fin t n d) h = absurd h
unsigned_mono w (fin s m e) nan h = absurd h
unsigned_mono w (fin true m e) (inf t) h = zero-le
unsigned_mono w (fin false m e) (inf true) h = absurd h
unsigned_mono w (fin false m e) (inf false) h = min-le_right (m * up e / down e) (2 ^ w - 1)
unsigned_mono w (fin true m e) (fin t n d) h = zero-le
unsigned_mono w (fin false m e) (fin true n d) h =
    let z : m ≡ 0 = no_size m (up e) (down d) (up_pos e) (down_pos d) (eqb→eq (m * up e * down d) 0 (and_r (eqb (m * up e * down d) (n * up d * down e)) (eqb (m * up e * down d) 0) h)) in
    le_of_eq (ap (λ (y : ℕ). min (y * up e / down e) (2 ^ w - 1)) z ∙ ap (λ (y : ℕ). min (y / down e) (2 ^ w - 1)) (zero-mul (up e)) ∙ ap (λ (y : ℕ). min y (2 ^ w - 1)) (none (down e) (down_pos e)) ∙ omega arith)
  where
    none : (d : ℕ) → 0 < d → 0 / d ≡ 0
    none d D = div-eq_of_lt D
unsigned_mono w (fin false m e) (fin false n d) h =
    omega (arith, div_mono (m * up e) (down e) (n * up d) (down d) (down_pos e) (down_pos d) (lt_or_eq (m * up e * down d) (n * up d * down e) h))

-- ---- a rounded value above zero has its sign clear and comes of a fraction above zero
nought_value : HasValue nought false 0 1
nought_value = (refl, refl)

odd_minus : (d q k l : ℕ) → T (lt nought (odd d true q k l)) → ⊥
unfolding odd lt
odd_minus d zero k l h = h
odd_minus d (suc q) k l h = h

units_minus : (f : Format) (q k : ℕ) → T (lt nought (units f true q k)) → ⊥
unfolding units lt
units_minus f q k = go (ltb (q * 2 ^ k) (2 ^ (low f + suc (emax f))))
  where
    go : (b : Bool) → T (lt nought (cond b (odd (suc (prec f)) true q k (low f)) (inf true))) → ⊥
    go true h = odd_minus (suc (prec f)) q k (low f) h
    go false h = h

round_minus : (f : Format) (a c : ℕ) → T (lt nought (round f true a c)) → ⊥
round_minus f a c h = units_minus f _ _ (subst (λ (x : Float). T (lt nought x)) (round_is f true a c) h)

round_above : (f : Format) (a c : ℕ) → 0 < c → T (lt nought (round f false a c)) → 0 < a
round_above f a c C h =
    elim (eq-zero-or-pos a) [
      | inl z ↦ absurd (omega (arith, lt→cross nought (round f false 0 c) 0 1 0 c (lit< tt) C nought_value (nothing f c C) (subst (λ (x : ℕ). T (lt nought (round f false x c))) z h)))
      | inr p ↦ p
    ]
  where
    nothing : (f : Format) (c : ℕ) → 0 < c → HasValue (round f false 0 c) false 0 c
    nothing f c C = round_exact f false 0 c 0 0 C (pow_pos (prec f)) (pow_pos (low f + suc (emax f))) (zero-mul (2 ^ low f) ∙ sym (zero-mul c))

-- ---- a difference above zero
plus_above : (f : Format) (a b c : ℕ) → 0 < c → T (lt nought (sum f false a false b c)) → 0 < a + b
unfolding sum
plus_above f a b c C h = round_above f (a + b) c C h

minus_above : (f : Format) (a b c : ℕ) → T (lt nought (sum f true a true b c)) → ⊥
unfolding sum
minus_above f a b c h = round_minus f (a + b) c h

-- a - b
less_above : (f : Format) (a b c : ℕ) → 0 < c → T (lt nought (sum f false a true b c)) → b < a
unfolding sum
less_above f a b c C = go (ltb a b)
  where
    go : (t : Bool) → T (lt nought (cond t (round f true (b - a) c) (round f false (a - b) c))) → b < a
    go true h = absurd (round_minus f (b - a) c h)
    go false h = omega (arith, round_above f (a - b) c C h)

-- b - a
more_above : (f : Format) (a b c : ℕ) → 0 < c → T (lt nought (sum f true a false b c)) → a < b
unfolding sum
more_above f a b c C = go (ltb a b) (ltb→lt a b) (nltb→le a b) (ltb b a) (nltb→le b a)
  where
    go : (t : Bool) → (T t → a < b) → (T (not t) → b ≤ a) → (u : Bool) → (T (not u) → a ≤ b) → T (lt nought (cond t (round f false (b - a) c) (round f u (a - b) c))) → a < b
    go true k l u m h = k tt
    go false k l true m h = absurd (round_minus f (a - b) c h)
    go false k l false m h = absurd (not-le_of_lt (omega (arith, round_above f (a - b) c C h)) (m tt))

fin_above : (f : Format) (s : Bool) (m : ℕ) (e : ℤ) (t : Bool) (n : ℕ) (d : ℤ) (c : ℕ) → 0 < c → T (lt nought (sum f s (m * up e * down d) (not t) (n * up d * down e) c)) → T (lt (fin t n d) (fin s m e))
unfolding lt
fin_above f false m e true n d c C h = lt→ltb 0 (n * up d * down e + m * up e * down d) (omega (arith, plus_above f (m * up e * down d) (n * up d * down e) c C h))
fin_above f false m e false n d c C h = lt→ltb (n * up d * down e) (m * up e * down d) (less_above f (m * up e * down d) (n * up d * down e) c C h)
fin_above f true m e true n d c C h = lt→ltb (m * up e * down d) (n * up d * down e) (more_above f (m * up e * down d) (n * up d * down e) c C h)
fin_above f true m e false n d c C h = absurd (minus_above f (m * up e * down d) (n * up d * down e) c h)

pub sub_above : (f : Format) (hi lo : Float) → T (lt nought (sub f hi lo)) → T (lt lo hi)
unfolding sub lt
sub_above f nan lo h = absurd h
sub_above f (inf s) nan h = absurd h
sub_above f (inf true) (inf true) h = absurd h
sub_above f (inf true) (inf false) h = absurd h
sub_above f (inf false) (inf true) h = tt
sub_above f (inf false) (inf false) h = absurd h
sub_above f (inf true) (fin t n d) h = absurd h
sub_above f (inf false) (fin t n d) h = tt
sub_above f (fin s m e) nan h = absurd h
sub_above f (fin s m e) (inf true) h = tt
sub_above f (fin s m e) (inf false) h = absurd h
sub_above f (fin s m e) (fin t n d) h = fin_above f s m e t n d (down e * down d) (mul-pos (down_pos e) (down_pos d)) h

-- ---- the quotient
num_pos : (x : Float) → T (positive x) → 0 < num x
num_pos nan p = absurd p
num_pos (inf s) p = absurd p
num_pos (fin true m e) p = absurd p
num_pos (fin false m e) p = mul-pos (ltb→lt 0 m p) (up_pos e)

pub div_is : (f : Format) (x y : Float) → T (positive x) → T (positive y) → div f x y ≡ round f false (num x * den y) (num y * den x)
div_is f x y p q = div_over f x y false false (num x) (den x) (num y) (den y) (den_pos x) (den_pos y) (num_pos y q) (own_value x p) (own_value y q)

pub quotient_mono : (f : Format) (x x' y y' : Float) → T (positive x) → T (positive x') → T (positive y) → T (positive y') → T (le x x') → T (le y' y) → T (le (div f x y) (div f x' y'))
quotient_mono f x x' y y' p p' q q' h k =
    subst (λ (z : Float). T (le z (div f x' y'))) (sym (div_is f x y p q))
    (subst (λ (z : Float). T (le (round f false (num x * den y) (num y * den x)) z)) (sym (div_is f x' y' p' q'))
    (round_mono f (num x * den y) (num y * den x) (num x' * den y') (num y' * den x') (mul-pos (num_pos y q) (den_pos x)) (mul-pos (num_pos y' q') (den_pos x'))
    (cross (num x) (den x) (num x') (den x') (num y) (den y) (num y') (den y') (le→cross x x' p p' h) (le→cross y' y q' q k))))
  where
    cross : (a b a' b' c d c' d' : ℕ) → a * b' ≤ a' * b → c' * d ≤ c * d' → a * d * (c' * b') ≤ a' * d' * (c * b)
    cross a b a' b' c d c' d' h k =
        le_trans (le_of_eq (simp (mul_assoc, mul_comm, mul_left_comm))) (le_trans (mul-le-mul h k) (le_of_eq (simp (mul_assoc, mul_comm, mul_left_comm))))
