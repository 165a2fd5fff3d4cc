-- The four operations on values that are known as fractions (`HasValue x s a c`: x is ± a / c): `add_over`,
-- `sub_over` turn them into `sum` of the numerators over the one denominator, and `sum_plus`, `sum_less`, `sum_more`
-- say what that is; `mul_over`, `div_over`.
-- Where a value stands to zero: `under_zero`, `over_zero`, `not_under`, `not_over_minus`. Over any format. Assumes
-- nothing.
use Rattle.std.proofs.Common.{◌≡◌, ℕ, zero, suc, ◌+◌, ◌-◌, ◌*◌, ◌<◌, ◌≤◌, Bool, true, false, cond, not, ◌&&◌, T, eqb, ltb, sym, refl, ap, ◌∙◌, subst, true≢false, le_of_eq, lt_of_lt_of_le, lt_of_le_of_lt, lt_irrefl, zero-lt-suc, mul_assoc, mul_comm, lt_of_mul-lt-mul_right, mul-lt-mul_of_pos_right, mul-pos, lt_of_not-le, zero-mul, mul-one, mul_right_comm, not-le_of_lt, arith, ltb→lt, lt→ltb}
use native.Mathlib.Nat.{mul-mul-mul_comm, mul-sub, eq_of_mul-eq-mul_right}
use mathlib.Core.Bool.{beq}
use lib.Dec.{eqb-suc-zero}
use lib.Arith.{le→nltb}
use lib.Ieee.{Float, nan, inf, fin, Format, up, down, round, unlike, sum, add, neg, sub, mul, div, lt}
use lib.Ieee.Bits.{is_true, is_false, cond_no}
use lib.Ieee.Fits.{up_pos, down_pos}
use lib.Ieee.Exact.{HasValue}
use lib.Ieee.Scale.{round_same}
use Rattle.float.proofs.Compared.{nought, no, same_truth}

-- ---- two pairs of numbers in the same ratio are in the same order
ltb_by : (a b a' b' : ℕ) → (a < b → a' < b') → (a' < b' → a < b) → ltb a b ≡ ltb a' b'
ltb_by a b a' b' h k = same_truth (ltb a b) (ltb a' b') (λ t. lt→ltb a' b' (h (ltb→lt a b t))) (λ t. lt→ltb a b (k (ltb→lt a' b' t)))

ratio_lt : (a b c a' b' c' : ℕ) → 0 < c → 0 < c' → a * c' ≡ a' * c → b * c' ≡ b' * c → a < b → a' < b'
ratio_lt a b c a' b' c' C C' p q h = lt_of_mul-lt-mul_right c (lt_of_le_of_lt (le_of_eq (sym p)) (lt_of_lt_of_le (mul-lt-mul_of_pos_right h C') (le_of_eq q)))

sub_mul : (a b c : ℕ) → (a - b) * c ≡ a * c - b * c
sub_mul a b c = mul_comm (a - b) c ∙ mul-sub c a b ∙ ap (λ (z : ℕ). z - c * b) (mul_comm c a) ∙ ap (λ (z : ℕ). a * c - z) (mul_comm c b)

less_same : (a b c a' b' c' : ℕ) → a * c' ≡ a' * c → b * c' ≡ b' * c → (a - b) * c' ≡ (a' - b') * c
less_same a b c a' b' c' p q = sub_mul a b c' ∙ ap (λ (z : ℕ). z - b * c') p ∙ ap (λ (z : ℕ). a' * c - z) q ∙ sym (sub_mul a' b' c)

-- `sum` sees only the values of its fractions
pub sum_same : (f : Format) (s : Bool) (a : ℕ) (t : Bool) (b c a' b' c' : ℕ) → 0 < c → 0 < c' → a * c' ≡ a' * c → b * c' ≡ b' * c → sum f s a t b c ≡ sum f s a' t b' c'
unfolding sum
sum_same f s a t b c a' b' c' C C' p q =
    let l : ltb a b ≡ ltb a' b' = ltb_by a b a' b' (ratio_lt a b c a' b' c' C C' p q) (ratio_lt a' b' c' a b c C' C (sym p) (sym q)) in
    let g : ltb b a ≡ ltb b' a' = ltb_by b a b' a' (ratio_lt b a c b' a' c' C C' q p) (ratio_lt b' a' c' b a c C' C (sym q) (sym p)) in
    let plus : round f s (a + b) c ≡ round f s (a' + b') c' = round_same f s (a + b) c (a' + b') c' C C' (omega arith) in
    let more : round f t (b - a) c ≡ round f t (b' - a') c' = round_same f t (b - a) c (b' - a') c' C C' (less_same b a c b' a' c' q p) in
    let less : round f (s && ltb b a) (a - b) c ≡ round f (s && ltb b' a') (a' - b') c' =
    ap (λ (z : Bool). round f (s && z) (a - b) c) g ∙ round_same f (s && ltb b' a') (a - b) c (a' - b') c' C C' (less_same a b c a' b' c' p q) in
    λ i. cond (beq s t) (plus i) (cond (l i) (more i) (less i))

-- ---- sums and differences over one denominator
flip : (t s : Bool) → t ≡ s → not t ≡ not s
flip t s h = ap not h

pub neg_value : (x : Float) (s : Bool) (a c : ℕ) → HasValue x s a c → HasValue (neg x) (not s) a c
unfolding neg
neg_value nan s a c v = v
neg_value (inf t) s a c v = v
neg_value (fin t m e) s a c v = (flip t s v.0, v.1)

pub add_over : (f : Format) (x y : Float) (s t : Bool) (a b c : ℕ) → 0 < c → HasValue x s a c → HasValue y t b c → add f x y ≡ sum f s a t b c
unfolding add
add_over f nan y s t a b c C v w = absurd v
add_over f (inf u) y s t a b c C v w = absurd v
add_over f (fin u m e) nan s t a b c C v w = absurd w
add_over f (fin u m e) (inf o) s t a b c C v w = absurd w
add_over f (fin u m e) (fin o n g) s t a b c C v w =
    (λ i. sum f (v.0 i) (m * up e * down g) (w.0 i) (n * up g * down e) (down e * down g))
    ∙ sum_same f s (m * up e * down g) t (n * up g * down e) (down e * down g) a b c (mul-pos (down_pos e) (down_pos g)) C
    (mul_right_comm (m * up e) (down g) c ∙ ap (λ (z : ℕ). z * down g) v.1 ∙ mul_assoc a (down e) (down g))
    (mul_right_comm (n * up g) (down e) c ∙ ap (λ (z : ℕ). z * down e) w.1 ∙ mul_right_comm b (down g) (down e) ∙ mul_assoc b (down e) (down g))

pub sub_over : (f : Format) (x y : Float) (s t : Bool) (a b c : ℕ) → 0 < c → HasValue x s a c → HasValue y t b c → sub f x y ≡ sum f s a (not t) b c
unfolding sub
sub_over f x y s t a b c C v w = add_over f x (neg y) s (not t) a b c C v (neg_value y t b c w)

-- ---- products and quotients
pub mul_over : (f : Format) (x y : Float) (s t : Bool) (a c b d : ℕ) → 0 < c → 0 < d → HasValue x s a c → HasValue y t b d → mul f x y ≡ round f (unlike s t) (a * b) (c * d)
unfolding mul
mul_over f nan y s t a c b d C D v w = absurd v
mul_over f (inf u) y s t a c b d C D v w = absurd v
mul_over f (fin u m e) nan s t a c b d C D v w = absurd w
mul_over f (fin u m e) (inf o) s t a c b d C D v w = absurd w
mul_over f (fin u m e) (fin o n g) s t a c b d C D v w =
    (λ i. round f (unlike (v.0 i) (w.0 i)) (m * up e * (n * up g)) (down e * down g))
    ∙ round_same f (unlike s t) (m * up e * (n * up g)) (down e * down g) (a * b) (c * d) (mul-pos (down_pos e) (down_pos g)) (mul-pos C D)
    (mul-mul-mul_comm (m * up e) (n * up g) c d ∙ (λ i. v.1 i * w.1 i) ∙ mul-mul-mul_comm a (down e) b (down g))

pub cond_nil : (n : ℕ) (x y : Float) → 0 < n → cond (eqb n 0) x y ≡ y
cond_nil zero x y h = absurd (lt_irrefl 0 h)
cond_nil (suc n) x y h = cond_no (eqb (suc n) 0) x y (no (eqb-suc-zero n))

pub some_digits : (n u d b c : ℕ) → 0 < d → n * u * c ≡ b * d → 0 < b → 0 < n
some_digits zero u d b c D e h = absurd (lt_irrefl 0 (subst (λ (z : ℕ). 0 < z) (sym e ∙ ap (λ (z : ℕ). z * c) (zero-mul u) ∙ zero-mul c) (mul-pos h D)))
some_digits (suc n) u d b c D e h = zero-lt-suc n

pub div_over : (f : Format) (x y : Float) (s t : Bool) (a c b d : ℕ) → 0 < c → 0 < d → 0 < b → HasValue x s a c → HasValue y t b d → div f x y ≡ round f (unlike s t) (a * d) (b * c)
unfolding div
div_over f nan y s t a c b d C D B v w = absurd v
div_over f (inf u) y s t a c b d C D B v w = absurd v
div_over f (fin u m e) nan s t a c b d C D B v w = absurd w
div_over f (fin u m e) (inf o) s t a c b d C D B v w = absurd w
div_over f (fin u m e) (fin o n g) s t a c b d C D B v w =
    let N : 0 < n = some_digits n (up g) (down g) b d (down_pos g) w.1 B in
    cond_nil n (cond (eqb m 0) nan (inf (unlike u o))) (round f (unlike u o) (m * up e * down g) (n * up g * down e)) N
    ∙ (λ i. round f (unlike (v.0 i) (w.0 i)) (m * up e * down g) (n * up g * down e))
    ∙ round_same f (unlike s t) (m * up e * down g) (n * up g * down e) (a * d) (b * c) (mul-pos (mul-pos N (up_pos g)) (down_pos e)) (mul-pos B C)
    (cross (m * up e) (down g) b c a (down e) d (n * up g) v.1 w.1)
  where
    cross : (x p b c a q d y : ℕ) → x * c ≡ a * q → y * d ≡ b * p → x * p * (b * c) ≡ a * d * (y * q)
    cross x p b c a q d y h k =
        mul-mul-mul_comm x p b c ∙ ap (λ (z : ℕ). x * b * z) (mul_comm p c) ∙ mul-mul-mul_comm x b c p ∙ (λ i. h i * sym k i) ∙ ap (λ (z : ℕ). a * q * z) (mul_comm y d) ∙ mul-mul-mul_comm a q d y ∙ ap (λ (z : ℕ). a * d * z) (mul_comm q y)

-- ---- `sum` of two signs: the larger one's, and plus for nothing left
pub sum_plus : (f : Format) (s : Bool) (a b c : ℕ) → sum f s a s b c ≡ round f s (a + b) c
unfolding sum
sum_plus f true a b c = refl
sum_plus f false a b c = refl

pub sum_less : (f : Format) (a b c : ℕ) → b ≤ a → sum f false a true b c ≡ round f false (a - b) c
unfolding sum
sum_less f a b c h = ap (λ (t : Bool). cond t (round f true (b - a) c) (round f false (a - b) c)) (is_false (ltb a b) (le→nltb a b h))

pub sum_more : (f : Format) (s : Bool) (a b c : ℕ) → a < b → sum f s a (not s) b c ≡ round f (not s) (b - a) c
unfolding sum
sum_more f true a b c h = ap (λ (t : Bool). cond t (round f false (b - a) c) (round f (true && ltb b a) (a - b) c)) (is_true (ltb a b) (lt→ltb a b h))
sum_more f false a b c h = ap (λ (t : Bool). cond t (round f true (b - a) c) (round f (false && ltb b a) (a - b) c)) (is_true (ltb a b) (lt→ltb a b h))

-- ---- above and below zero
size_pos : (m u d a c : ℕ) → 0 < d → m * u * c ≡ a * d → 0 < a → 0 < m * u
size_pos m u d a c D e h = lt_of_not-le (λ (g : m * u ≤ 0). not-le_of_lt (mul-pos h D) (none (m * u) c (a * d) g e))
  where
    none : (x c p : ℕ) → x ≤ 0 → x * c ≡ p → p ≤ 0
    none x c p g e = le_of_eq (sym e ∙ ap (λ (z : ℕ). z * c) (omega (arith, g)) ∙ zero-mul c)

pub under_zero : (x : Float) (a c : ℕ) → 0 < a → HasValue x true a c → T (lt x nought)
unfolding lt
under_zero nan a c A v = absurd v
under_zero (inf s) a c A v = absurd v
under_zero (fin false m e) a c A v = absurd (true≢false (sym v.0))
under_zero (fin true m e) a c A v = lt→ltb 0 (m * up e * 1 + 0 * 1 * down e) (omega (arith, mul-one (m * up e), size_pos m (up e) (down e) a c (down_pos e) v.1 A))

pub not_under : (x : Float) (a c : ℕ) → HasValue x false a c → T (not (lt x nought))
unfolding lt
not_under nan a c v = absurd v
not_under (inf s) a c v = absurd v
not_under (fin true m e) a c v = absurd (true≢false v.0)
not_under (fin false m e) a c v = le→nltb (m * up e * 1) (0 * 1 * down e) (omega (arith, zero-mul (down e)))

pub over_zero : (x : Float) (a c : ℕ) → 0 < a → HasValue x false a c → T (lt nought x)
unfolding lt
over_zero nan a c A v = absurd v
over_zero (inf s) a c A v = absurd v
over_zero (fin true m e) a c A v = absurd (true≢false v.0)
over_zero (fin false m e) a c A v = lt→ltb (0 * 1 * down e) (m * up e * 1) (omega (arith, mul-one (m * up e), zero-mul (down e), size_pos m (up e) (down e) a c (down_pos e) v.1 A))

-- a minus, or nothing
pub not_over_minus : (x : Float) (a c : ℕ) → HasValue x true a c → T (not (lt nought x))
unfolding lt
not_over_minus nan a c v = absurd v
not_over_minus (inf s) a c v = absurd v
not_over_minus (fin false m e) a c v = absurd (true≢false (sym v.0))
not_over_minus (fin true m e) a c v = tt

-- nothing, with either sign
pub none_under : (x : Float) (c : ℕ) → 0 < c → HasValue x true 0 c → T (lt x nought) → ⊥
unfolding lt
none_under nan c C v h = v
none_under (inf s) c C v h = v
none_under (fin false m e) c C v h = true≢false (sym v.0)
none_under (fin true m e) c C v h =
    let z : m * up e ≡ 0 = eq_of_mul-eq-mul_right c C (m * up e) 0 (v.1 ∙ zero-mul (down e) ∙ sym (zero-mul c)) in
    omega (arith, z, mul-one (m * up e), zero-mul (down e), ltb→lt 0 (m * up e * 1 + 0 * 1 * down e) h)
