-- How large a result can be. `Within k x`: x is finite and at most 2 ^ k in size. Sums, differences and products of
-- such values stay such, `add_within`, `sub_within`, `mul_within`; so does `neg`. `le_within`, `within_le`: the test
-- |x| <= 2 ^ k. `AtLeast k y`: y is at least 2 ^ -k in size. Over any format. Assumes nothing.
use Rattle.std.proofs.Common.{◌≡◌, ℕ, suc, ◌+◌, ◌-◌, ◌*◌, ◌^◌, ◌<◌, ◌≤◌, Bool, true, false, cond, ◌&&◌, T, ltb, pos, sym, ap, ◌∙◌, subst, true≢false, le_trans, le_of_eq, lt_of_lt_of_le, lt_of_le_of_lt, mul-le-mul_right, mul_assoc, mul-le-mul, mul-pos, one-mul, mul-one, mul_right_comm, le_of_mul-le-mul_right, arith, lit<, pow_mono, pow-add}
use native.Mathlib.Nat.{pow-succ', mul-mul-mul_comm}
use mathlib.Core.Bool.{beq}
use lib.Pow.{pow-lt}
use lib.Ieee.{Float, nan, inf, fin, Format, prec, emax, low, unlike, up, down, round, sum, neg, add, sub, mul, le}
use lib.Ieee.Fits.{down_pos, two}
use lib.Ieee.Exact.{HasValue, round_exact}
use lib.Ieee.Scale.{finite}
use lib.Ieee.Order.{round_mono}
use Rattle.float.specs.Compare.{abs_of}
use Rattle.float.proofs.Exactly.{neg_round}
use Rattle.float.proofs.Monotone.{le_fin, fin_le}
use Rattle.float.proofs.Signs.{Signed, round_signed}

abbrev pub Within : ℕ → Float → Type 0
Within k nan = ⊥
Within k (inf s) = ⊥
Within k (fin s m e) = m * up e ≤ 2 ^ k * down e

pub within_finite : (k : ℕ) (x : Float) → Within k x → T (finite x)
within_finite k nan h = h
within_finite k (inf s) h = h
within_finite k (fin s m e) h = tt

pub within_more : (j k : ℕ) (x : Float) → j ≤ k → Within j x → Within k x
within_more j k nan l h = h
within_more j k (inf s) l h = h
within_more j k (fin s m e) l h = le_trans h (mul-le-mul_right (down e) (pow_mono l))

pub within_neg : (k : ℕ) (x : Float) → Within k x → Within k (neg x)
unfolding neg
within_neg k nan h = h
within_neg k (inf s) h = h
within_neg k (fin s m e) h = h

-- ---- the test
pub le_within : (k : ℕ) (x : Float) → T (le (abs_of x) (fin false 1 (pos k))) → Within k x
unfolding abs_of
le_within k nan h = nan_under h
  where
    nan_under : T (le nan (fin false 1 (pos k))) → ⊥
    nan_under h = (unfold le in h)
le_within k (inf s) h = top_under h
  where
    top_under : T (le (inf false) (fin false 1 (pos k))) → ⊥
    top_under h = (unfold le in h)
le_within k (fin s m e) h = le_trans (le_of_eq (sym (mul-one (m * up e)))) (le_trans (le_fin false m e false 1 (pos k) h) (le_of_eq (ap (λ (z : ℕ). z * down e) (one-mul (2 ^ k)))))

pub within_le : (k : ℕ) (x : Float) → Within k x → T (le (abs_of x) (fin false 1 (pos k)))
unfolding abs_of
within_le k nan h = absurd h
within_le k (inf s) h = absurd h
within_le k (fin s m e) h = fin_le false m e false 1 (pos k) (le_trans (le_of_eq (mul-one (m * up e))) (le_trans h (le_of_eq (ap (λ (z : ℕ). z * down e) (sym (one-mul (2 ^ k)))))))

-- ---- a fraction of at most 2 ^ k is rounded to at most that
power_value : (f : Format) (k : ℕ) → k ≤ emax f → HasValue (round f false (2 ^ k) 1) false (2 ^ k) 1
power_value f k h =
    round_exact f false (2 ^ k) 1 1 (k + low f) (lit< tt) (pow-lt {i = 0} {j = prec f} (lt_of_lt_of_le (lit< tt) (two f)))
    (lt_of_le_of_lt (le_of_eq (one-mul (2 ^ (k + low f)))) (pow-lt (omega (arith, h))))
    (sym (mul-one (1 * 2 ^ (k + low f)) ∙ one-mul (2 ^ (k + low f)) ∙ pow-add 2 k (low f)))

value_within : (k : ℕ) (x y : Float) → Signed false x → HasValue y false (2 ^ k) 1 → T (le x y) → Within k x
value_within k nan y s v h = s
value_within k (inf true) y s v h = true≢false s
value_within k (inf false) nan s v h = v
value_within k (inf false) (inf t) s v h = v
value_within k (inf false) (fin t n d) s v h = (unfold le in h)
value_within k (fin true m e) y s v h = absurd (true≢false s)
value_within k (fin false m e) nan s v h = absurd v
value_within k (fin false m e) (inf t) s v h = absurd v
value_within k (fin false m e) (fin true n d) s v h = absurd (true≢false v.0)
value_within k (fin false m e) (fin false n d) s v h =
    le_of_mul-le-mul_right
    (le_trans (le_fin false m e false n d h) (le_of_eq (ap (λ (z : ℕ). z * down e) (sym (mul-one (n * up d)) ∙ v.1) ∙ mul_right_comm (2 ^ k) (down d) (down e))))
    (down_pos d)

plus_within : (f : Format) (a c k : ℕ) → 0 < c → k ≤ emax f → a ≤ 2 ^ k * c → Within k (round f false a c)
plus_within f a c k C K h =
    value_within k (round f false a c) (round f false (2 ^ k) 1) (round_signed f false a c) (power_value f k K) (round_mono f a c (2 ^ k) 1 C (lit< tt) (le_trans (le_of_eq (mul-one a)) h))

pub round_within : (f : Format) (s : Bool) (a c k : ℕ) → 0 < c → k ≤ emax f → a ≤ 2 ^ k * c → Within k (round f s a c)
round_within f false a c k C K h = plus_within f a c k C K h
round_within f true a c k C K h = subst (Within k) (neg_round f false a c) (within_neg k (round f false a c) (plus_within f a c k C K h))

-- ---- sums and differences
cond_within : (k : ℕ) (b : Bool) (x y : Float) → Within k x → Within k y → Within k (cond b x y)
cond_within k true x y h l = h
cond_within k false x y h l = l

sum_within : (f : Format) (s : Bool) (a : ℕ) (t : Bool) (b c k : ℕ) → 0 < c → k < emax f → a ≤ 2 ^ k * c → b ≤ 2 ^ k * c → Within (suc k) (sum f s a t b c)
unfolding sum
sum_within f s a t b c k C K h l =
    let p : 2 ^ suc k * c ≡ 2 * (2 ^ k * c) = ap (λ (z : ℕ). z * c) (pow-succ' 2 k) ∙ mul_assoc 2 (2 ^ k) c in
    cond_within (suc k) (beq s t) (round f s (a + b) c) (cond (ltb a b) (round f t (b - a) c) (round f (s && ltb b a) (a - b) c))
    (round_within f s (a + b) c (suc k) C K (omega (arith, p, h, l)))
    (cond_within (suc k) (ltb a b) (round f t (b - a) c) (round f (s && ltb b a) (a - b) c)
    (round_within f t (b - a) c (suc k) C K (omega (arith, p, l)))
    (round_within f (s && ltb b a) (a - b) c (suc k) C K (omega (arith, p, h))))

pub add_within : (f : Format) (x y : Float) (k : ℕ) → k < emax f → Within k x → Within k y → Within (suc k) (add f x y)
unfolding add
add_within f nan y k K h l = h
add_within f (inf s) y k K h l = absurd h
add_within f (fin s m e) nan k K h l = l
add_within f (fin s m e) (inf t) k K h l = l
add_within f (fin s m e) (fin t n d) k K h l =
    sum_within f s (m * up e * down d) t (n * up d * down e) (down e * down d) k (mul-pos (down_pos e) (down_pos d)) K
    (le_trans (mul-le-mul_right (down d) h) (le_of_eq (mul_assoc (2 ^ k) (down e) (down d))))
    (le_trans (mul-le-mul_right (down e) l) (le_of_eq (mul_right_comm (2 ^ k) (down d) (down e) ∙ mul_assoc (2 ^ k) (down e) (down d))))

pub sub_within : (f : Format) (x y : Float) (k : ℕ) → k < emax f → Within k x → Within k y → Within (suc k) (sub f x y)
unfolding sub
sub_within f x y k K h l = add_within f x (neg y) k K h (within_neg k y l)

-- ---- products
pub mul_within : (f : Format) (x y : Float) (j k : ℕ) → j + k ≤ emax f → Within j x → Within k y → Within (j + k) (mul f x y)
unfolding mul
mul_within f nan y j k K h l = h
mul_within f (inf s) y j k K h l = absurd h
mul_within f (fin s m e) nan j k K h l = l
mul_within f (fin s m e) (inf t) j k K h l = absurd l
mul_within f (fin s m e) (fin t n d) j k K h l =
    round_within f (unlike s t) (m * up e * (n * up d)) (down e * down d) (j + k) (mul-pos (down_pos e) (down_pos d)) K
    (le_trans (mul-le-mul h l) (le_of_eq (mul-mul-mul_comm (2 ^ j) (down e) (2 ^ k) (down d) ∙ ap (λ (z : ℕ). z * (down e * down d)) (sym (pow-add 2 j k)))))

-- y is at least 2 ^ -k in size
abbrev pub AtLeast : ℕ → Float → Type 0
AtLeast k nan = ⊥
AtLeast k (inf s) = ⊥
AtLeast k (fin s m e) = down e ≤ m * up e * 2 ^ k
