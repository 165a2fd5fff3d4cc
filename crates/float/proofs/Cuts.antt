-- `(x + 2 ^ 52) - 2 ^ 52`, for x from 0 up to 2 ^ 52, is a whole number: x's whole part or one more
-- (`rounded_whole`), and what x is over or under it is exact (`bounce_is`). It rests on `round_at_one`: from 2 ^ 52
-- up to 2 ^ 53 binary64 rounds to whole numbers.
-- Assumes nothing.
use Rattle.std.proofs.Common.{◌≡◌, ℕ, suc, ◌+◌, ◌-◌, ◌*◌, ◌/◌, ◌%◌, ◌^◌, ◌<◌, ◌≤◌, Bool, true, false, ◌⊎◌, ℤ, pos, sym, refl, ap, ◌∙◌, subst, inl, inr, true≢false, le_trans, le_of_eq, lt_of_lt_of_le, lt_of_le_of_lt, le_of_lt, mul-le-mul_right, mod-lt, mul_assoc, suc-mul, mul_comm, div-lt_iff_lt-mul, eq-zero-or-pos, mul-lt-mul_of_pos_right, mul-pos, div-add-mod', le-div_iff_mul-le, mul-one, mul_right_comm, arith, lit<, lit≤, pow_pos, shl_lt}
use Prim.Native.Nat.{compare, Ordering}
use native.Mathlib.Nat.{mul-sub, eq_of_mul-eq-mul_right, add-mul-div_right, add-mul-mod_self_right}
use lib.Ieee.{Float, nan, inf, fin, binary64, up, down, size, nearest, units, round, sum, add, sub, of_int}
use lib.Ieee.Digits.{size-le}
use lib.Ieee.Fits.{core, round_is, down_pos, nearest-le}
use lib.Ieee.Exact.{HasValue, units_val}
use lib.Ieee.Nearest.{closest, closest_same, nearest-ge}
use lib.Ieee.Scale.{round_same}
use Rattle.float.proofs.Sums.{sub_over, sum_less, sum_more}
use Rattle.float.proofs.Counts.{whole_is, whole_value}
use Rattle.float.proofs.Digits.{size_gt, Cmp, cmp}

abbrev pub limit : Float
limit = fin false 1 (pos 52)

-- ---- one value as two fractions
pub revalue : (x : Float) (s : Bool) (a c b d : ℕ) → 0 < c → a * d ≡ b * c → HasValue x s a c → HasValue x s b d
revalue nan s a c b d C h v = v
revalue (inf t) s a c b d C h v = v
revalue (fin t m e) s a c b d C h v = (
  v.0,
  eq_of_mul-eq-mul_right c C (m * up e * d) (b * down e)
      (mul_right_comm (m * up e) d c ∙ ap (λ (z : ℕ). z * d) v.1 ∙ mul_right_comm a (down e) d ∙ ap (λ (z : ℕ). z * down e) h ∙ mul_right_comm b c (down e)),
)

-- ---- where the unit is 1
pub closest_bounds : (a c : ℕ) → (a / c ≤ closest a c) × (closest a c ≤ suc (a / c))
closest_bounds a c = (nearest-ge (a / c) (compare (a % c * 2) c), nearest-le (a / c) (compare (a % c * 2) c))

pub round_at_one : (a c : ℕ) → 0 < c → 2 ^ 52 * c ≤ a → a < 2 ^ 53 * c → HasValue (round binary64 false a c) false (closest a c) 1
round_at_one a c C l h =
    let n = a * 2 ^ 1074 in
    let K = closest a c in
    let lo : 2 ^ 1126 * c ≤ n = le_trans (le_of_eq (mul_right_comm (2 ^ 52) (2 ^ 1074) c)) (mul-le-mul_right (2 ^ 1074) l) in
    let hi : n < 2 ^ 1127 * c = lt_of_lt_of_le (mul-lt-mul_of_pos_right h (pow_pos 1074)) (le_of_eq (mul_right_comm (2 ^ 53) c (2 ^ 1074))) in
    let k : size (n / c) - 53 ≡ 1074 = omega (arith, size_gt (n / c) 1126 ((le-div_iff_mul-le C).1 lo), size-le (n / c) 1127 ((div-lt_iff_lt-mul C).1 hi)) in
    let is : round binary64 false a c ≡ units binary64 false K 1074 =
    round_is binary64 false a c ∙ ap (λ (z : ℕ). core binary64 false n c z) k
    ∙ ap (λ (z : ℕ). units binary64 false z 1074) (closest_same n (c * 2 ^ 1074) a c (mul-pos C (pow_pos 1074)) C (mul_assoc a (2 ^ 1074) c ∙ ap (λ (z : ℕ). a * z) (mul_comm (2 ^ 1074) c))) in
    let few : K < 2 ^ 54 = lt_of_le_of_lt (closest_bounds a c).1 (omega (arith, (div-lt_iff_lt-mul C).1 h)) in
    subst (λ (z : Float). HasValue z false K 1) (sym is)
    (revalue (units binary64 false K 1074) false (K * 2 ^ 1074) (2 ^ 1074) K 1 (pow_pos 1074) (mul-one (K * 2 ^ 1074)) (units_val binary64 false K 1074 (lt_of_lt_of_le (shl_lt 54 1074 few) (lit≤ tt))))

-- ---- 2 ^ 52 more
plus_open : (m : ℕ) (e : ℤ) → add binary64 (fin false m e) limit ≡ round binary64 false (m * up e * 1 + 2 ^ 52 * down e) (down e * 1)
unfolding add sum
plus_open m e = refl

plus : (m : ℕ) (e : ℤ) → add binary64 (fin false m e) limit ≡ round binary64 false (m * up e + 2 ^ 52 * down e) (down e)
plus m e =
    plus_open m e
    ∙ ap (λ (z : ℕ). round binary64 false (z + 2 ^ 52 * down e) (down e * 1)) (mul-one (m * up e))
    ∙ ap (λ (z : ℕ). round binary64 false (m * up e + 2 ^ 52 * down e) z) (mul-one (down e))

-- ---- 2 ^ 52 less
less_open : (n : ℕ) (d : ℤ) → sub binary64 (fin false n d) limit ≡ sum binary64 false (n * up d * 1) true (2 ^ 52 * down d) (down d * 1)
unfolding sub
less_open n d = refl

less : (y : Float) (A : ℕ) → HasValue y false A 1 → 2 ^ 52 ≤ A → sub binary64 y limit ≡ round binary64 false (A - 2 ^ 52) 1
less nan A v h = absurd v
less (inf s) A v h = absurd v
less (fin true n d) A v h = absurd (true≢false v.0)
less (fin false n d) A v h =
    less_open n d
    ∙ sum_less binary64 (n * up d * 1) (2 ^ 52 * down d) (down d * 1) (le_trans (mul-le-mul_right (down d) h) (le_of_eq (sym v.1)))
    ∙ ap (λ (z : ℕ). round binary64 false (z - 2 ^ 52 * down d) (down d * 1)) v.1
    ∙ round_same binary64 false (A * down d - 2 ^ 52 * down d) (down d * 1) (A - 2 ^ 52) 1 (mul-pos (down_pos d) (lit< tt)) (lit< tt) (same A (down d))
  where
    same : (A c : ℕ) → (A * c - 2 ^ 52 * c) * 1 ≡ (A - 2 ^ 52) * (c * 1)
    same A c =
        mul-one (A * c - 2 ^ 52 * c)
        ∙ ap (λ (z : ℕ). z - 2 ^ 52 * c) (mul_comm A c)
        ∙ ap (λ (z : ℕ). c * A - z) (mul_comm (2 ^ 52) c)
        ∙ sym (mul-sub c A (2 ^ 52))
        ∙ mul_comm c (A - 2 ^ 52)
        ∙ ap (λ (z : ℕ). (A - 2 ^ 52) * z) (sym (mul-one c))

abbrev pub bounced : Float → Float
bounced x = sub binary64 (add binary64 x limit) limit

-- one more than the whole part only where the fraction is a half at least
half_up_lem : (w r c : ℕ) (o : Ordering) → Cmp o (r * 2) c → nearest w o ≡ suc w → c ≤ r * 2
half_up_lem w r c Ordering.lt h e = absurd (omega (arith, e))
half_up_lem w r c Ordering.eq h e = le_of_eq (sym h)
half_up_lem w r c Ordering.gt h e = le_of_lt h

pub rounded_whole : (m : ℕ) (e : ℤ) → m * up e < 2 ^ 52 * down e
    → (K : ℕ) × (bounced (fin false m e) ≡ of_int binary64 (pos K)) × (m * up e / down e ≤ K) × (K ≤ suc (m * up e / down e)) × (K ≡ suc (m * up e / down e) → down e ≤ m * up e % down e * 2)
rounded_whole m e h =
    let a = m * up e in
    let c = down e in
    let C = down_pos e in
    let A = a + 2 ^ 52 * c in
    let B = closest A c in
    let q : A / c ≡ a / c + 2 ^ 52 = add-mul-div_right a (2 ^ 52) C in
    let b = closest_bounds A c in
    let v : HasValue (add binary64 (fin false m e) limit) false B 1 = subst (λ (z : Float). HasValue z false B 1) (sym (plus m e)) (round_at_one A c C (omega arith) (omega (arith, h))) in
    (B - 2 ^ 52, less (add binary64 (fin false m e) limit) B v (omega (arith, q, b.0)) ∙ whole_is binary64 (B - 2 ^ 52), omega (arith, q, b.0), omega (arith, q, b.1), λ k. subst (λ (r : ℕ). c ≤ r * 2) (add-mul-mod_self_right a (2 ^ 52) c) (half_up_lem (A / c) (A % c) c (compare (A % c * 2) c) (cmp (A % c * 2) c) (omega (arith, q, k))))

-- ---- that whole number, and what x is over or under it: with q and r / c the whole part and the fraction of x, it
-- is q and x is r / c over it, or it is q + 1, r / c is a half at least, and x is 1 - r / c under it
abbrev pub gap : Float → Float
gap x = sub binary64 x (bounced x)

pub data Bounce (x : Float) (q r c : ℕ) : Type 0 where
  over : bounced x ≡ of_int binary64 (pos q) → gap x ≡ round binary64 false r c → Bounce x q r c
  under : bounced x ≡ of_int binary64 (pos (suc q)) → c ≤ r * 2 → gap x ≡ round binary64 true (c - r) c → Bounce x q r c

pub bounce_is : (m : ℕ) (e : ℤ) → m * up e < 2 ^ 52 * down e → Bounce (fin false m e) (m * up e / down e) (m * up e % down e) (down e)
bounce_is m e h =
    let w = rounded_whole m e h in
    let K = w.0 in
    let c = down e in
    let v : HasValue (bounced (fin false m e)) false (K * c) c =
    revalue (bounced (fin false m e)) false K 1 (K * c) c (lit< tt) (sym (mul-one (K * c))) (subst (λ (z : Float). HasValue z false K 1) (sym w.1) (whole_value binary64 K (room K (m * up e / c) w.3 ((div-lt_iff_lt-mul (down_pos e)).1 h)))) in
    pick K (eq-zero-or-pos (K - m * up e / c)) w.1 (sub_over binary64 (fin false m e) (bounced (fin false m e)) false false (m * up e) (K * c) c (down_pos e) (refl, refl) v) w.2 w.3 w.4
  where
    room : (K q : ℕ) → K ≤ suc q → q < 2 ^ 52 → K ≤ 2 ^ 53
    room K q a b = omega arith

    same : (K q : ℕ) → q ≤ K → K - q ≡ 0 → K ≡ q
    same K q a b = omega arith

    next : (K q : ℕ) → K ≤ suc q → 0 < K - q → K ≡ suc q
    next K q a b = omega arith

    left : (p r a : ℕ) → p + r ≡ a → (p ≤ a) × (a - p ≡ r)
    left p r a e = (omega arith, omega arith)

    beyond : (p r a c : ℕ) → p + r ≡ a → r < c → (a < p + c) × (p + c - a ≡ c - r)
    beyond p r a c e h = (omega arith, omega arith)

    pick : (K : ℕ) → (K - m * up e / down e ≡ 0) ⊎ (0 < K - m * up e / down e) → bounced (fin false m e) ≡ of_int binary64 (pos K) → gap (fin false m e) ≡ sum binary64 false (m * up e) true (K * down e) (down e)
        → m * up e / down e ≤ K → K ≤ suc (m * up e / down e) → (K ≡ suc (m * up e / down e) → down e ≤ m * up e % down e * 2) → Bounce (fin false m e) (m * up e / down e) (m * up e % down e) (down e)
    pick K (inl z) at is lo hi half =
        let a = m * up e in
        let c = down e in
        let k = same K (a / c) lo z in
        let l = left (a / c * c) (a % c) a (div-add-mod' a c) in
        over (at ∙ ap (λ (n : ℕ). of_int binary64 (pos n)) k)
        (is ∙ ap (λ (n : ℕ). sum binary64 false a true (n * c) c) k ∙ sum_less binary64 a (a / c * c) c l.0 ∙ ap (λ (n : ℕ). round binary64 false n c) l.1)
    pick K (inr z) at is lo hi half =
        let a = m * up e in
        let c = down e in
        let k = next K (a / c) hi z in
        let l = beyond (a / c * c) (a % c) a c (div-add-mod' a c) (mod-lt a (down_pos e)) in
        under (at ∙ ap (λ (n : ℕ). of_int binary64 (pos n)) k) (half k)
        (is ∙ ap (λ (n : ℕ). sum binary64 false a true (n * c) c) k ∙ ap (λ (n : ℕ). sum binary64 false a true n c) (suc-mul (a / c) c) ∙ sum_more binary64 false a (a / c * c + c) c l.0 ∙ ap (λ (n : ℕ). round binary64 true n c) l.1)
