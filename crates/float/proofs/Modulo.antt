-- a % b by whole numbers of smallest values (`rem_units`), of bit patterns with the sign clear. Assumes nothing.
use Rattle.std.proofs.Common.{◌≡◌, ℕ, zero, suc, ◌+◌, ◌-◌, ◌*◌, ◌/◌, ◌%◌, ◌^◌, ◌<◌, ◌≤◌, Bool, false, cond, pos, sym, ap, ◌∙◌, subst, lt_irrefl, mod-lt, zero-lt-suc, mul_assoc, mul_comm, mul_right_comm, mul-pos, one-mul, mul-one, zero-mul, mul-lt-mul_of_pos_right, mul-div_cancel, arith, pow_pos, pow-add}
use Rattle.std.proofs.lemmas.Nat.{mul-mod_first, pow_below}
use native.Mathlib.Nat.{mul-le-mul, mul-le-mul_left, mul-mod_left}
use native.Mathlib.Decide.{dec_le}
use borrow.Author.Tests.{lt-ltb, le-ltb}
use lib.Arith.{mod-mul}
use lib.Ieee.{Float, nan, inf, fin, Format, binary64, up, down, round, mul, rem, of_bits, of_int}
use lib.Ieee.Exact.{HasValue}
use lib.Ieee.Fits.{up_pos, down_pos}
use lib.Ieee.Scale.{round_same}
use Rattle.float.specs.Inner.{counted, InUnits}
use Rattle.float.proofs.Sums.{cond_nil, some_digits, mul_over}
use Rattle.float.proofs.Value.{counted_value}
use Rattle.float.proofs.Counts.{whole_value}

-- ---- remainders of whole numbers
pub mod_scale : (a m c : ℕ) → 0 < m → 0 < c → a * c % (m * c) ≡ (a % m) * c
mod_scale a m c h k =
    mod-mul (a * c) {m = m} {c = c} h k
    ∙ ap (λ (x : ℕ). (x % m) * c + a * c % c) (mul-div_cancel a k)
    ∙ ap (λ (x : ℕ). (a % m) * c + x) (mul-mod_left a c)
    ∙ omega arith

-- a digits put behind m, and b more
pub more_digits : (m n a b c : ℕ) → a + b ≡ c → m * 2 ^ a % n * 2 ^ b % n ≡ m * 2 ^ c % n
more_digits m n a b c e = mul-mod_first (m * 2 ^ a) (2 ^ b) n ∙ ap (λ (x : ℕ). x % n) (mul_assoc m (2 ^ a) (2 ^ b) ∙ ap (λ (x : ℕ). m * x) (sym (pow-add 2 a b) ∙ ap (λ (i : ℕ). 2 ^ i) e))

-- ---- a % b of two values, as fractions
crossed : (x y de dd a b c : ℕ) → x * c ≡ a * de → y * c ≡ b * dd → 0 < b → 0 < de → 0 < dd → 0 < c → 0 < y * de → x * dd % (y * de) * c ≡ (a % b) * (de * dd)
crossed x y de dd a b c p q B E D C Y =
    sym (mod_scale (x * dd) (y * de) c Y C)
    ∙ ap (λ (z : ℕ). z % (y * de * c)) left
    ∙ ap (λ (z : ℕ). a * (de * dd) % z) right
    ∙ mod_scale a b (de * dd) B (mul-pos E D)
  where
    left : x * dd * c ≡ a * (de * dd)
    left = mul_right_comm x dd c ∙ ap (λ (z : ℕ). z * dd) p ∙ mul_assoc a de dd

    right : y * de * c ≡ b * (de * dd)
    right = mul_right_comm y de c ∙ ap (λ (z : ℕ). z * de) q ∙ mul_assoc b dd de ∙ ap (λ (z : ℕ). b * z) (mul_comm dd de)

pub rem_values : (f : Format) (s t : Bool) (x y : Float) (a b c : ℕ) → 0 < c → 0 < b → HasValue x s a c → HasValue y t b c → rem f x y ≡ round f s (a % b) c
unfolding rem
rem_values f s t nan y a b c C B v w = absurd v
rem_values f s t (inf u) y a b c C B v w = absurd v
rem_values f s t (fin u m e) nan a b c C B v w = absurd w
rem_values f s t (fin u m e) (inf u') a b c C B v w = absurd w
rem_values f s t (fin u m e) (fin u' n d) a b c C B v w =
    let N : 0 < n = some_digits n (up d) (down d) b c (down_pos d) w.1 B in
    cond_nil n nan (round f u (m * up e * down d % (n * up d * down e)) (down e * down d)) N
    ∙ ap (λ (z : Bool). round f z (m * up e * down d % (n * up d * down e)) (down e * down d)) v.0
    ∙ round_same f s (m * up e * down d % (n * up d * down e)) (down e * down d) (a % b) c (mul-pos (down_pos e) (down_pos d)) C
    (crossed (m * up e) (n * up d) (down e) (down d) a b c v.1 w.1 B (down_pos e) (down_pos d) C (mul-pos (mul-pos N (up_pos d)) (down_pos e)))

-- ---- bit patterns
pub counted_low : (b : ℕ) → b < 2 ^ 52 → counted b ≡ b
unfolding counted
counted_low b h = ap (λ (t : Bool). cond t b ((2 ^ 52 + b % 2 ^ 52) * 2 ^ (b / 2 ^ 52 - 1))) (lt-ltb b (2 ^ 52) h)

pub counted_high : (b : ℕ) → 2 ^ 52 ≤ b → counted b ≡ (2 ^ 52 + b % 2 ^ 52) * 2 ^ (b / 2 ^ 52 - 1)
unfolding counted
counted_high b h = ap (λ (t : Bool). cond t b ((2 ^ 52 + b % 2 ^ 52) * 2 ^ (b / 2 ^ 52 - 1))) (le-ltb b (2 ^ 52) h)

pub low_units : (b : ℕ) → b < 2 ^ 52 → InUnits b b 0
low_units b h = record { value = mul-one b ∙ sym (counted_low b h); most = omega arith; least = λ z. absurd (lt_irrefl 0 z); ceil = omega arith }

pub high_units : (b : ℕ) → 2 ^ 52 ≤ b → b < 0x7ff0_0000_0000_0000 → InUnits b (2 ^ 52 + b % 2 ^ 52) (b / 2 ^ 52 - 1)
high_units b h k = record { value = sym (counted_high b h); most = omega arith; least = λ z. omega arith; ceil = omega arith }

pub low_power : (e : ℕ) → e < 52 → counted (2 ^ e) ≡ 2 ^ e
low_power e h = counted_low (2 ^ e) (pow_below e 52 h)

pub high_power : (e : ℕ) → 52 ≤ e → counted ((e - 51) * 2 ^ 52) ≡ 2 ^ e
high_power e h =
    let b = (e - 51) * 2 ^ 52 in
    let l : 2 ^ 52 ≤ b = omega arith in
    let r : b % 2 ^ 52 ≡ 0 = omega arith in
    let q : b / 2 ^ 52 - 1 ≡ e - 52 = omega arith in
    let s : 52 + (e - 52) ≡ e = omega arith in
    counted_high b l ∙ ap (λ (x : ℕ). (2 ^ 52 + x) * 2 ^ (b / 2 ^ 52 - 1)) r ∙ ap (λ (i : ℕ). (2 ^ 52 + 0) * 2 ^ i) q ∙ sym (pow-add 2 52 (e - 52)) ∙ ap (λ (i : ℕ). 2 ^ i) s

-- ---- the exponents are in the order of the numbers
order : (m e n d : ℕ) → m < 2 ^ 53 → (0 < d → 2 ^ 52 ≤ n) → n * 2 ^ d ≤ m * 2 ^ e → d ≤ e
order m e n d h l k = go (dec_le d e)
  where
    over : (j : ℕ) → d ≡ 1 + e + j → ⊥
    over j q =
        let P = 2 ^ e in
        let Q = 2 ^ j in
        let n52 : 2 ^ 52 ≤ n = l (omega arith) in
        let split : 2 ^ d ≡ 2 * P * Q = ap (λ (i : ℕ). 2 ^ i) q ∙ pow-add 2 (1 + e) j ∙ ap (λ (x : ℕ). x * Q) (pow-add 2 1 e) in
        let one-le : 2 * P ≤ 2 * P * Q = subst (λ (x : ℕ). x ≤ 2 * P * Q) (mul-one (2 * P)) (mul-le-mul_left (2 * P) (pow_pos j)) in
        let big : 2 ^ 52 * (2 * P) ≤ n * 2 ^ d = subst (λ (x : ℕ). 2 ^ 52 * (2 * P) ≤ n * x) (sym split) (mul-le-mul n52 one-le) in
        let small : m * P < 2 ^ 53 * P = mul-lt-mul_of_pos_right h (pow_pos e) in
        omega (arith, big, small, k)

    go : Dec (d ≤ e) → d ≤ e
    go (yes q) = q
    go (no q) = absurd (over (d - (1 + e)) (omega arith))

pub exponents : (x y m e n d : ℕ) → InUnits x m e → InUnits y n d → counted y ≤ counted x → d ≤ e
exponents x y m e n d p q h = order m e n d p.most q.least (subst (λ (z : ℕ). n * 2 ^ d ≤ z) (sym p.value) (subst (λ (z : ℕ). z ≤ counted x) (sym q.value) h))

pub some_units : (y n d : ℕ) → InUnits y n d → 0 < counted y → 0 < n
some_units y zero d q h = absurd (lt_irrefl 0 (subst (λ (z : ℕ). 0 < z) (sym q.value ∙ zero-mul (2 ^ d)) h))
some_units y (suc n) d q h = zero-lt-suc n

units_mod : (x y m e n d r : ℕ) → InUnits x m e → InUnits y n d → d ≤ e → 0 < n → r ≡ m * 2 ^ (e - d) % n → counted x % counted y ≡ r * 2 ^ d
units_mod x y m e n d r p q h N s =
    ap (λ (z : ℕ). z % counted y) (sym p.value ∙ ap (λ (z : ℕ). m * z) split ∙ sym (mul_assoc m (2 ^ (e - d)) (2 ^ d)))
    ∙ ap (λ (z : ℕ). m * 2 ^ (e - d) * 2 ^ d % z) (sym q.value)
    ∙ mod_scale (m * 2 ^ (e - d)) n (2 ^ d) N (pow_pos d)
    ∙ ap (λ (z : ℕ). z * 2 ^ d) (sym s)
  where
    split : 2 ^ e ≡ 2 ^ (e - d) * 2 ^ d
    split = ap (λ (i : ℕ). 2 ^ i) (sym (omega arith)) ∙ pow-add 2 (e - d) d

pub rem_units : (x y m e n d r p : ℕ) → x < 0x7ff0_0000_0000_0000 → y < 0x7ff0_0000_0000_0000 → p < 0x7ff0_0000_0000_0000 → 0 < counted y → counted y ≤ counted x → InUnits x m e → InUnits y n d → r ≡ m * 2 ^ (e - d) % n → counted p ≡ 2 ^ d → mul binary64 (of_int binary64 (pos r)) (of_bits binary64 p) ≡ rem binary64 (of_bits binary64 x) (of_bits binary64 y)
rem_units x y m e n d r p X Y P B o u v s w =
    let N = some_units y n d v B in
    let few : r ≤ 2 ^ 53 = subst (λ (z : ℕ). z ≤ 2 ^ 53) (sym s) (small (m * 2 ^ (e - d)) n N v.most) in
    let one : 1 * 2 ^ 1074 ≡ 2 ^ 1074 = one-mul (2 ^ 1074) in
    mul_over binary64 (of_int binary64 (pos r)) (of_bits binary64 p) false false r 1 (counted p) (2 ^ 1074) (zero-lt-suc 0) (pow_pos 1074) (whole_value binary64 r few) (counted_value p P)
    ∙ ap (λ (z : ℕ). round binary64 false (r * z) (1 * 2 ^ 1074)) w
    ∙ ap (λ (z : ℕ). round binary64 false (r * 2 ^ d) z) one
    ∙ ap (λ (z : ℕ). round binary64 false z (2 ^ 1074)) (sym (units_mod x y m e n d r u v (exponents x y m e n d u v o) N s))
    ∙ sym (rem_values binary64 false false (of_bits binary64 x) (of_bits binary64 y) (counted x) (counted y) (2 ^ 1074) (pow_pos 1074) B (counted_value x X) (counted_value y Y))
  where
    small : (a n : ℕ) → 0 < n → n < 2 ^ 53 → a % n ≤ 2 ^ 53
    small a n h k = omega (arith, mod-lt a h)
