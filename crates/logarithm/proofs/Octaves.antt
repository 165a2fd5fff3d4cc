-- A number above 0 as m·2^e with 0.75 ≤ m < 1.5: `split` proves it of the definition, subnormal numbers included, and
-- `by_bits` that a bit pattern of a normal number holds m and e. Assumes nothing.
use mathlib.Core.Path.{◌≡◌, refl, sym, ap, ◌∙◌, subst}
use Prim.Native.Nat.{ℕ, suc, ◌+◌, ◌-◌, ◌*◌, ◌/◌, ◌%◌, ◌^◌, ◌≤◌, ◌<◌}
use native.Mathlib.Nat.{le_trans, le_of_eq, le_of_suc-le-suc, lt_of_not-le, lt_of_lt_of_le, mul-one, one-mul, mul_comm, mul_assoc, mul_right_comm, mul-mul-mul_comm, mul-le-mul_right, mul-lt-mul_of_pos_right, eq_of_mul-eq-mul_right, mul-div_cancel, div-add-mod', mod-lt, le-div_iff_mul-le, div-lt_iff_lt-mul, pow-succ'}
use native.Mathlib.Omega.{arith}
use mathlib.Core.Bool.{Bool, true, false, not, cond}
use lib.IntN.{ℤ, pos, negsuc, ◌+ℤ◌}
use lib.Dec.{T, leb, ltb, leb→le, nleb→lt, ltb→lt, nltb→le, lit<}
use lib.Pow.{pow-add, pow_pos, pow_mono}
use borrow.Author.Tests.{le-leb, lt-leb}
use lib.Ieee.{Float, nan, inf, fin, binary64, up, down, minus, size, round, sum, fits, of_int, of_bits, to_bits}
use lib.Ieee.Digits.{size-lt, size-le, size_reaches, back}
use lib.Ieee.Fits.{down_pos}
use lib.Ieee.Bits.{of_bits-fits}
use lib.Ieee.Exact.{HasValue, round_exact}
use lib.Ieee.Order.{le_of_values}
use Rattle.float.specs.Ops.{of, fraction, ◌⊖◌}
use Rattle.float.proofs.Exactly.{fits_says, round_value}
use Rattle.float.proofs.Cuts.{revalue}
use Rattle.float.proofs.Compared.{cross→lt}
use Rattle.logarithm.specs.Logarithm.{octave, mantissa_of, exponent_of, Split}
use Rattle.float.proofs.Counts.{whole_value}
use Rattle.float.proofs.Digits.{pow_le→le, size_gt}
use Rattle.float.proofs.Sums.{sub_over}
use Rattle.trig.proofs.Patterns.{pattern_is, normal_value}

-- ---- a - b as a whole number
minus_up : (a b : ℕ) → b ≤ a → minus a b ≡ pos (a - b)
minus_up a b h = ap (λ (t : Bool). cond t (pos (a - b)) (negsuc (b - suc a))) (le-leb b a h)

minus_down : (a b : ℕ) → a < b → minus a b ≡ negsuc (b - suc a)
minus_down a b h = ap (λ (t : Bool). cond t (pos (a - b)) (negsuc (b - suc a))) (lt-leb b a h)

either : {X : Type 0} (a b : ℕ) → (b ≤ a → X) → (a < b → X) → X
either {X} a b f g = go (leb b a) (leb→le b a) (nleb→lt b a)
  where
    go : (t : Bool) → (T t → b ≤ a) → (T (not t) → a < b) → X
    go true h k = f (h tt)
    go false h k = g (k tt)

pub minus_same : (a b c d : ℕ) → a + d ≡ c + b → minus a b ≡ minus c d
minus_same a b c d h =
    either a b
    (λ k. minus_up a b k ∙ ap pos (omega (arith, h, k)) ∙ sym (minus_up c d (omega (arith, h, k))))
    (λ k. minus_down a b k ∙ ap negsuc (omega (arith, h, k)) ∙ sym (minus_down c d (omega (arith, h, k))))

pub minus_plus : (x b k : ℕ) → minus x b +ℤ pos k ≡ minus (x + k) b
minus_plus x b k =
    either x b
    (λ h. ap (λ (z : ℤ). z +ℤ pos k) (minus_up x b h) ∙ ap pos (omega (arith, h)) ∙ sym (minus_up (x + k) b (omega (arith, h))))
    (λ h. ap (λ (z : ℤ). z +ℤ pos k) (minus_down x b h) ∙ go (ltb k (suc (b - suc x))) (ltb→lt k (suc (b - suc x))) (nltb→le k (suc (b - suc x))) h)
  where
    go : (t : Bool) → (T t → k < suc (b - suc x)) → (T (not t) → suc (b - suc x) ≤ k) → x < b → cond t (negsuc (suc (b - suc x) - suc k)) (pos (k - suc (b - suc x))) ≡ minus (x + k) b
    go true f g h = ap negsuc (omega (arith, h, f tt)) ∙ sym (minus_down (x + k) b (omega (arith, h, f tt)))
    go false f g h = ap pos (omega (arith, h, g tt)) ∙ sym (minus_up (x + k) b (omega (arith, h, g tt)))

-- whole numbers' difference is exact
of_pos : (n : ℕ) → round binary64 false n 1 ≡ of_int binary64 (pos n)
unfolding of_int
of_pos n = refl

of_negsuc : (n : ℕ) → round binary64 true (suc n) 1 ≡ of_int binary64 (negsuc n)
unfolding of_int
of_negsuc n = refl

pub whole_less : (a b : ℕ) → a ≤ 2 ^ 53 → b ≤ 2 ^ 53 → of a ⊖ of b ≡ of_int binary64 (minus a b)
unfolding sum
whole_less a b h k =
    sub_over binary64 (of a) (of b) false false a b 1 (lit< tt) (whole_value binary64 a h) (whole_value binary64 b k)
    ∙ go (ltb a b) (ltb→lt a b) (nltb→le a b)
  where
    go : (t : Bool) → (T t → a < b) → (T (not t) → b ≤ a) → cond t (round binary64 true (b - a) 1) (round binary64 false (a - b) 1) ≡ of_int binary64 (minus a b)
    go true f g = ap (λ (z : ℕ). round binary64 true z 1) (less a b (f tt)) ∙ of_negsuc (b - suc a) ∙ ap (of_int binary64) (sym (minus_down a b (f tt)))
      where
        less : (a b : ℕ) → a < b → b - a ≡ suc (b - suc a)
        less a b h = omega arith
    go false f g = of_pos (a - b) ∙ ap (of_int binary64) (sym (minus_up a b (g tt)))

-- ---- the octave
pub octave_says : (n : ℕ) → (3 * 2 ^ octave (suc n) ≤ 4 * suc n) × (4 * suc n < 6 * 2 ^ octave (suc n))
unfolding octave
octave_says n =
    let q = 4 * suc n / 3 in
    let k = size q - 1 in
    let e : q * 3 + 4 * suc n % 3 ≡ 4 * suc n = div-add-mod' (4 * suc n) 3 in
    let r : 4 * suc n % 3 < 3 = mod-lt (4 * suc n) (lit< tt) in
    let Q : 1 ≤ q = omega arith in
    let z : 0 < size q = size_gt q 0 Q in
    let s : suc k ≡ size q = omega arith in
    let lo : 2 ^ k ≤ q = size_reaches q k (le_of_eq s) in
    let hi : q < 2 * 2 ^ k = lt_of_lt_of_le (size-lt q) (le_of_eq (ap (λ (z : ℕ). 2 ^ z) (sym s) ∙ pow-succ' 2 k)) in
    (omega arith, omega arith)

-- no exponent is below that of the smallest number
pub offset : (n : ℕ) (p : ℤ) → T (fits binary64 (fin false (suc n) p)) → (x : ℕ) × (p ≡ minus x 1074)
offset n (pos k) t = (k + 1074, sym (minus_up (k + 1074) 1074 (omega arith) ∙ ap pos (omega arith)))
offset n (negsuc k) t =
    let l : suc k ≤ 1074 = pow_le→le (suc k) 1074 (fits_says binary64 false n (negsuc k) t).2 in
    (1074 - suc k, sym (minus_down (1074 - suc k) 1074 (omega arith) ∙ ap negsuc (omega arith)))

-- ---- y = m·2^e with 0.75 ≤ m < 1.5
pub mantissa_is : (s : Bool) (n : ℕ) (p : ℤ) → mantissa_of (fin s n p) ≡ round binary64 false n (2 ^ octave n)
unfolding mantissa_of
mantissa_is s n p = refl

pub exponent_is : (s : Bool) (n : ℕ) (p : ℤ) → exponent_of (fin s n p) ≡ p +ℤ pos (octave n)
unfolding exponent_of
exponent_is s n p = refl

-- of 53 digits, the octave is 53 at most
octave_small : (n : ℕ) → suc n < 2 ^ 53 → octave (suc n) ≤ 53
octave_small n h =
    let w = octave_says n in
    le_of_suc-le-suc (lt_of_not-le (λ (g : 54 ≤ octave (suc n)). let k : 2 ^ 54 ≤ 2 ^ octave (suc n) = pow_mono g in omega (arith, w.0, k, h)))

-- m is exact
mantissa_value : (n : ℕ) → suc n < 2 ^ 53 → HasValue (round binary64 false (suc n) (2 ^ octave (suc n))) false (suc n) (2 ^ octave (suc n))
mantissa_value n h =
    let k = octave (suc n) in
    let l = octave_small n h in
    let b : k + (1074 - k) ≡ 1074 = omega arith in
    round_exact binary64 false (suc n) (2 ^ k) (suc n) (1074 - k) (pow_pos k) h
    (lt_of_lt_of_le (mul-lt-mul_of_pos_right h (pow_pos (1074 - k))) (le_trans (le_of_eq (sym (pow-add 2 53 (1074 - k)))) (pow_mono {i = 53 + (1074 - k)} {j = 2098} (omega arith))))
    (ap (λ (z : ℕ). suc n * 2 ^ z) (sym b) ∙ ap (λ (z : ℕ). suc n * z) (pow-add 2 k (1074 - k)) ∙ ap (λ (z : ℕ). suc n * z) (mul_comm (2 ^ k) (2 ^ (1074 - k))) ∙ sym (mul_assoc (suc n) (2 ^ (1074 - k)) (2 ^ k)))

plus_up : (p : ℤ) (k : ℕ) → up (p +ℤ pos k) * down p ≡ up p * 2 ^ k * down (p +ℤ pos k)
plus_up (pos x) k = mul-one (2 ^ (x + k)) ∙ pow-add 2 x k ∙ sym (mul-one (2 ^ x * 2 ^ k))
plus_up (negsuc x) k = go (ltb k (suc x)) (ltb→lt k (suc x)) (nltb→le k (suc x))
  where
    go : (t : Bool) → (T t → k < suc x) → (T (not t) → suc x ≤ k) → up (cond t (negsuc (suc x - suc k)) (pos (k - suc x))) * 2 ^ suc x ≡ 1 * 2 ^ k * down (cond t (negsuc (suc x - suc k)) (pos (k - suc x)))
    go true f g =
        one-mul (2 ^ suc x) ∙ ap (λ (z : ℕ). 2 ^ z) (omega (arith, f tt)) ∙ pow-add 2 k (suc (suc x - suc k)) ∙ ap (λ (z : ℕ). z * 2 ^ suc (suc x - suc k)) (sym (one-mul (2 ^ k)))
    go false f g = sym (pow-add 2 (k - suc x) (suc x)) ∙ ap (λ (z : ℕ). 2 ^ z) (back k (suc x) (g tt)) ∙ sym (one-mul (2 ^ k)) ∙ sym (mul-one (1 * 2 ^ k))

pub three_quarters : HasValue (fraction 3 4) false 3 4
unfolding fraction round
three_quarters = (refl, refl)

pub three_halves : HasValue (fraction 3 2) false 3 2
unfolding fraction round
three_halves = (refl, refl)

-- two fractions of one value
pub same_value : (x : Float) (s : Bool) (a c b d : ℕ) → HasValue x s a c → HasValue x s b d → a * d ≡ b * c
same_value nan s a c b d v w = absurd v
same_value (inf t) s a c b d v w = absurd v
same_value (fin t m e) s a c b d v w =
    eq_of_mul-eq-mul_right (down e) (down_pos e) (a * d) (b * c)
    (mul_right_comm a d (down e) ∙ ap (λ (z : ℕ). z * d) (sym v.1) ∙ mul_right_comm (m * up e) c d ∙ ap (λ (z : ℕ). z * c) w.1 ∙ mul_right_comm b (down e) c)

scaled : (n P p a c E e k : ℕ) → n * c ≡ a * k → E * p ≡ P * k * e → n * P * (c * e) ≡ a * E * p
scaled n P p a c E e k h g =
    mul-mul-mul_comm n P c e ∙ ap (λ (z : ℕ). z * (P * e)) h ∙ mul_assoc a k (P * e) ∙ ap (λ (z : ℕ). a * z) (sym (mul_assoc k P e) ∙ ap (λ (z : ℕ). z * e) (mul_comm k P)) ∙ ap (λ (z : ℕ). a * z) (sym g) ∙ sym (mul_assoc a E p)

pub split : (n : ℕ) (p : ℤ) → T (fits binary64 (fin false (suc n) p)) → Split (fin false (suc n) p) (mantissa_of (fin false (suc n) p)) (exponent_of (fin false (suc n) p))
unfolding fraction exponent_of
split n p t =
    let k = octave (suc n) in
    let w = octave_says n in
    let v : HasValue (mantissa_of (fin false (suc n) p)) false (suc n) (2 ^ k) = subst (λ (z : Float). HasValue z false (suc n) (2 ^ k)) (sym (mantissa_is false (suc n) p)) (mantissa_value n (fits_says binary64 false n p t).1) in
    record {
      low = le_of_values (fraction 3 4) (mantissa_of (fin false (suc n) p)) 3 4 (suc n) (2 ^ k) (lit< tt) (pow_pos k) three_quarters v (le_trans w.0 (le_of_eq (mul_comm 4 (suc n))));
      high = cross→lt (mantissa_of (fin false (suc n) p)) (fraction 3 2) (suc n) (2 ^ k) 3 2 (pow_pos k) (lit< tt) v three_halves (omega (arith, w.1));
      value = λ a c C q. (
        refl,
        scaled (suc n) (up p) (down p) a c (up (p +ℤ pos k)) (down (p +ℤ pos k)) (2 ^ k) (same_value (mantissa_of (fin false (suc n) p)) false (suc n) (2 ^ k) a c v q) (plus_up p k),
      );
    }

-- ---- the bit pattern
-- two numbers in one octave each, one a power of two times the other
one_octave : (n N k j a b : ℕ) → 3 * 2 ^ k ≤ 4 * n → 4 * n < 6 * 2 ^ k → 3 * 2 ^ j ≤ 4 * N → 4 * N < 6 * 2 ^ j → n * 2 ^ a ≡ N * 2 ^ b → k + a ≡ j + b
one_octave n N k j a b p q r s e =
    let l : k + a < suc (j + b) = lt_of_not-le (λ (g : suc (j + b) ≤ k + a). behind N n j k b a s p (sym e) g) in
    let m : j + b < suc (k + a) = lt_of_not-le (λ (g : suc (k + a) ≤ j + b). behind n N k j a b q r e g) in
    omega arith
  where
    behind : (n N k j a b : ℕ) → 4 * n < 6 * 2 ^ k → 3 * 2 ^ j ≤ 4 * N → n * 2 ^ a ≡ N * 2 ^ b → suc (k + a) ≤ j + b → ⊥
    behind n N k j a b q r e g =
        let h : 2 ^ suc (k + a) ≤ 2 ^ (j + b) = pow_mono g in
        let t : 2 ^ suc (k + a) ≡ 2 * (2 ^ k * 2 ^ a) = pow-succ' 2 (k + a) ∙ ap (λ (z : ℕ). 2 * z) (pow-add 2 k a) in
        let u : 2 ^ (j + b) ≡ 2 ^ j * 2 ^ b = pow-add 2 j b in
        let x : 4 * n * 2 ^ a < 6 * 2 ^ k * 2 ^ a = mul-lt-mul_of_pos_right q (pow_pos a) in
        let y : 3 * 2 ^ j * 2 ^ b ≤ 4 * N * 2 ^ b = mul-le-mul_right (2 ^ b) r in
        let x1 : 4 * n * 2 ^ a ≡ 4 * (n * 2 ^ a) = mul_assoc 4 n (2 ^ a) in
        let x2 : 6 * 2 ^ k * 2 ^ a ≡ 6 * (2 ^ k * 2 ^ a) = mul_assoc 6 (2 ^ k) (2 ^ a) in
        let y1 : 3 * 2 ^ j * 2 ^ b ≡ 3 * (2 ^ j * 2 ^ b) = mul_assoc 3 (2 ^ j) (2 ^ b) in
        let y2 : 4 * N * 2 ^ b ≡ 4 * (N * 2 ^ b) = mul_assoc 4 N (2 ^ b) in
        omega arith

-- a number of n·2^x times the smallest, 2^52 of them at least: the digits, 53 of them, above the exponent's field
pub record Fields (n x b : ℕ) : Type 0 where
  pub digits : ℕ
  pub shift : ℕ
  pub is : b ≡ shift * 0x10_0000_0000_0000 + digits
  pub least : 0x10_0000_0000_0000 ≤ digits
  pub most : digits < 0x20_0000_0000_0000
  pub value : n * 2 ^ x ≡ digits * 2 ^ shift

pub fields : (y : Float) (n x : ℕ) → n < 2 ^ 53 → 2 ^ 52 ≤ n * 2 ^ x → HasValue y false (n * 2 ^ x) (2 ^ 1074) → Fields n x (to_bits binary64 y)
fields y n x h l v =
    let U = n * 2 ^ x in
    let z = size U in
    let k = z - 53 in
    let lo : 52 < z = size_gt U 52 l in
    let hi : z ≤ 53 + x = size-le U (53 + x) (lt_of_lt_of_le (mul-lt-mul_of_pos_right h (pow_pos x)) (le_of_eq (sym (pow-add 2 53 x)))) in
    let split : n * 2 ^ (x - k) * 2 ^ k ≡ U = mul_assoc n (2 ^ (x - k)) (2 ^ k) ∙ ap (λ (z : ℕ). n * z) (sym (pow-add 2 (x - k) k)) ∙ ap (λ (z : ℕ). n * 2 ^ z) (back x k (omega arith)) in
    let d : U / 2 ^ k ≡ n * 2 ^ (x - k) = ap (λ (z : ℕ). z / 2 ^ k) (sym split) ∙ mul-div_cancel (n * 2 ^ (x - k)) (pow_pos k) in
    let zk : 53 + k ≡ z = omega arith in
    record {
      digits = U / 2 ^ k;
      shift = k;
      is = pattern_is y U v;
      least = (le-div_iff_mul-le (pow_pos k)).1 (le_trans (le_of_eq (sym (pow-add 2 52 k))) (size_reaches U (52 + k) (omega arith)));
      most = (div-lt_iff_lt-mul (pow_pos k)).1 (lt_of_lt_of_le (size-lt U) (le_of_eq (ap (λ (z : ℕ). 2 ^ z) (sym zk) ∙ pow-add 2 53 k)));
      value = sym split ∙ ap (λ (z : ℕ). z * 2 ^ k) (sym d);
    }

-- the octave of a number of 53 digits
digits_octave : (N : ℕ) → 0x10_0000_0000_0000 ≤ N → N < 0x20_0000_0000_0000 → (u : ℕ) × ((N - 0x10_0000_0000_0000) / 0x8_0000_0000_0000 ≡ u) × (u ≤ 1) × (3 * 2 ^ (52 + u) ≤ 4 * N) × (4 * N < 6 * 2 ^ (52 + u))
digits_octave N h k =
    either N 0x18_0000_0000_0000
    (λ l. (1, omega arith, omega arith, omega arith, omega arith))
    (λ l. (0, omega arith, omega arith, omega arith, omega arith))

pub record ByBits (n x b : ℕ) : Type 0 where
  pub mantissa : round binary64 false n (2 ^ octave n) ≡ of_bits binary64 ((1023 - b % 0x10_0000_0000_0000 / 0x8_0000_0000_0000) * 0x10_0000_0000_0000 + b % 0x10_0000_0000_0000)
  pub exponent : b / 0x10_0000_0000_0000 + b % 0x10_0000_0000_0000 / 0x8_0000_0000_0000 + 51 ≡ x + octave n

-- n·2^a = N·2^b and k + a = j + b: n·2^j = N·2^k
level : (n N k j a b : ℕ) → n * 2 ^ a ≡ N * 2 ^ b → k + a ≡ j + b → n * 2 ^ j ≡ N * 2 ^ k
level n N k j a b h e =
    eq_of_mul-eq-mul_right (2 ^ a) (pow_pos a) (n * 2 ^ j) (N * 2 ^ k)
    (mul_right_comm n (2 ^ j) (2 ^ a) ∙ ap (λ (z : ℕ). z * 2 ^ j) h ∙ mul_right_comm N (2 ^ b) (2 ^ j) ∙ mul_assoc N (2 ^ j) (2 ^ b) ∙ ap (λ (z : ℕ). N * z) (sym (pow-add 2 j b) ∙ ap (λ (z : ℕ). 2 ^ z) (sym e) ∙ pow-add 2 k a) ∙ sym (mul_assoc N (2 ^ k) (2 ^ a)))

pub by_bits : (n x b : ℕ) → Fields (suc n) x b → ByBits (suc n) x b
by_bits n x b f =
    let N = f.digits in
    let K = f.shift in
    let k = octave (suc n) in
    let w = octave_says n in
    let d = digits_octave N f.least f.most in
    let u = d.0 in
    let t : b % 0x10_0000_0000_0000 ≡ N - 0x10_0000_0000_0000 = omega (arith, f.is, f.least, f.most) in
    let F : b / 0x10_0000_0000_0000 ≡ K + 1 = omega (arith, f.is, f.least, f.most) in
    let U : b % 0x10_0000_0000_0000 / 0x8_0000_0000_0000 ≡ u = ap (λ (z : ℕ). z / 0x8_0000_0000_0000) t ∙ d.1 in
    let e : k + x ≡ 52 + u + K = one_octave (suc n) N k (52 + u) x K w.0 w.1 d.3 d.4 f.value in
    let l : suc n * 2 ^ (52 + u) ≡ N * 2 ^ k = level (suc n) N k (52 + u) x K f.value e in
    let c = (1023 - u) * 0x10_0000_0000_0000 + (N - 0x10_0000_0000_0000) in
    let v : HasValue (of_bits binary64 c) false (N * 2 ^ (1022 - u)) (2 ^ 1074) = normal_value (1022 - u) (N - 0x10_0000_0000_0000) c N (omega arith) (omega (arith, f.most)) (omega (arith, d.2)) (omega (arith, f.least)) in
    record {
      mantissa = round_value binary64 (of_bits binary64 c) false (suc n) (2 ^ k) (pow_pos k) (of_bits-fits binary64 c)
          (revalue (of_bits binary64 c) false (N * 2 ^ (1022 - u)) (2 ^ 1074) (suc n) (2 ^ k) (pow_pos 1074) (whole n N k u d.2 l) v)
          ∙ ap (λ (z : ℕ). of_bits binary64 ((1023 - z) * 0x10_0000_0000_0000 + (N - 0x10_0000_0000_0000))) (sym U)
          ∙ ap (λ (z : ℕ). of_bits binary64 ((1023 - b % 0x10_0000_0000_0000 / 0x8_0000_0000_0000) * 0x10_0000_0000_0000 + z)) (sym t);
      exponent = omega arith;
    }
  where
    whole : (n N k u : ℕ) → u ≤ 1 → suc n * 2 ^ (52 + u) ≡ N * 2 ^ k → N * 2 ^ (1022 - u) * 2 ^ k ≡ suc n * 2 ^ 1074
    whole n N k u h l =
        let s : 52 + u + (1022 - u) ≡ 1074 = omega arith in
        mul_right_comm N (2 ^ (1022 - u)) (2 ^ k) ∙ ap (λ (z : ℕ). z * 2 ^ (1022 - u)) (sym l) ∙ mul_assoc (suc n) (2 ^ (52 + u)) (2 ^ (1022 - u)) ∙ ap (λ (z : ℕ). suc n * z) (sym (pow-add 2 (52 + u) (1022 - u)) ∙ ap (λ (z : ℕ). 2 ^ z) s)
