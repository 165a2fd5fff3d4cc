-- Bit patterns of binary64 and the values that they stand for, as `sqrt_of` and `root_of` see them. Assumes nothing.
use Rattle.std.proofs.Common.{◌≡◌, ℕ, zero, suc, ◌+◌, ◌-◌, ◌*◌, ◌/◌, ◌%◌, ◌^◌, ◌<◌, ◌≤◌, Bool, true, false, cond, not, T, eqb, ltb, ℤ, sym, refl, ap, ◌∙◌, subst, true≢false, lt_irrefl, mod-eq_of_lt, mul-pos, zero-mul, mul-one, mul_right_comm, mul-div_cancel, arith, ltb→lt, nltb→le, lt-ltb, ne_eqb}
use borrow.Author.Tests.{lt-leb}
use lib.Ieee.{Float, nan, inf, fin, Format, binary64, low, up, down, odd, of_fields, of_bits, is_nan}
use lib.Ieee.Fits.{down_pos}
use lib.Ieee.Bits.{nan_bits_is, nan_bits_above}
use lib.Ieee.Exact.{HasValue, odd_sign}
use Rattle.float.specs.Root.{root_of, sqrt_of}
use Rattle.float.specs.Inner.{counted}

-- ---- `sqrt_of` of a value, by its size

no_product : (a d : ℕ) → 0 < a → 0 < d → (x : ℕ) → x ≡ 0 → x ≡ a * d → ⊥
no_product a d h k x e g = lt_irrefl 0 (subst (λ (y : ℕ). 0 < y) (sym g ∙ e) (mul-pos h k))

no_zero : (e : ℤ) (a c : ℕ) → 0 < a → zero * up e * c ≡ a * down e → ⊥
no_zero e a c h v = no_product a (down e) h (down_pos e) (zero * up e * c) (ap (λ (x : ℕ). x * c) (zero-mul (up e)) ∙ zero-mul c) v

pub sqrt_of_value : (f : Format) (v : Float) (a : ℕ) → 0 < a → HasValue v false a (2 ^ low f) → sqrt_of f v ≡ root_of f (a * 2 ^ low f)
unfolding sqrt_of
sqrt_of_value f nan a h v = absurd v
sqrt_of_value f (inf s) a h v = absurd v
sqrt_of_value f (fin s zero e) a h v = absurd (no_zero e a (2 ^ low f) h v.1)
sqrt_of_value f (fin true (suc m) e) a h v = absurd (true≢false v.0)
sqrt_of_value f (fin false (suc m) e) a h v =
    ap (λ (x : ℕ). root_of f (x * 2 ^ low f / down e)) v.1
    ∙ ap (λ (x : ℕ). root_of f (x / down e)) (mul_right_comm a (down e) (2 ^ low f))
    ∙ ap (root_of f) (mul-div_cancel (a * 2 ^ low f) (down_pos e))

-- ---- what a pattern with the sign clear, below the infinity's, stands for

-- by the exponent's field
low_fields : (s : Bool) (t : ℕ) → of_fields binary64 s 0 t ≡ odd 53 s t 0 1074
unfolding of_fields
low_fields s t = refl

mid_fields : (s : Bool) (x t : ℕ) → suc x < 2047 → of_fields binary64 s (suc x) t ≡ odd 53 s (2 ^ 52 + t) x 1074
unfolding of_fields
mid_fields s x t h = ap (λ (b : Bool). cond b (cond (eqb t 0) (inf s) nan) (odd 53 s (2 ^ 52 + t) x 1074)) (ne_eqb (suc x) 2047 (other x h))
  where
    other : (x : ℕ) → suc x < 2047 → suc x ≡ 2047 → ⊥
    other x h e = omega arith

positive_fields : (b : ℕ) → b < 2 ^ 63 → of_bits binary64 b ≡ of_fields binary64 false (b / 2 ^ 52) (b % 2 ^ 52)
unfolding of_bits
positive_fields b h =
    ap (λ (s : Bool). of_fields binary64 s (b % 2 ^ 63 / 2 ^ 52) (b % 2 ^ 52)) (lt-leb (2 ^ 63) b h)
    ∙ ap (λ (r : ℕ). of_fields binary64 false (r / 2 ^ 52) (b % 2 ^ 52)) (mod-eq_of_lt h)

pub low_bits : (b : ℕ) → b < 2 ^ 52 → of_bits binary64 b ≡ odd 53 false b 0 1074
low_bits b h =
    let z : b / 2 ^ 52 ≡ 0 = omega arith in
    let r : b % 2 ^ 52 ≡ b = omega arith in
    positive_fields b (omega arith) ∙ ap (λ (x : ℕ). of_fields binary64 false x (b % 2 ^ 52)) z ∙ ap (λ (t : ℕ). of_fields binary64 false 0 t) r ∙ low_fields false b

-- a pattern that is k times the exponent's weight and a c of 53 digits, whose leading one adds one to the exponent's
-- field
pub mid_bits : (k c : ℕ) → suc k < 2047 → 2 ^ 52 ≤ c → c < 2 ^ 53 → of_bits binary64 (k * 2 ^ 52 + c) ≡ odd 53 false c k 1074
mid_bits k c h lo hi =
    let b = k * 2 ^ 52 + c in
    let x : b / 2 ^ 52 ≡ suc k = omega arith in
    let t : b % 2 ^ 52 ≡ c - 2 ^ 52 = omega arith in
    let back : 2 ^ 52 + (c - 2 ^ 52) ≡ c = omega arith in
    positive_fields b (omega arith)
    ∙ ap (λ (x : ℕ). of_fields binary64 false x (b % 2 ^ 52)) x
    ∙ ap (λ (t : ℕ). of_fields binary64 false (suc k) t) t
    ∙ mid_fields false k (c - 2 ^ 52) h
    ∙ ap (λ (q : ℕ). odd 53 false q k 1074) back

pub counted_value : (b : ℕ) → b < 0x7ff0_0000_0000_0000 → HasValue (of_bits binary64 b) false (counted b) (2 ^ 1074)
unfolding counted
counted_value b h = go (ltb b (2 ^ 52)) (ltb→lt b (2 ^ 52)) (nltb→le b (2 ^ 52))
  where
    go : (t : Bool) → (T t → b < 2 ^ 52) → (T (not t) → 2 ^ 52 ≤ b) → HasValue (of_bits binary64 b) false (cond t b ((2 ^ 52 + b % 2 ^ 52) * 2 ^ (b / 2 ^ 52 - 1))) (2 ^ 1074)
    go true y z =
        subst (λ (v : Float). HasValue v false b (2 ^ 1074)) (sym (low_bits b (y tt)))
        (subst (λ (a : ℕ). HasValue (odd 53 false b 0 1074) false a (2 ^ 1074)) (mul-one b) (odd_sign 53 false b 0 1074))
    go false y z =
        let m = 2 ^ 52 + b % 2 ^ 52 in
        let k = b / 2 ^ 52 - 1 in
        let l : 2 ^ 52 ≤ b = z tt in
        let e : k * 2 ^ 52 + m ≡ b = omega arith in
        subst (λ (v : Float). HasValue v false (m * 2 ^ k) (2 ^ 1074)) (sym (mid_bits k m (omega arith) (omega arith) (omega arith)) ∙ ap (of_bits binary64) e) (odd_sign 53 false m k 1074)

-- ---- the other patterns

pub above_inf : (b : ℕ) → 0x7ff0_0000_0000_0000 < b → b < 2 ^ 63 → T (not (is_nan (of_bits binary64 b))) → ⊥
above_inf b h k t =
    subst (λ (x : Bool). T (not x))
    (sym (nan_bits_is binary64 b) ∙ nan_bits_above binary64 b ∙ ap (λ (r : ℕ). ltb 0x7ff0_0000_0000_0000 r) (mod-eq_of_lt k) ∙ lt-ltb 0x7ff0_0000_0000_0000 b h)
    t
