-- `narrow_bits` on plain numbers: the `f64` with the pattern a, without its sign, is D * 2 ^ K of the smallest `f64`.
-- As an `f32` it is q * 2 ^ k of the smallest `f32`,
-- with q = closest D (2 ^ j) and K + j = 925 + k, and the pattern of that is k * 2 ^ 23 + q. Assumes nothing.
use Rattle.std.proofs.Common.{◌≡◌, ℕ, zero, suc, ◌+◌, ◌-◌, ◌*◌, ◌/◌, ◌%◌, ◌^◌, ◌<◌, ◌≤◌, Bool, true, false, cond, not, T, eqb, ltb, ◌⊎◌, sym, refl, ap, ◌∙◌, subst, inl, inr, le_trans, le_of_eq, le_refl, lt_of_lt_of_le, lt_of_le_of_lt, mul-le-mul_right, mod-eq_of_lt, mul_assoc, div-lt_iff_lt-mul, mul-le-mul, add_comm, eq-or-lt_of_le, mul-lt-mul_of_pos_right, mul-pos, le-div_iff_mul-le, add-one, arith, lit<, lit≤, eqb→eq, ltb→lt, nltb→le, pow_pos, pow_mono, pow-add, shl_lt, shr_lt}
use Prim.Native.Nat.{compare, Ordering}
use native.Mathlib.Nat.{add-mul-div_right, div-eq_of_lt, pow-succ'}
use mathlib.Core.Bool.{false≢true}
use lib.Dec.{not_T}
use lib.Arith.{le→nltb}
use lib.Pow.{pow-lt}
use lib.Ieee.{Float, nan, inf, fin, Format, binary32, binary64, prec, emax, low, hid, ones, up, down, size, nearest, odd, units, round, of_fields, of_bits, to_bits, nan_bits, is_nan, fits}
use lib.Ieee.Digits.{size-le}
use lib.Ieee.Fits.{core, round_is, odd-fits, down_pos, nearest-le}
use lib.Ieee.Bits.{of_bits-fits, cond_no, of_bits-to_bits, nan_bits_is, nan_bits_above}
use lib.Ieee.Exact.{HasValue, odd_sign, units_val}
use lib.Ieee.Nearest.{closest, closest_same}
use lib.Ieee.Scale.{round_same}
use Rattle.float.specs.Single.{narrow_of}
use Rattle.float.specs.Inner.{Narrowed}
use Rattle.float.proofs.Exactly.{unique}
use Rattle.float.proofs.Digits.{pow_split, size_gt, Cmp, cmp}
use Rattle.float.proofs.Patterns.{signed, of_bits_fields, closest_code}

-- ---- `narrow_of` sees only the value
pub narrow_value : (x : Float) (s : Bool) (a c : ℕ) → 0 < c → HasValue x s a c → narrow_of x ≡ round binary32 s a c
unfolding narrow_of
narrow_value nan s a c C v = absurd v
narrow_value (inf t) s a c C v = absurd v
narrow_value (fin t m e) s a c C v = ap (λ (b : Bool). round binary32 b (m * up e) (down e)) v.0 ∙ round_same binary32 s (m * up e) (down e) a c (down_pos e) C v.1

-- ---- the number that fields stand for
low_val : (f : Format) (s : Bool) (t : ℕ) → HasValue (of_fields f s 0 t) s (t * 2 ^ 0) (2 ^ low f)
unfolding of_fields
low_val f s t = odd_sign (prec f) s t 0 (low f)

field_val : (f : Format) (s : Bool) (x t : ℕ) → suc x < ones f → HasValue (of_fields f s (suc x) t) s ((hid f + t) * 2 ^ x) (2 ^ low f)
unfolding of_fields
field_val f s x t h =
    subst (λ (y : Float). HasValue y s ((hid f + t) * 2 ^ x) (2 ^ low f))
    (sym (cond_no (eqb (suc x) (ones f)) (cond (eqb t 0) (inf s) nan) (odd (prec f) s (hid f + t) x (low f)) (not_T (eqb (suc x) (ones f)) (λ (u : T (eqb (suc x) (ones f))). omega (arith, h, eqb→eq (suc x) (ones f) u)))))
    (odd_sign (prec f) s (hid f + t) x (low f))

at_fields : (f : Format) (s : Bool) (p x t a : ℕ) → of_bits f (signed f s + p) ≡ of_fields f s (p / hid f) (p % hid f) → p / hid f ≡ x → p % hid f ≡ t → HasValue (of_fields f s x t) s a (2 ^ low f) → HasValue (of_bits f (signed f s + p)) s a (2 ^ low f)
at_fields f s p x t a e c d v =
    subst (λ (y : Float). HasValue y s a (2 ^ low f)) (sym (e ∙ ap (λ (y : ℕ). of_fields f s y (p % hid f)) c ∙ ap (λ (y : ℕ). of_fields f s x y) d)) v

source_low : (s : Bool) (a : ℕ) → a < 0x10_0000_0000_0000 → HasValue (of_bits binary64 (signed binary64 s + a)) s (a * 2 ^ 0) (2 ^ 1074)
source_low s a h = at_fields binary64 s a 0 a (a * 2 ^ 0) (of_bits_fields binary64 s a (omega arith)) (omega arith) (omega arith) (low_val binary64 s a)

source : (s : Bool) (a K : ℕ) → a / 0x10_0000_0000_0000 ≡ suc K → suc K < 2047 → HasValue (of_bits binary64 (signed binary64 s + a)) s ((0x10_0000_0000_0000 + a % 0x10_0000_0000_0000) * 2 ^ K) (2 ^ 1074)
source s a K e h =
    at_fields binary64 s a (suc K) (a % 0x10_0000_0000_0000) ((0x10_0000_0000_0000 + a % 0x10_0000_0000_0000) * 2 ^ K) (of_bits_fields binary64 s a (omega arith)) e refl (field_val binary64 s K (a % 0x10_0000_0000_0000) h)

-- ---- `units` has a pattern
pub units_fits : (f : Format) (s : Bool) (q k : ℕ) → q ≤ 2 ^ prec f → T (fits f (units f s q k))
unfolding units
units_fits f s q k a = go (ltb (q * 2 ^ k) (2 ^ (low f + suc (emax f)))) (ltb→lt (q * 2 ^ k) (2 ^ (low f + suc (emax f))))
  where
    go : (b : Bool) → (T b → q * 2 ^ k < 2 ^ (low f + suc (emax f))) → T (fits f (cond b (odd (suc (prec f)) s q k (low f)) (inf s)))
    go true h = odd-fits f (suc (prec f)) s q k (lt_of_le_of_lt a (pow-lt (le_refl (suc (prec f))))) a (h tt)
    go false h = unfold fits in tt

pub units_over : (f : Format) (s : Bool) (q k : ℕ) → 2 ^ (low f + suc (emax f)) ≤ q * 2 ^ k → units f s q k ≡ inf s
unfolding units
units_over f s q k h = cond_no (ltb (q * 2 ^ k) (2 ^ (low f + suc (emax f)))) (odd (suc (prec f)) s q k (low f)) (inf s) (le→nltb (q * 2 ^ k) (2 ^ (low f + suc (emax f))) h)

inf_pattern : (s : Bool) → of_bits binary32 (signed binary32 s + 0x7f80_0000) ≡ inf s
unfolding of_bits
inf_pattern true = refl
inf_pattern false = refl

same_value : (s : Bool) (p q k : ℕ) → q ≤ 2 ^ 24 → q * 2 ^ k < 2 ^ 277 → HasValue (of_bits binary32 (signed binary32 s + p)) s (q * 2 ^ k) (2 ^ 149) → of_bits binary32 (signed binary32 s + p) ≡ units binary32 s q k
same_value s p q k a h v =
    unique binary32 (of_bits binary32 (signed binary32 s + p)) (units binary32 s q k) s (q * 2 ^ k) (2 ^ 149) (pow_pos 149) (of_bits-fits binary32 (signed binary32 s + p)) (units_fits binary32 s q k a) v (units_val binary32 s q k h)

under_top : (q k : ℕ) → q < 2 ^ 24 → k ≤ 253 → q * 2 ^ k < 2 ^ 277
under_top q k h l = lt_of_lt_of_le (shl_lt 24 k h) (pow_mono (reach k l))
  where
    reach : (k : ℕ) → k ≤ 253 → 24 + k ≤ 277
    reach k l = omega arith

-- q has 24 digits, or fewer where k is 0
target_low : (s : Bool) (q : ℕ) → q < 8388608 → of_bits binary32 (signed binary32 s + (0 * 8388608 + q)) ≡ units binary32 s q 0
target_low s q h =
    let p = 0 * 8388608 + q in
    same_value s p q 0 (omega arith) (under_top q 0 (omega arith) (lit≤ tt))
    (at_fields binary32 s p 0 q (q * 2 ^ 0) (of_bits_fields binary32 s p (omega arith)) (omega arith) (omega arith) (low_val binary32 s q))

target_mid : (s : Bool) (q k : ℕ) → 8388608 ≤ q → q < 0x100_0000 → k ≤ 253 → of_bits binary32 (signed binary32 s + (k * 8388608 + q)) ≡ units binary32 s q k
target_mid s q k l h m =
    let p = k * 8388608 + q in
    let e : 8388608 + (q - 8388608) ≡ q = omega arith in
    same_value s p q k (omega arith) (under_top q k h m)
    (at_fields binary32 s p (suc k) (q - 8388608) (q * 2 ^ k) (of_bits_fields binary32 s p (omega arith)) (omega arith) (omega arith)
    (subst (λ (z : ℕ). HasValue (of_fields binary32 s (suc k) (q - 8388608)) s (z * 2 ^ k) (2 ^ 149)) e (field_val binary32 s k (q - 8388608) (omega arith))))

-- a carry out of the digits
target_next : (s : Bool) (k : ℕ) → k ≤ 252 → of_bits binary32 (signed binary32 s + (k * 8388608 + 0x100_0000)) ≡ units binary32 s 0x100_0000 k
target_next s k m =
    let p = k * 8388608 + 0x100_0000 in
    let e : (8388608 + 0) * 2 ^ suc k ≡ 0x100_0000 * 2 ^ k = ap (λ (z : ℕ). 8388608 * z) (pow-succ' 2 k) ∙ sym (mul_assoc 8388608 2 (2 ^ k)) in
    same_value s p 0x100_0000 k (lit≤ tt) (subst (λ (z : ℕ). z < 2 ^ 277) (pow-add 2 24 k) (pow-lt (reach k m)))
    (at_fields binary32 s p (suc (suc k)) 0 (0x100_0000 * 2 ^ k) (of_bits_fields binary32 s p (omega arith)) (omega arith) (omega arith)
    (subst (λ (z : ℕ). HasValue (of_fields binary32 s (suc (suc k)) 0) s z (2 ^ 149)) e (field_val binary32 s (suc k) 0 (omega arith))))
  where
    reach : (k : ℕ) → k ≤ 252 → 24 + k < 277
    reach k l = omega arith

target_top : (s : Bool) → of_bits binary32 (signed binary32 s + (253 * 8388608 + 0x100_0000)) ≡ units binary32 s 0x100_0000 253
target_top s = inf_pattern s ∙ sym (units_over binary32 s 0x100_0000 253 (lit≤ tt))

pub target : (s : Bool) (q k : ℕ) → q ≤ 0x100_0000 → 8388608 ≤ q → k ≤ 253 → of_bits binary32 (signed binary32 s + (k * 8388608 + q)) ≡ units binary32 s q k
target s q k h l m =
    elim (eq-or-lt_of_le h) [
      | inl e ↦ subst (λ (z : ℕ). of_bits binary32 (signed binary32 s + (k * 8388608 + z)) ≡ units binary32 s z k) (sym e) (top (eq-or-lt_of_le m))
      | inr u ↦ target_mid s q k l u m
    ]
  where
    top : (k ≡ 253) ⊎ (k < 253) → of_bits binary32 (signed binary32 s + (k * 8388608 + 0x100_0000)) ≡ units binary32 s 0x100_0000 k
    top (inl e) = subst (λ (z : ℕ). of_bits binary32 (signed binary32 s + (z * 8388608 + 0x100_0000)) ≡ units binary32 s 0x100_0000 z) (sym e) (target_top s)
    top (inr u) = target_next s k (omega (arith, u))

-- ---- `round` of D * 2 ^ K of the smallest `f64`
pub round_units : (s : Bool) (D K j k : ℕ) → K + 149 + j ≡ 1074 + k → size (D * 2 ^ K * 2 ^ 149 / 2 ^ 1074) - 24 ≡ k → round binary32 s (D * 2 ^ K) (2 ^ 1074) ≡ units binary32 s (closest D (2 ^ j)) k
round_units s D K j k e z =
    round_is binary32 s (D * 2 ^ K) (2 ^ 1074)
    ∙ ap (λ (y : ℕ). core binary32 s (D * 2 ^ K * 2 ^ 149) (2 ^ 1074) y) z
    ∙ ap (λ (y : ℕ). units binary32 s y k) (closest_same (D * 2 ^ K * 2 ^ 149) (2 ^ 1074 * 2 ^ k) D (2 ^ j) (mul-pos (pow_pos 1074) (pow_pos k)) (pow_pos j) same)
  where
    same : D * 2 ^ K * 2 ^ 149 * 2 ^ j ≡ D * (2 ^ 1074 * 2 ^ k)
    same = ap (λ (y : ℕ). y * 2 ^ j) (pow_split D K 149) ∙ pow_split D (K + 149) j ∙ ap (λ (y : ℕ). D * 2 ^ y) e ∙ ap (λ (y : ℕ). D * y) (pow-add 2 1074 k)

size_normal : (D K k : ℕ) → K ≡ 896 + k → 2 ^ 52 ≤ D → D < 2 ^ 53 → size (D * 2 ^ K * 2 ^ 149 / 2 ^ 1074) - 24 ≡ k
size_normal D K k e l h =
    let n = D * 2 ^ K * 2 ^ 149 in
    let is : n ≡ D * 2 ^ (1045 + k) = pow_split D K 149 ∙ ap (λ (y : ℕ). D * 2 ^ y) (omega (arith, e)) in
    let lo : 2 ^ (23 + k) * 2 ^ 1074 ≤ n =
    le_trans (le_of_eq (sym (pow-add 2 (23 + k) 1074) ∙ ap (λ (y : ℕ). 2 ^ y) (omega arith) ∙ pow-add 2 52 (1045 + k))) (le_trans (mul-le-mul_right (2 ^ (1045 + k)) l) (le_of_eq (sym is))) in
    let hi : n < 2 ^ (24 + k) * 2 ^ 1074 =
    lt_of_le_of_lt (le_of_eq is) (lt_of_lt_of_le (mul-lt-mul_of_pos_right h (pow_pos (1045 + k))) (le_of_eq (sym (pow-add 2 53 (1045 + k)) ∙ ap (λ (y : ℕ). 2 ^ y) (omega arith) ∙ pow-add 2 (24 + k) 1074))) in
    omega (arith, size_gt (n / 2 ^ 1074) (23 + k) ((le-div_iff_mul-le (pow_pos 1074)).1 lo), size-le (n / 2 ^ 1074) (24 + k) ((div-lt_iff_lt-mul (pow_pos 1074)).1 hi))

size_low : (D K : ℕ) → D < 2 ^ 53 → K ≤ 895 → size (D * 2 ^ K * 2 ^ 149 / 2 ^ 1074) - 24 ≡ 0
size_low D K h l =
    let n = D * 2 ^ K * 2 ^ 149 in
    let hi : n < 2 ^ 23 * 2 ^ 1074 =
    lt_of_le_of_lt (le_of_eq (pow_split D K 149)) (lt_of_lt_of_le (shl_lt 53 (K + 149) h) (le_trans (pow_mono (reach K l)) (le_of_eq (pow-add 2 23 1074)))) in
    few (size (n / 2 ^ 1074)) (size-le (n / 2 ^ 1074) 23 ((div-lt_iff_lt-mul (pow_pos 1074)).1 hi))
  where
    reach : (K : ℕ) → K ≤ 895 → 53 + (K + 149) ≤ 23 + 1074
    reach K l = omega arith

    few : (z : ℕ) → z ≤ 23 → z - 24 ≡ 0
    few z h = omega arith

-- ---- the four ranges of a
abbrev pub rounded : ℕ → ℕ
rounded y = (y + 0xfff_ffff + y / 0x2000_0000 % 2) / 0x2000_0000

digits_hi : (a : ℕ) → 0x10_0000_0000_0000 + a % 0x10_0000_0000_0000 < 2 ^ 53
digits_hi a = omega arith

-- the `f32`'s digits, from 2 ^ 23 up to 2 ^ 24
code_29 : (D : ℕ) → rounded D ≡ closest D (2 ^ 29)
code_29 D = closest_code D 0x1000_0000 (lit< tt)

value : (s : Bool) (a K k : ℕ) → a / 0x10_0000_0000_0000 ≡ suc K → suc K < 2047 → K ≡ 896 + k
    → narrow_of (of_bits binary64 (signed binary64 s + a)) ≡ units binary32 s (rounded (0x10_0000_0000_0000 + a % 0x10_0000_0000_0000)) k
value s a K k e h f =
    let D = 0x10_0000_0000_0000 + a % 0x10_0000_0000_0000 in
    narrow_value (of_bits binary64 (signed binary64 s + a)) s (D * 2 ^ K) (2 ^ 1074) (pow_pos 1074) (source s a K e h)
    ∙ round_units s D K 29 k (omega arith) (size_normal D K k f (omega arith) (digits_hi a))
    ∙ ap (λ (q : ℕ). units binary32 s q k) (sym (code_29 D))

pub normal : (a : ℕ) → 0x3810_0000_0000_0000 ≤ a → a < 0x47f0_0000_0000_0000 → Narrowed a (rounded (a - 0x3800_0000_0000_0000))
normal a l h =
    let D = 0x10_0000_0000_0000 + a % 0x10_0000_0000_0000 in
    let k = a / 0x10_0000_0000_0000 - 897 in
    let K = 896 + k in
    let e : a / 0x10_0000_0000_0000 ≡ suc K = omega arith in
    let k-le : k ≤ 253 = omega arith in
    let r : k * 8388608 + rounded D ≡ rounded (a - 0x3800_0000_0000_0000) = split a (a % 0x10_0000_0000_0000) k (omega (arith, e)) (omega arith) in
    record {
      small = subst (λ (z : ℕ). z ≤ 0x7f80_0000) r (omega (arith, digits_hi a, k-le));
      is = λ s. value s a K k e (omega (arith, k-le)) refl ∙ sym (target s (rounded D) k (omega (arith, digits_hi a)) (least D (omega arith)) k-le) ∙ ap (λ (p : ℕ). of_bits binary32 (signed binary32 s + p)) r;
    }
  where
    least : (D : ℕ) → 2 ^ 52 ≤ D → 8388608 ≤ rounded D
    least D h = omega arith

    split : (a t k : ℕ) → a ≡ (897 + k) * 0x10_0000_0000_0000 + t → t < 0x10_0000_0000_0000 → k * 8388608 + rounded (0x10_0000_0000_0000 + t) ≡ rounded (a - 0x3800_0000_0000_0000)
    split a t k e h =
        let D = 0x10_0000_0000_0000 + t in
        let y = a - 0x3800_0000_0000_0000 in
        let y-is : y ≡ D + k * 8388608 * 0x2000_0000 = omega arith in
        let b : y / 0x2000_0000 % 2 ≡ D / 0x2000_0000 % 2 = ap (λ (z : ℕ). z / 0x2000_0000 % 2) y-is ∙ ap (λ (z : ℕ). z % 2) (add-mul-div_right D (k * 8388608) (lit< tt)) ∙ omega arith in
        add_comm (k * 8388608) (rounded D)
        ∙ sym (add-mul-div_right (D + 0xfff_ffff + D / 0x2000_0000 % 2) (k * 8388608) (lit< tt))
        ∙ ap (λ (z : ℕ). z / 0x2000_0000) (omega (arith, y-is, b))

inf_64 : (s : Bool) → narrow_of (of_bits binary64 (signed binary64 s + 0x7ff0_0000_0000_0000)) ≡ inf s
unfolding of_bits narrow_of
inf_64 true = refl
inf_64 false = refl

pub over : (a : ℕ) → 0x47f0_0000_0000_0000 ≤ a → a ≤ 0x7ff0_0000_0000_0000 → Narrowed a 0x7f80_0000
over a l h = record { small = lit≤ tt; is = λ s. go s (eq-or-lt_of_le h) ∙ sym (inf_pattern s) }
  where
    go : (s : Bool) → (a ≡ 0x7ff0_0000_0000_0000) ⊎ (a < 0x7ff0_0000_0000_0000) → narrow_of (of_bits binary64 (signed binary64 s + a)) ≡ inf s
    go s (inl e) = subst (λ (z : ℕ). narrow_of (of_bits binary64 (signed binary64 s + z)) ≡ inf s) (sym e) (inf_64 s)
    go s (inr u) =
        let D = 0x10_0000_0000_0000 + a % 0x10_0000_0000_0000 in
        let k = a / 0x10_0000_0000_0000 - 897 in
        value s a (896 + k) k (omega arith) (omega arith) refl
        ∙ units_over binary32 s (rounded D) k (le_trans (le_of_eq (pow-add 2 23 254)) (mul-le-mul (least D (omega arith)) (pow_mono (high a k refl l))))
      where
        least : (D : ℕ) → 2 ^ 52 ≤ D → 8388608 ≤ rounded D
        least D h = omega arith

        high : (a k : ℕ) → k ≡ a / 0x10_0000_0000_0000 - 897 → 0x47f0_0000_0000_0000 ≤ a → 254 ≤ k
        high a k e l = omega arith

-- ---- below the normal range
abbrev pub low_rounded : ℕ → ℕ → ℕ
low_rounded D k = (D + (2 ^ k - 1) + D / 2 ^ (k + 1) % 2) / 2 ^ (k + 1)

code_low : (D k : ℕ) → low_rounded D k ≡ closest D (2 ^ (k + 1))
code_low D k = subst (λ (u : ℕ). (D + (2 ^ k - 1) + D / u % 2) / u ≡ closest D u) (sym (ap (λ (z : ℕ). 2 ^ z) (add-one k) ∙ pow-succ' 2 k)) (closest_code D (2 ^ k) (pow_pos k))

-- with j digits or more dropped, 23 are left
closest_le : (D j : ℕ) → 30 ≤ j → D < 2 ^ 53 → closest D (2 ^ j) ≤ 8388608
closest_le D j l h = le_trans (nearest-le (D / 2 ^ j) (compare (D % 2 ^ j * 2) (2 ^ j))) (shr_lt 23 j (lt_of_lt_of_le h (pow_mono (reach j l))))
  where
    reach : (j : ℕ) → 30 ≤ j → 53 ≤ 23 + j
    reach j l = omega arith

target_sub : (s : Bool) (q : ℕ) → q ≤ 8388608 → of_bits binary32 (signed binary32 s + q) ≡ units binary32 s q 0
target_sub s q h =
    elim (eq-or-lt_of_le h) [
      | inl e ↦ ap (λ (z : ℕ). of_bits binary32 (signed binary32 s + z)) (omega arith) ∙ target s q 0 (omega arith) (le_of_eq (sym e)) (lit≤ tt)
      | inr u ↦ ap (λ (z : ℕ). of_bits binary32 (signed binary32 s + z)) (omega arith) ∙ target_low s q u
    ]

below : (s : Bool) (x : Float) (D K j : ℕ) → HasValue x s (D * 2 ^ K) (2 ^ 1074) → D < 2 ^ 53 → K + j ≡ 925 → 30 ≤ j → narrow_of x ≡ of_bits binary32 (signed binary32 s + closest D (2 ^ j))
below s x D K j v h e l =
    narrow_value x s (D * 2 ^ K) (2 ^ 1074) (pow_pos 1074) v
    ∙ round_units s D K j 0 (omega arith) (size_low D K h (omega arith))
    ∙ sym (target_sub s (closest D (2 ^ j)) (closest_le D j l h))

pub sub : (a : ℕ) → 0x3680_0000_0000_0000 ≤ a → a < 0x3810_0000_0000_0000 → Narrowed a (low_rounded (a % 0x10_0000_0000_0000 + 0x10_0000_0000_0000) (925 - a / 0x10_0000_0000_0000))
sub a l h =
    let D = 0x10_0000_0000_0000 + a % 0x10_0000_0000_0000 in
    let k = 925 - a / 0x10_0000_0000_0000 in
    let K = a / 0x10_0000_0000_0000 - 1 in
    let e : a / 0x10_0000_0000_0000 ≡ suc K = omega arith in
    let c : closest D (2 ^ (k + 1)) ≡ low_rounded (a % 0x10_0000_0000_0000 + 0x10_0000_0000_0000) k = sym (code_low D k) ∙ ap (λ (z : ℕ). low_rounded z k) (add_comm 0x10_0000_0000_0000 (a % 0x10_0000_0000_0000)) in
    let j-ge : 30 ≤ k + 1 = omega arith in
    record {
      small = subst (λ (z : ℕ). z ≤ 0x7f80_0000) c (le_trans (closest_le D (k + 1) j-ge (digits_hi a)) (lit≤ tt));
      is = λ s.
          below s (of_bits binary64 (signed binary64 s + a)) D K (k + 1) (source s a K e (omega arith)) (digits_hi a) (omega arith) j-ge
          ∙ ap (λ (p : ℕ). of_bits binary32 (signed binary32 s + p)) c;
    }

closest_none : (D u : ℕ) → D * 2 < u → closest D u ≡ 0
closest_none D u h =
    let l : D < u = omega (arith, h) in
    ap (λ (z : ℕ). nearest z (compare (D % u * 2) u)) (div-eq_of_lt l) ∙ ap (λ (z : ℕ). nearest 0 (compare (z * 2) u)) (mod-eq_of_lt l) ∙ go (compare (D * 2) u) (cmp (D * 2) u)
  where
    go : (o : Ordering) → Cmp o (D * 2) u → nearest 0 o ≡ 0
    go Ordering.lt c = refl
    go Ordering.eq c = refl
    go Ordering.gt c = absurd (omega (arith, h, c))

vanish : (s : Bool) (x : Float) (D K : ℕ) → HasValue x s (D * 2 ^ K) (2 ^ 1074) → D < 2 ^ 53 → K ≤ 870 → narrow_of x ≡ of_bits binary32 (signed binary32 s + 0)
vanish s x D K v h l =
    let j = 925 - K in
    below s x D K j v h (omega arith) (omega arith)
    ∙ ap (λ (p : ℕ). of_bits binary32 (signed binary32 s + p)) (closest_none D (2 ^ j) (lt_of_lt_of_le (twice D h) (pow_mono (reach K l))))
  where
    twice : (D : ℕ) → D < 2 ^ 53 → D * 2 < 2 ^ 54
    twice D h = omega arith

    reach : (K : ℕ) → K ≤ 870 → 54 ≤ 925 - K
    reach K l = omega arith

pub tiny : (a : ℕ) → a < 0x3680_0000_0000_0000 → Narrowed a 0
tiny a h = record { small = lit≤ tt; is = λ s. go s (a / 0x10_0000_0000_0000) refl }
  where
    go : (s : Bool) (x : ℕ) → a / 0x10_0000_0000_0000 ≡ x → narrow_of (of_bits binary64 (signed binary64 s + a)) ≡ of_bits binary32 (signed binary32 s + 0)
    go s zero e = vanish s (of_bits binary64 (signed binary64 s + a)) a 0 (source_low s a (omega (arith, e))) (omega (arith, e)) (lit≤ tt)
    go s (suc K) e = vanish s (of_bits binary64 (signed binary64 s + a)) (0x10_0000_0000_0000 + a % 0x10_0000_0000_0000) K (source s a K e (omega arith)) (digits_hi a) (omega arith)

-- ---- with the sign
pub with_sign : (b r : ℕ) → b < 2 ^ 64 → Narrowed (b % 0x8000_0000_0000_0000) r → of_bits binary32 (r + b / 0x8000_0000_0000_0000 * 0x8000_0000) ≡ narrow_of (of_bits binary64 b)
with_sign b r h w = go (b / 0x8000_0000_0000_0000) refl
  where
    at : (s : Bool) (p : ℕ) → cond s (2 ^ 63) 0 + b % 0x8000_0000_0000_0000 ≡ b → cond s (2 ^ 31) 0 + r ≡ p → of_bits binary32 p ≡ narrow_of (of_bits binary64 b)
    at s p e f = ap (λ (z : ℕ). of_bits binary32 z) (sym f) ∙ sym (w.is s) ∙ ap (λ (z : ℕ). narrow_of (of_bits binary64 z)) e

    go : (x : ℕ) → b / 0x8000_0000_0000_0000 ≡ x → of_bits binary32 (r + x * 0x8000_0000) ≡ narrow_of (of_bits binary64 b)
    go zero e = at false (r + 0 * 0x8000_0000) (omega arith) (omega arith)
    go (suc zero) e = at true (r + 1 * 0x8000_0000) (omega arith) (omega arith)
    go (suc (suc x)) e = absurd (one (b / 0x8000_0000_0000_0000) b x h refl e)
      where
        one : (q b x : ℕ) → b < 2 ^ 64 → q ≡ b / 0x8000_0000_0000_0000 → q ≡ suc (suc x) → ⊥
        one q b x h e f = omega arith

-- what is no NaN has a pattern up to the infinity's
pub narrow_nan : (x : Float) → is_nan x ≡ true → nan ≡ narrow_of x
unfolding is_nan narrow_of
narrow_nan nan h = refl
narrow_nan (inf s) h = absurd (false≢true h)
narrow_nan (fin s m e) h = absurd (false≢true h)

pub magnitude_le : (x : Float) → T (fits binary64 x) → T (not (is_nan x)) → to_bits binary64 x % 0x8000_0000_0000_0000 ≤ 0x7ff0_0000_0000_0000
magnitude_le x t h =
    let b = to_bits binary64 x in
    nltb→le 0x7ff0_0000_0000_0000 (b % 0x8000_0000_0000_0000)
    (subst (λ (y : Bool). T (not y)) (sym (ap is_nan (of_bits-to_bits binary64 x t)) ∙ sym (nan_bits_is binary64 b) ∙ nan_bits_above binary64 b) h)

pub pattern_ok : (b r : ℕ) → b < 2 ^ 64 → r ≤ 0x7f80_0000 → T (not (nan_bits binary32 (r + b / 0x8000_0000_0000_0000 * 0x8000_0000)))
pattern_ok b r h l =
    let p = r + b / 0x8000_0000_0000_0000 * 0x8000_0000 in
    subst (λ (y : Bool). T (not y)) (sym (nan_bits_above binary32 p)) (le→nltb 0x7f80_0000 (p % 0x8000_0000) (omega arith))
