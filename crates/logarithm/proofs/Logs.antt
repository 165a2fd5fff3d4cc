-- The logarithm's m and e are those that the code reads off a bit pattern, of a normal number its own and of a
-- smaller one that of 2^54 times it. Assumes nothing.
use mathlib.Core.Path.{◌≡◌, refl, sym, ap, ◌∙◌, subst}
use Prim.Native.Nat.{ℕ, zero, suc, ◌+◌, ◌*◌, ◌^◌, ◌≤◌, ◌<◌, zero-le}
use native.Mathlib.Nat.{le_trans, le_of_eq, lt_of_lt_of_le, lt_of_le_of_lt, zero-lt-suc, mul-pos, mul-one, mul_assoc, mul-le-mul_right, mul-lt-mul_of_pos_right, le_of_mul-le-mul_right, lt_of_mul-lt-mul_right}
use native.Mathlib.Omega.{arith}
use mathlib.Core.Bool.{Bool, true, false, not}
use lib.IntN.{ℤ, pos, negsuc, ◌+ℤ◌}
use lib.Dec.{T, eqb, eqb→eq, T_not, lit<, lit≤}
use lib.Pow.{pow-add, pow_pos}
use lib.Ieee.{Float, nan, inf, fin, binary64, up, down, minus, round, lt, eq, fits, is_nan, of_int, to_bits}
use lib.Ieee.Digits.{minus_val}
use lib.Ieee.Fits.{mul-fits, up_pos, down_pos, and_l}
use lib.Ieee.Bits.{to_bits-lt}
use lib.Ieee.Exact.{HasValue, round_exact}
use Rattle.float.specs.Ops.{of, ◌⊖◌, ◌⊗◌}
use Rattle.float.proofs.Exactly.{fits_says, zero_exp}
use Rattle.float.proofs.Compared.{lt→cross, nlt→cross, cross→lt}
use Rattle.logarithm.specs.Inner.{digits_of, field_of}
use Rattle.logarithm.specs.Logarithm.{octave, mantissa_of, exponent_of, log_of, log10_of}
use Rattle.float.proofs.Sums.{mul_over}
use Rattle.trig.proofs.Fractions.{value_no_nan}
use Rattle.logarithm.proofs.Octaves.{minus_same, minus_plus, whole_less, offset, mantissa_is, exponent_is, fields, by_bits}

abbrev tiny : Float
tiny = fin false 1 (negsuc 1021)

abbrev nought : Float
nought = fin false 0 (pos 0)

-- z is 2^K times y
parts : (n : ℕ) (p : ℤ) (x K : ℕ) (z : Float) → suc n < 2 ^ 53 → p ≡ minus x 1074 → K ≤ 54 → T (fits binary64 z) → 2 ^ 52 ≤ suc n * 2 ^ (x + K) → HasValue z false (suc n * 2 ^ (x + K)) (2 ^ 1074)
    → log_of (digits_of (to_bits binary64 z)) (of (field_of (to_bits binary64 z)) ⊖ of (1023 + K)) ≡ log_of (mantissa_of (fin false (suc n) p)) (of_int binary64 (exponent_of (fin false (suc n) p)))
parts n p x K z few e l f h v =
    let b = to_bits binary64 z in
    let k = octave (suc n) in
    let w = by_bits n (x + K) b (fields z (suc n) (x + K) few h v) in
    let low : b < 0x1_0000_0000_0000_0000 = to_bits-lt binary64 z f in
    ap (λ (m : Float). log_of m (of (field_of b) ⊖ of (1023 + K))) (sym w.mantissa ∙ sym (mantissa_is false (suc n) p))
    ∙ ap (log_of (mantissa_of (fin false (suc n) p)))
    (whole_less (field_of b) (1023 + K) (omega arith) (omega arith)
    ∙ ap (of_int binary64) (minus_same (field_of b) (1023 + K) (x + k) 1074 (omega (arith, w.exponent)) ∙ sym (minus_plus x 1074 k) ∙ ap (λ (q : ℤ). q +ℤ pos k) (sym e) ∙ sym (exponent_is false (suc n) p)))

own : (n x : ℕ) (p : ℤ) → p ≡ minus x 1074 → HasValue (fin false (suc n) p) false (suc n * 2 ^ x) (2 ^ 1074)
own n x p e = subst (λ (q : ℤ). HasValue (fin false (suc n) q) false (suc n * 2 ^ x) (2 ^ 1074)) (sym e) (refl, minus_val (suc n) x 1074)

-- ---- from the smallest normal number on
normal : (n : ℕ) (p : ℤ) → T (fits binary64 (fin false (suc n) p)) → T (not (lt (fin false (suc n) p) tiny)) → log_of (digits_of (to_bits binary64 (fin false (suc n) p))) (of (field_of (to_bits binary64 (fin false (suc n) p))) ⊖ of 1023) ≡ log_of (mantissa_of (fin false (suc n) p)) (of_int binary64 (exponent_of (fin false (suc n) p)))
normal n p t h =
    let o = offset n p t in
    let x = o.0 in
    let v = own n x p o.1 in
    let l : 1 * 2 ^ 1074 ≤ suc n * 2 ^ x * 2 ^ 1022 = nlt→cross (fin false (suc n) p) tiny (suc n * 2 ^ x) (2 ^ 1074) 1 (2 ^ 1022) (pow_pos 1074) (pow_pos 1022) v (refl, refl) h in
    let s : suc n * 2 ^ x ≡ suc n * 2 ^ (x + 0) = ap (λ (z : ℕ). suc n * 2 ^ z) (omega arith) in
    parts n p x 0 (fin false (suc n) p) (fits_says binary64 false n p t).1 o.1 zero-le t
    (le_trans (le_of_mul-le-mul_right {m = 2 ^ 52} {n = suc n * 2 ^ x} {k = 2 ^ 1022} l (pow_pos 1022)) (le_of_eq s))
    (subst (λ (z : ℕ). HasValue (fin false (suc n) p) false z (2 ^ 1074)) s v)

-- ---- below it: times 2^54
abbrev times54 : Float → Float
times54 y = y ⊗ fin false 1 (pos 54)

raised : (n x : ℕ) (p : ℤ) → suc n < 2 ^ 53 → p ≡ minus x 1074 → suc n * 2 ^ x < 2 ^ 52 → HasValue (times54 (fin false (suc n) p)) false (suc n * 2 ^ (x + 54)) (2 ^ 1074)
raised n x p few e h =
    let a = suc n * 2 ^ x in
    let s : a * 2 ^ 54 ≡ suc n * 2 ^ (x + 54) = mul_assoc (suc n) (2 ^ x) (2 ^ 54) ∙ ap (λ (z : ℕ). suc n * z) (sym (pow-add 2 x 54)) in
    let c = 2 ^ 1074 in
    let small : suc n * 2 ^ (x + 54) < 2 ^ 2098 = lt_of_le_of_lt (le_of_eq (sym s)) (lt_of_lt_of_le (mul-lt-mul_of_pos_right h (pow_pos 54)) (lit≤ tt)) in
    subst (λ (z : Float). HasValue z false (suc n * 2 ^ (x + 54)) c)
    (sym (mul_over binary64 (fin false (suc n) p) (fin false 1 (pos 54)) false false a c (2 ^ 54) 1 (pow_pos 1074) (lit< tt) (own n x p e) (refl, refl) ∙ ap (λ (z : ℕ). round binary64 false z (c * 1)) s ∙ ap (λ (z : ℕ). round binary64 false (suc n * 2 ^ (x + 54)) z) (mul-one c)))
    (round_exact binary64 false (suc n * 2 ^ (x + 54)) c (suc n) (x + 54) (pow_pos 1074) few small refl)

under : (n x : ℕ) (p : ℤ) → p ≡ minus x 1074 → T (lt (fin false (suc n) p) tiny) → suc n * 2 ^ x < 2 ^ 52
under n x p e h = lt_of_mul-lt-mul_right (2 ^ 1022) (lt→cross (fin false (suc n) p) tiny (suc n * 2 ^ x) (2 ^ 1074) 1 (2 ^ 1022) (pow_pos 1074) (pow_pos 1022) (own n x p e) (refl, refl) h)

subnormal : (n : ℕ) (p : ℤ) → T (fits binary64 (fin false (suc n) p)) → T (lt (fin false (suc n) p) tiny) → log_of (digits_of (to_bits binary64 (times54 (fin false (suc n) p)))) (of (field_of (to_bits binary64 (times54 (fin false (suc n) p)))) ⊖ of 1077) ≡ log_of (mantissa_of (fin false (suc n) p)) (of_int binary64 (exponent_of (fin false (suc n) p)))
subnormal n p t h =
    let o = offset n p t in
    let x = o.0 in
    let few = (fits_says binary64 false n p t).1 in
    let v = raised n x p few o.1 (under n x p o.1 h) in
    parts n p x 54 (times54 (fin false (suc n) p)) few o.1 (lit≤ tt) (mul-fits binary64 (fin false (suc n) p) (fin false 1 (pos 54)))
    (le_trans (le_trans (lit≤ tt) (mul-le-mul_right (2 ^ 54) (mul-pos (zero-lt-suc n) (pow_pos x)))) (le_of_eq (mul_assoc (suc n) (2 ^ x) (2 ^ 54) ∙ ap (λ (z : ℕ). suc n * z) (sym (pow-add 2 x 54)))))
    v

-- ---- the ways out of `log10`
pub log_zero : (y : Float) → T (eq y nought) → inf true ≡ log10_of y
unfolding eq log10_of
log_zero nan h = absurd h
log_zero (inf s) h = absurd h
log_zero (fin s zero p) h = refl
log_zero (fin s (suc n) p) h = absurd (none (suc n * up p * 1) (down p) (mul-pos (mul-pos (zero-lt-suc n) (up_pos p)) (lit< tt)) (eqb→eq (suc n * up p * 1) (0 * down p) (and_l (eqb (suc n * up p * 1) (0 * down p)) _ h)))
  where
    none : (a d : ℕ) → 0 < a → a ≡ 0 * d → ⊥
    none a d h e = omega arith

no_zero : (s : Bool) (p : ℤ) → T (fits binary64 (fin s 0 p)) → T (not (eq (fin s 0 p) nought)) → ⊥
unfolding eq
no_zero true p f h = subst (λ (z : ℤ). T (not (eq (fin true 0 z) nought))) (zero_exp binary64 true p f) h
no_zero false p f h = subst (λ (z : ℤ). T (not (eq (fin false 0 z) nought))) (zero_exp binary64 false p f) h

pub log_none : (y : Float) → T (fits binary64 y) → T (not (eq y nought)) → T (not (lt nought y)) → nan ≡ log10_of y
unfolding lt log10_of
log_none nan f h k = refl
log_none (inf true) f h k = refl
log_none (inf false) f h k = absurd k
log_none (fin s zero p) f h k = absurd (no_zero s p f h)
log_none (fin true (suc n) p) f h k = refl
log_none (fin false (suc n) p) f h k = absurd (T_not (lt nought (fin false (suc n) p)) k (cross→lt nought (fin false (suc n) p) 0 1 (suc n * up p) (down p) (lit< tt) (down_pos p) (refl, refl) (refl, refl) (omega (arith, mul-pos (zero-lt-suc n) (up_pos p)))))

pub log_infinite : (y : Float) → T (lt nought y) → T (not (lt y (inf false))) → inf false ≡ log10_of y
unfolding lt log10_of
log_infinite nan h k = absurd h
log_infinite (inf true) h k = absurd h
log_infinite (inf false) h k = refl
log_infinite (fin s n p) h k = absurd k

no_less : (p : ℤ) → T (lt nought (fin false 0 p)) → ⊥
no_less p h = omega (arith, lt→cross nought (fin false 0 p) 0 1 (0 * up p) (down p) (lit< tt) (down_pos p) (refl, refl) (refl, refl) h)

pub log_normal : (y : Float) → T (fits binary64 y) → T (lt nought y) → T (lt y (inf false)) → T (not (lt y tiny)) → log_of (digits_of (to_bits binary64 y)) (of (field_of (to_bits binary64 y)) ⊖ of 1023) ≡ log10_of y
unfolding lt log10_of
log_normal nan f h k l = absurd h
log_normal (inf true) f h k l = absurd h
log_normal (inf false) f h k l = absurd k
log_normal (fin true n p) f h k l = absurd h
log_normal (fin false zero p) f h k l = absurd (no_less p h)
log_normal (fin false (suc n) p) f h k l = normal n p f l

pub log_subnormal : (y : Float) → T (fits binary64 y) → T (lt nought y) → T (lt y tiny) → log_of (digits_of (to_bits binary64 (times54 y))) (of (field_of (to_bits binary64 (times54 y))) ⊖ of 1077) ≡ log10_of y
unfolding lt log10_of
log_subnormal nan f h l = absurd h
log_subnormal (inf true) f h l = absurd h
log_subnormal (inf false) f h l = absurd l
log_subnormal (fin true n p) f h l = absurd h
log_subnormal (fin false zero p) f h l = absurd (no_less p h)
log_subnormal (fin false (suc n) p) f h l = subnormal n p f l

-- ---- no NaN
pub above_number : (y : Float) → T (lt nought y) → T (not (is_nan y))
unfolding lt is_nan
above_number nan h = absurd h
above_number (inf s) h = tt
above_number (fin s n p) h = tt

pub raised_number : (y : Float) → T (fits binary64 y) → T (lt nought y) → T (lt y tiny) → T (not (is_nan (times54 y)))
unfolding lt
raised_number nan f h l = absurd h
raised_number (inf true) f h l = absurd h
raised_number (inf false) f h l = absurd l
raised_number (fin true n p) f h l = absurd h
raised_number (fin false zero p) f h l = absurd (no_less p h)
raised_number (fin false (suc n) p) f h l =
    let o = offset n p f in
    value_no_nan (times54 (fin false (suc n) p)) false (suc n * 2 ^ (o.0 + 54)) (2 ^ 1074) (raised n o.0 p (fits_says binary64 false n p f).1 o.1 (under n o.0 p o.1 l))
