-- The m and e that 01 names are the only ones (`split_one`): so its words alone fix log10, at every number above 0
-- (`log_of_split`). Assumes nothing.
use mathlib.Core.Path.{◌≡◌, refl, sym, ap, ◌∙◌, subst}
use Prim.Native.Nat.{ℕ, zero, suc, ◌+◌, ◌*◌, ◌^◌, ◌≤◌, ◌<◌}
use native.Mathlib.Nat.{lt_of_not-le, lt_of_lt_of_le, le_of_eq, mul-one, one-mul, mul-le-mul_right, mul-lt-mul_of_pos_right, mul-pos, eq_of_mul-eq-mul_right, pow-succ'}
use native.Mathlib.Omega.{arith}
use mathlib.Core.Bool.{true, false}
use lib.IntN.{ℤ, pos, negsuc}
use lib.Dec.{T, lit<}
use lib.Pow.{pow-add}
use lib.Ieee.{Float, nan, inf, fin, binary64, up, down, fits, of_int}
use lib.Ieee.Fits.{down_pos, up_pos, round-fits, nan-fits}
use lib.Ieee.Exact.{HasValue}
use lib.Ieee.Positive.{positive, positive_of_value, value_pos, between, num, den, own_value, den_pos}
use Rattle.float.specs.Ops.{fraction}
use Rattle.float.proofs.Digits.{pow_lt→lt}
use Rattle.float.proofs.Exactly.{unique, same_parts}
use Rattle.float.proofs.Compared.{lt→cross, le→value}
use Rattle.float.proofs.Cuts.{revalue}
use Rattle.float.proofs.Monotone.{lt_le}
use Rattle.logarithm.specs.Logarithm.{octave, mantissa_of, exponent_of, Split, log_of, log10_of}
use Rattle.logarithm.proofs.Octaves.{three_quarters, three_halves, same_value, split}

-- ---- two powers of two of which neither is twice the other

quotient : (e d : ℤ) → (i : ℕ) × (up e * down d ≡ 2 ^ i)
quotient (pos k) (pos l) = (k, mul-one (2 ^ k))
quotient (pos k) (negsuc l) = (k + suc l, sym (pow-add 2 k (suc l)))
quotient (negsuc k) (pos l) = (0, refl)
quotient (negsuc k) (negsuc l) = (suc l, one-mul (2 ^ suc l))

half_way : (i j : ℕ) → 2 ^ i < 2 * 2 ^ j → i < suc j
half_way i j h = pow_lt→lt i (suc j) (lt_of_lt_of_le h (le_of_eq (sym (pow-succ' 2 j))))

one_exponent : (e d : ℤ) → up e * down d < 2 * (up d * down e) → up d * down e < 2 * (up e * down d) → e ≡ d
one_exponent e d h g =
    let p = quotient e d in
    let q = quotient d e in
    let i = p.0 in
    let j = q.0 in
    let below : i < suc j = half_way i j (subst (λ (x : ℕ). x < 2 * 2 ^ j) p.1 (subst (λ (x : ℕ). up e * down d < 2 * x) q.1 h)) in
    let above : j < suc i = half_way j i (subst (λ (x : ℕ). x < 2 * 2 ^ i) q.1 (subst (λ (x : ℕ). up d * down e < 2 * x) p.1 g)) in
    let same : i ≡ j = omega arith in
    let level : up e * down d ≡ up d * down e = p.1 ∙ ap (λ (x : ℕ). 2 ^ x) same ∙ sym q.1 in
    (same_parts 1 1 e d refl refl (ap (λ (x : ℕ). x * down d) (one-mul (up e)) ∙ level ∙ ap (λ (x : ℕ). x * down e) (sym (one-mul (up d))))).1

-- ---- what 01 says of m, as a fraction a / c

record Parts (y m : Float) (e : ℤ) : Type 0 where
  a : ℕ
  c : ℕ
  some : 0 < a
  over : 0 < c
  low : 3 * c ≤ a * 4
  high : a * 2 < 3 * c
  value : HasValue m false a c
  whole : HasValue y false (a * up e) (c * down e)

parts : (y m : Float) (e : ℤ) → Split y m e → Parts y m e
parts y m e s =
    let lo = positive_of_value (fraction 3 4) 3 4 three_quarters (lit< tt) in
    let hi = positive_of_value (fraction 3 2) 3 2 three_halves (lit< tt) in
    let p = between (fraction 3 4) m (fraction 3 2) lo hi s.low (lt_le m (fraction 3 2) s.high) in
    let v = own_value m p in
    record {
      a = num m;
      c = den m;
      some = value_pos m (num m) (den m) p (den_pos m) v;
      over = den_pos m;
      low = le→value (fraction 3 4) m 3 4 (num m) (den m) (lit< tt) (den_pos m) three_quarters v s.low;
      high = lt→cross m (fraction 3 2) (num m) (den m) 3 2 (den_pos m) (lit< tt) v three_halves s.high;
      value = v;
      whole = s.value (num m) (den m) (den_pos m) v;
    }

-- a / c ≥ 3/4 and b / d < 3/2, so where a / c * P and b / d * Q are the same, P is below twice Q
below_twice : (a c b d P Q : ℕ) → 0 < a → 0 < Q → 3 * c ≤ a * 4 → b * 2 < 3 * d → a * d * P ≡ b * c * Q → P < 2 * Q
below_twice a c b d P Q A R h g e =
    lt_of_not-le (λ (k : 2 * Q ≤ P).
    let low : 3 * c * b ≤ a * 4 * b = mul-le-mul_right b h in
    let high : b * 2 * a < 3 * d * a = mul-lt-mul_of_pos_right g A in
    let both : b * c * Q < 2 * (a * d) * Q = mul-lt-mul_of_pos_right (omega arith) R in
    let more : 2 * Q * (a * d) ≤ P * (a * d) = mul-le-mul_right (a * d) k in
    omega arith)

module _ (y m m' : Float) (e e' : ℤ) (F : T (fits binary64 m)) (F' : T (fits binary64 m')) (s : Split y m e) (s' : Split y m' e') where
  level : (p : Parts y m e) (q : Parts y m' e') → p.a * q.c * (up e * down e') ≡ q.a * p.c * (up e' * down e)
  level p q =
      let same = same_value y false (p.a * up e) (p.c * down e) (q.a * up e') (q.c * down e') p.whole q.whole in
      omega arith

  one_power : (p : Parts y m e) (q : Parts y m' e') → e ≡ e'
  one_power p q =
      let same = level p q in
      one_exponent e e'
      (below_twice p.a p.c q.a q.c (up e * down e') (up e' * down e) p.some (mul-pos (up_pos e') (down_pos e)) p.low q.high same)
      (below_twice q.a q.c p.a p.c (up e' * down e) (up e * down e') q.some (mul-pos (up_pos e) (down_pos e')) q.low p.high (sym same))

  one_value : (p : Parts y m e) (q : Parts y m' e') → m ≡ m'
  one_value p q =
      let P = up e * down e' in
      let same : P ≡ up e' * down e = ap (λ (z : ℤ). up z * down e') (one_power p q) ∙ ap (λ (z : ℤ). up e' * down z) (sym (one_power p q)) in
      let cross : q.a * p.c ≡ p.a * q.c =
      eq_of_mul-eq-mul_right P (mul-pos (up_pos e) (down_pos e')) (q.a * p.c) (p.a * q.c) (ap (λ (x : ℕ). q.a * p.c * x) same ∙ sym (level p q)) in
      unique binary64 m m' false p.a p.c p.over F F' p.value (revalue m' false q.a q.c p.a p.c q.over cross q.value)

  pub split_one : (m ≡ m') × (e ≡ e')
  split_one = (one_value (parts y m e s) (parts y m' e' s'), one_power (parts y m e s) (parts y m' e' s'))

-- ---- so any m and e as 01 says are the definition's
mantissa_fits : (y : Float) → T (fits binary64 (mantissa_of y))
unfolding mantissa_of
mantissa_fits nan = nan-fits binary64
mantissa_fits (inf s) = nan-fits binary64
mantissa_fits (fin s n p) = round-fits binary64 false n (2 ^ octave n)

pub log_of_split : (y m : Float) (e : ℤ) → T (fits binary64 y) → T (fits binary64 m) → Split y m e → log10_of y ≡ log_of m (of_int binary64 e)
unfolding log10_of
log_of_split y m e G F s = go y G s (positive_of_value y (w.a * up e) (w.c * down e) w.whole (mul-pos w.some (up_pos e)))
  where
    w : Parts y m e
    w = parts y m e s

    go : (y : Float) → T (fits binary64 y) → Split y m e → T (positive y) → log10_of y ≡ log_of m (of_int binary64 e)
    go nan G s p = absurd p
    go (inf t) G s p = absurd p
    go (fin true n p) G s h = absurd h
    go (fin false zero p) G s h = absurd h
    go (fin false (suc n) p) G s h =
        let y = fin false (suc n) p in
        let only = split_one y (mantissa_of y) m (exponent_of y) e (mantissa_fits y) F (split n p G) s in
        ap (λ (x : Float). log_of x (of_int binary64 (exponent_of y))) only.0 ∙ ap (λ (x : ℤ). log_of m (of_int binary64 x)) only.1
