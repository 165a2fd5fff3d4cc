-- A fraction of whole numbers n / c rounded to p digits, a tie to the even number: what is nearest of the numbers
-- with p digits and zeros after them. `Best`, `best`: for what `round` computes, in units of the format's smallest
-- value. And the largest finite value, and the power of two after it. Assumes nothing.
use Rattle.std.proofs.Common.{◌≡◌, ℕ, suc, ◌+◌, ◌-◌, ◌*◌, ◌/◌, ◌%◌, ◌^◌, ◌<◌, ◌≤◌, Bool, true, false, cond, ◌⊎◌, sym, refl, ap, ◌∙◌, subst, inl, inr, ⊎_elim, le_trans, le_of_eq, le_refl, le_of_suc-le-suc, lt_of_le_of_lt, le_of_lt, mul-le-mul_right, mod-lt, mul_assoc, le_antisymm, lt_of_mul-lt-mul_right, eq-or-lt_of_le, mul-lt-mul_of_pos_right, mul-pos, one-mul, pow-suc, lt_of_not-le, div-add-mod', le-div_iff_mul-le, mul-one, mul_right_comm, div-mul-le_self, le_of_mul-le-mul_right, mul-div_cancel, arith, pow_pos, pow-add, shl_lt}
use Prim.Native.Nat.{compare, Ordering}
use native.Mathlib.Nat.{eq_of_mul-eq-mul_right, div-div-eq-div-mul}
use native.Mathlib.Decide.{dec_le}
use lib.Pow.{pow-lt}
use lib.Ieee.{Float, nan, inf, fin, Format, prec, emax, low, up, down, size, nearest, hid, ones, top, to_bits}
use lib.Ieee.Digits.{size-le, size_reaches}
use lib.Ieee.Exact.{HasValue}
use lib.Ieee.Fits.{down_pos, two, two-le_pos, reach, kept-lt, nearest-le}
use lib.Ieee.Nearest.{closest, nearest-ge}
use lib.Ieee.Order.{drop, kept}
use lib.Ieee.Scale.{grid, overflow}
use Rattle.float.specs.Nearest.{last_digit, Closer}
use Rattle.float.proofs.Digits.{Cmp, cmp, size_gt, size_exact, pow_split}
use Rattle.float.proofs.Meaning.{Digits, multiple}

-- ---- the whole number nearest to n / u: no more than a half of u away, and even where it is a half

record Half (n u q : ℕ) : Type 0 where
  most : 2 * n ≤ 2 * (q * u) + u
  least : 2 * (q * u) ≤ 2 * n + u
  tie_up : 2 * n ≡ 2 * (q * u) + u → q % 2 ≡ 0
  tie_down : 2 * (q * u) ≡ 2 * n + u → q % 2 ≡ 0

half : (n u : ℕ) → 0 < u → Half n u (closest n u)
half n u U = go (n / u) (n % u) (div-add-mod' n u) (mod-lt n U) (compare (n % u * 2) u) (cmp (n % u * 2) u)
  where
    go : (q t : ℕ) → q * u + t ≡ n → t < u → (o : Ordering) → Cmp o (t * 2) u → Half n u (nearest q o)
    go q t e l Ordering.lt h = record { most = omega arith; least = omega arith; tie_up = λ g. omega arith; tie_down = λ g. omega arith }
    go q t e l Ordering.eq h =
        let o : q % 2 * u ≤ 1 * u = mul-le-mul_right u (omega arith) in
        record { most = omega arith; least = omega arith; tie_up = λ g. omega arith; tie_down = λ g. omega arith }
    go q t e l Ordering.gt h = record { most = omega arith; least = omega arith; tie_up = λ g. omega arith; tie_down = λ g. omega arith }

-- ---- the last digit

-- what is left of m * 2 ^ z without its last z digits
pub cut_off : (r m z : ℕ) → r ≡ m * 2 ^ z → r / 2 ^ z % 2 ≡ m % 2
cut_off r m z e = ap (λ (x : ℕ). x % 2) (ap (λ (x : ℕ). x / 2 ^ z) e ∙ mul-div_cancel m (pow_pos z))

-- it is the last bit of the value's pattern
pub last_bit : (f : Format) (x : Float) (s : Bool) (r : ℕ) → HasValue x s r (2 ^ low f) → to_bits f x % 2 ≡ last_digit f r
unfolding to_bits
last_bit f nan s r v = absurd v
last_bit f (inf t) s r v = absurd v
last_bit f (fin t m e) s r v =
    let n : m * up e * 2 ^ low f / down e ≡ r = ap (λ (z : ℕ). z / down e) v.1 ∙ mul-div_cancel r (down_pos e) in
    let h : 2 ^ (prec f - 1) ≡ 2 ^ (prec f - 2) * 2 = let s : prec f - 1 ≡ suc (prec f - 2) = omega (arith, two f) in ap (λ (i : ℕ). 2 ^ i) s ∙ pow-suc 2 (prec f - 2) in
    let k = size r - prec f in
    ap (λ (z : ℕ). (cond t (top f) 0 + (size z - prec f) * hid f + z / 2 ^ (size z - prec f)) % 2) n
    ∙ ap (λ (H : ℕ). (cond t (H * suc (ones f)) 0 + k * H + r / 2 ^ k) % 2) h
    ∙ fields t (2 ^ (prec f - 2)) (suc (ones f)) k (r / 2 ^ k)
  where
    fields : (t : Bool) (h o k d : ℕ) → (cond t (h * 2 * o) 0 + k * (h * 2) + d) % 2 ≡ d % 2
    fields true h o k d = omega arith
    fields false h o k d = omega arith

-- q * 2 ^ k ends as q does, if q has at most p digits; and 2 ^ p is written with one zero less
even_last : (p k q : ℕ) → 2 ≤ p → q ≤ 2 ^ p → q % 2 ≡ 0 → q * 2 ^ k / 2 ^ (size (q * 2 ^ k) - p) % 2 ≡ 0
even_last p k q P h e = go (size (q * 2 ^ k)) (size_reaches (q * 2 ^ k) (p + k)) (size-le (q * 2 ^ k) (suc (p + k)) (lt_of_le_of_lt most (pow-lt (le_refl (suc (p + k)))))) (dec_le (size (q * 2 ^ k)) (p + k))
  where
    most : q * 2 ^ k ≤ 2 ^ (p + k)
    most = le_trans (mul-le-mul_right (2 ^ k) h) (le_of_eq (sym (pow-add 2 p k)))

    go : (z : ℕ) → (p + k < z → 2 ^ (p + k) ≤ q * 2 ^ k) → z ≤ suc (p + k) → Dec (z ≤ p + k) → q * 2 ^ k / 2 ^ (z - p) % 2 ≡ 0
    go z r w (yes l) =
        let i = k - (z - p) in
        let s : k ≡ i + (z - p) = omega arith in
        let twos : q * 2 ^ i ≡ q / 2 * 2 ^ i * 2 = ap (λ (x : ℕ). x * 2 ^ i) (omega (arith, e)) ∙ mul_right_comm (q / 2) 2 (2 ^ i) in
        cut_off (q * 2 ^ k) (q * 2 ^ i) (z - p) (ap (λ (j : ℕ). q * 2 ^ j) s ∙ sym (pow_split q i (z - p)))
        ∙ omega (arith, twos)
    go z r w (no l) =
        let g = lt_of_not-le l in
        let s : p + k ≡ suc (p - 2) + (z - p) = omega arith in
        cut_off (q * 2 ^ k) (2 ^ suc (p - 2)) (z - p) (le_antisymm most (r g) ∙ ap (λ (j : ℕ). 2 ^ j) s ∙ pow-add 2 (suc (p - 2)) (z - p))
        ∙ omega (arith, pow-suc 2 (p - 2))

-- a value of the format that is an odd g times 2 ^ k ends as g does, if all p digits are in use
odd_last : (p k g b : ℕ) → 0 < p → Digits p b → b ≡ g * 2 ^ k → g % 2 ≡ 1 → (k ≡ 0) ⊎ (2 ^ (p - 1) * 2 ^ k ≤ b) → b / 2 ^ (size b - p) % 2 ≡ 1
odd_last p k g b P d e o deep =
    let short : d.j ≤ k = le_of_suc-le-suc (lt_of_not-le (λ (l : suc k ≤ d.j). ends l)) in
    let most = size-le b (p + d.j) (subst (λ (x : ℕ). x < 2 ^ (p + d.j)) (sym d.is) (shl_lt p d.j d.few)) in
    let z : size b - p ≡ k = elim deep [
      | inl n ↦ omega arith
      | inr l ↦ let least = size_gt b (p - 1 + k) (le_trans (le_of_eq (pow-add 2 (p - 1) k)) l) in omega arith
    ] in
    cut_off b g (size b - p) (e ∙ ap (λ (i : ℕ). g * 2 ^ i) (sym z)) ∙ o
  where
    ends : k < d.j → ⊥
    ends l =
        let i = d.j - suc k in
        let s : d.j ≡ suc i + k = omega arith in
        omega (
          arith,
          eq_of_mul-eq-mul_right (2 ^ k) (pow_pos k) g (d.m * 2 ^ i * 2)
              (sym e ∙ d.is ∙ ap (λ (j : ℕ). d.m * 2 ^ j) s ∙ sym (pow_split d.m (suc i) k) ∙ ap (λ (x : ℕ). d.m * x * 2 ^ k) (pow-suc 2 i) ∙ ap (λ (x : ℕ). x * 2 ^ k) (sym (mul_assoc d.m (2 ^ i) 2))),
        )

-- ---- n / c, in units, rounded to q * 2 ^ k, against a number b of p digits and zeros. Where digits are dropped, all p
-- are in use.

-- l is less than g; or they are the same, and q is even, and the last digit of b is odd
abbrev Beaten : ℕ → ℕ → ℕ → ℕ → ℕ → Type 0
Beaten p q b l g = (l < g) ⊎ ((l ≡ g) × (q % 2 ≡ 0) × (b / 2 ^ (size b - p) % 2 ≡ 1))

module _ (p k n c q b : ℕ) (P : 0 < p) (C : 0 < c) (d : Digits p b) (near : Half n (c * 2 ^ k) q) (deep : (k ≡ 0) ⊎ (2 ^ (p - 1) ≤ n / (c * 2 ^ k))) (q-ge : n / (c * 2 ^ k) ≤ q) where
  above_by : (g : ℕ) → b ≡ g * 2 ^ k → (k ≡ 0) ⊎ (2 ^ (p - 1) * 2 ^ k ≤ b) → q * 2 ^ k < b → Beaten p q b (2 * n) ((q * 2 ^ k + b) * c)
  above_by g e full l =
      let u = 2 ^ k in
      let more : q < g = lt_of_mul-lt-mul_right u (subst (λ (x : ℕ). q * u < x) e l) in
      let step : suc q * u ≤ g * u = mul-le-mul_right u more in
      let wide : (2 * q + 1) * u * c ≤ (q * u + b) * c = mul-le-mul_right c (omega arith) in
      let m = near.most in
      let reached : 2 * n ≤ (q * u + b) * c = omega arith in
      elim (eq-or-lt_of_le reached) [
        | inl h ↦
            let even = near.tie_up (omega arith) in
            let same : b * c ≡ g * u * c = ap (λ (x : ℕ). x * c) e in
            let back : g * u * c ≤ (q + 1) * u * c = omega arith in
            let next : g ≤ q + 1 = le_of_mul-le-mul_right (le_of_mul-le-mul_right back C) (pow_pos k) in
            inr (h, even, odd_last p k g b P d e (omega arith) full)
        | inr h ↦ inl h
      ]

  above : q * 2 ^ k < b → Beaten p q b (2 * n) ((q * 2 ^ k + b) * c)
  above l =
      elim deep [
        | inl z ↦ above_by b (sym (ap (λ (i : ℕ). b * 2 ^ i) z ∙ mul-one b)) (inl z) l
        | inr m ↦
            let full : 2 ^ (p - 1) * 2 ^ k ≤ b = le_trans (mul-le-mul_right (2 ^ k) (le_trans m q-ge)) (le_of_lt l) in
            let g = multiple p k b P d full in
            above_by g.0 g.1 (inr full) l
      ]

  -- b is at most the value below q * 2 ^ k, and where it is that value, all p digits are in use
  next : b < q * 2 ^ k → n < q * (c * 2 ^ k) → (b + 2 ^ k ≤ q * 2 ^ k) × (b + 2 ^ k ≡ q * 2 ^ k → (k ≡ 0) ⊎ (2 ^ (p - 1) * 2 ^ k ≤ b))
  next l h =
      elim deep [
        | inl z ↦ (subst (λ (i : ℕ). b + 2 ^ i ≤ q * 2 ^ k) (sym z) (omega arith), λ e. inl z)
        | inr m ↦
            let less : n / (c * 2 ^ k) < q = lt_of_mul-lt-mul_right (c * 2 ^ k) (lt_of_le_of_lt (div-mul-le_self n (c * 2 ^ k)) h) in
            let step : suc (2 ^ (p - 1)) * 2 ^ k ≤ q * 2 ^ k = mul-le-mul_right (2 ^ k) (lt_of_le_of_lt m less) in
            (go step (dec_le (2 ^ (p - 1) * 2 ^ k) b), λ e. inr (omega arith))
      ]
    where
      go : suc (2 ^ (p - 1)) * 2 ^ k ≤ q * 2 ^ k → Dec (2 ^ (p - 1) * 2 ^ k ≤ b) → b + 2 ^ k ≤ q * 2 ^ k
      go step (yes a) =
          let g = multiple p k b P d a in
          let is = g.1 in
          let less : g.0 < q = lt_of_mul-lt-mul_right (2 ^ k) (subst (λ (x : ℕ). x < q * 2 ^ k) g.1 l) in
          let up : suc g.0 * 2 ^ k ≤ q * 2 ^ k = mul-le-mul_right (2 ^ k) less in
          omega arith
      go step (no a) = let under = lt_of_not-le a in omega arith

  below : b < q * 2 ^ k → Beaten p q b ((q * 2 ^ k + b) * c) (2 * n)
  below l = go (dec_le (q * (c * 2 ^ k)) n)
    where
      some : 0 < q
      some = lt_of_mul-lt-mul_right (2 ^ k) {m = 0} {n = q} (lt_of_le_of_lt (omega arith) l)

      less : b + 2 ^ k ≡ q * 2 ^ k → b ≡ (q - 1) * 2 ^ k
      less e = let p = some in let s : q ≡ q - 1 + 1 = omega arith in let t : q * 2 ^ k ≡ (q - 1 + 1) * 2 ^ k = ap (λ (x : ℕ). x * 2 ^ k) s in omega arith

      go : Dec (q * (c * 2 ^ k) ≤ n) → Beaten p q b ((q * 2 ^ k + b) * c) (2 * n)
      go (yes h) = let less : b * c < q * 2 ^ k * c = mul-lt-mul_of_pos_right l C in inl (omega arith)
      go (no h) =
          let w = next l (lt_of_not-le h) in
          let step : (b + 2 ^ k) * c ≤ q * 2 ^ k * c = mul-le-mul_right c w.0 in
          let m = near.least in
          let reached : (q * 2 ^ k + b) * c ≤ 2 * n = omega arith in
          elim (eq-or-lt_of_le reached) [
            | inl e ↦
                let even = near.tie_down (omega arith) in
                let back : q * 2 ^ k * c ≤ (b + 2 ^ k) * c = omega arith in
                let is : b + 2 ^ k ≡ q * 2 ^ k = le_antisymm w.0 (le_of_mul-le-mul_right back C) in
                let s = some in
                inr (e, even, odd_last p k (q - 1) b P d (less is) (omega arith) (w.1 is))
            | inr e ↦ inl e
          ]

-- ---- in units the fraction is n / c, and the result r. Of the numbers with as many digits as the format has, however
-- large, none is as near; or one is, and r is even

pub record Best (f : Format) (n c r : ℕ) : Type 0 where
  pub above : (b : ℕ) → Digits (prec f) b → r < b → Closer f r b (2 * n) ((r + b) * c)
  pub below : (b : ℕ) → Digits (prec f) b → b < r → Closer f r b ((r + b) * c) (2 * n)

-- where digits are dropped, the quotient has p digits
quotient_full : (p n c : ℕ) → 0 < p → (drop p n c ≡ 0) ⊎ (2 ^ (p - 1) ≤ n / (c * 2 ^ drop p n c))
quotient_full p n c P = go (dec_le (size (n / c)) p)
  where
    go : Dec (size (n / c) ≤ p) → (drop p n c ≡ 0) ⊎ (2 ^ (p - 1) ≤ n / (c * 2 ^ drop p n c))
    go (yes l) = inl (omega arith)
    go (no l) =
        let k = drop p n c in
        let more = lt_of_not-le l in
        inr
        (subst (λ (x : ℕ). 2 ^ (p - 1) ≤ x) (div-div-eq-div-mul n c (2 ^ k))
        ((le-div_iff_mul-le (pow_pos k)).1 (le_trans (le_of_eq (sym (pow-add 2 (p - 1) k))) (size_reaches (n / c) (p - 1 + k) (omega arith)))))

pub best : (f : Format) (a c : ℕ) → 0 < c → Best f (a * 2 ^ low f) c (grid f a c)
best f a c C =
    let p = prec f in
    let n = a * 2 ^ low f in
    let k = drop p n c in
    let u = c * 2 ^ k in
    let q = kept p n c in
    let P = two-le_pos p (two f) in
    let near = half n u (mul-pos C (pow_pos k)) in
    let deep = quotient_full p n c P in
    let q-ge = nearest-ge (n / u) (compare (n % u * 2) u) in
    let q-le : q ≤ 2 ^ p = le_trans (nearest-le (n / u) (compare (n % u * 2) u)) (subst (λ (x : ℕ). x < 2 ^ p) (div-div-eq-div-mul n c (2 ^ k)) (kept-lt p (n / c))) in
    record {
      above = λ b d l. ⊎_elim inl (λ h. inr (h.0, even_last p k q (two f) q-le h.1, h.2)) (above p k n c q b P C d near deep q-ge l);
      below = λ b d l. ⊎_elim inl (λ h. inr (h.0, even_last p k q (two f) q-le h.1, h.2)) (below p k n c q b P C d near deep q-ge l);
    }

-- ---- the largest finite value, in units, and the power of two after it

abbrev pub highest : Format → ℕ
highest f = suc (emax f) - prec f + low f

unfoldable pub largest : Format → ℕ
largest f = (2 ^ prec f - 1) * 2 ^ highest f

module _ (f : Format) where
  exponents : low f + suc (emax f) ≡ prec f + highest f
  exponents = omega (arith, reach f)

  pub next_is : overflow f ≡ 2 ^ prec f * 2 ^ highest f
  next_is = ap (λ (i : ℕ). 2 ^ i) exponents ∙ pow-add 2 (prec f) (highest f)

  pub largest_lt : largest f < overflow f
  unfolding largest
  largest_lt = subst (λ (x : ℕ). largest f < x) (sym next_is) (mul-lt-mul_of_pos_right (omega (arith, pow_pos (prec f))) (pow_pos (highest f)))

  pub largest_digits : Digits (prec f) (largest f)
  unfolding largest
  largest_digits = record { m = 2 ^ prec f - 1; j = highest f; is = refl; few = omega (arith, pow_pos (prec f)) }

  pub next_digits : Digits (prec f) (overflow f)
  next_digits = record { m = 1; j = low f + suc (emax f); is = sym (one-mul (overflow f)); few = pow-lt {i = 0} (two-le_pos (prec f) (two f)) }

  half_power : 2 ^ prec f ≡ 2 ^ (prec f - 1) * 2
  half_power = let s : prec f ≡ suc (prec f - 1) = omega (arith, two f) in ap (λ (i : ℕ). 2 ^ i) s ∙ pow-suc 2 (prec f - 1)

  -- its digits are all ones
  pub largest_odd : last_digit f (largest f) ≡ 1
  unfolding largest
  largest_odd =
      let p = prec f in
      let k = highest f in
      let h = half_power in
      let lo : 2 ^ (p - 1 + k) ≤ largest f = le_trans (le_of_eq (pow-add 2 (p - 1) k)) (mul-le-mul_right (2 ^ k) (omega (arith, pow_pos (p - 1)))) in
      let s : low f + suc (emax f) ≡ suc (p - 1 + k) = omega (arith, exponents, two f) in
      let z : size (largest f) - p ≡ k = ap (λ (i : ℕ). i - p) (size_exact (p - 1 + k) (largest f) lo (subst (λ (i : ℕ). largest f < 2 ^ i) s largest_lt)) ∙ omega (arith, two f) in
      cut_off (largest f) (2 ^ p - 1) (size (largest f) - p) (ap (λ (i : ℕ). (2 ^ p - 1) * 2 ^ i) (sym z)) ∙ omega (arith, pow_pos (p - 1))

  pub largest_most : (r : ℕ) → Digits (prec f) r → r < overflow f → r ≤ largest f
  unfolding largest
  largest_most r d l = go (dec_le (2 ^ (prec f - 1) * 2 ^ highest f) r)
    where
      go : Dec (2 ^ (prec f - 1) * 2 ^ highest f ≤ r) → r ≤ (2 ^ prec f - 1) * 2 ^ highest f
      go (yes a) =
          let g = multiple (prec f) (highest f) r (two-le_pos (prec f) (two f)) d a in
          let less : g.0 < 2 ^ prec f = lt_of_mul-lt-mul_right (2 ^ highest f) (subst (λ (x : ℕ). x < 2 ^ prec f * 2 ^ highest f) g.1 (subst (λ (x : ℕ). r < x) next_is l)) in
          le_trans (le_of_eq g.1) (mul-le-mul_right (2 ^ highest f) (omega arith))
      go (no a) = le_trans (le_of_lt (lt_of_not-le a)) (mul-le-mul_right (2 ^ highest f) (omega (arith, half_power, pow_pos (prec f - 1))))
