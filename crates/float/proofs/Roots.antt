-- `isqrt` is the root, and `root_of` at a number that is written with just enough digits. Assumes nothing.
use Rattle.std.proofs.Common.{◌≡◌, ℕ, zero, suc, ◌+◌, ◌-◌, ◌*◌, ◌/◌, ◌^◌, ◌<◌, ◌≤◌, Bool, true, false, cond, not, T, leb, sym, refl, ap, ◌∙◌, subst, le_trans, le_of_eq, lt_of_lt_of_le, le_of_suc-le-suc, lt_of_le_of_lt, mul-le-mul_right, mul_assoc, lt-suc_self, div-lt_iff_lt-mul, mul-le-mul, lt_of_mul-lt-mul_right, mul-pos, pow-suc, div-mul-le_self, le_of_mul-le-mul_right, add-one, arith, lit≤, leb→le, pow_pos, pow-add}
use Prim.Native.Nat.{compare, Ordering}
use native.Mathlib.Nat.{mul-mul-mul_comm, eq_of_mul-eq-mul_right}
use Rattle.std.proofs.Math.Nat.{pow-le-pow_left}
use lib.Dec.{nleb→lt}
use lib.Ieee.{Float, Format, prec, size, nearest, units}
use lib.Ieee.Digits.{size-lt}
use lib.Ieee.Fits.{two}
use Rattle.float.specs.Root.{digit, root, isqrt, root_of}
use Rattle.float.proofs.Digits.{size_exact, Cmp, cmp}
use Rattle.float.proofs.Squares.{NearRoot, square_lt_back, near_unique}

-- ---- the largest q with q * q at most n

pub record IsRoot (n q : ℕ) : Type 0 where
  pub least : q * q ≤ n
  pub most : n < (q + 1) * (q + 1)

digit_is : (n h : ℕ) → IsRoot (n / 4) h → IsRoot n (digit h n)
digit_is n h k = go (leb ((2 * h + 1) * (2 * h + 1)) n) (leb→le ((2 * h + 1) * (2 * h + 1)) n) (nleb→lt ((2 * h + 1) * (2 * h + 1)) n)
  where
    go : (b : Bool) → (T b → (2 * h + 1) * (2 * h + 1) ≤ n) → (T (not b) → n < (2 * h + 1) * (2 * h + 1)) → IsRoot n (cond b (2 * h + 1) (2 * h))
    go true y z = record { least = y tt; most = omega (arith, k.most) }
    go false y z = record { least = omega (arith, k.least); most = z tt }

root_is : (d n : ℕ) → n < 4 ^ d → IsRoot n (root d n)
unfolding root
root_is zero n h = record { least = omega arith; most = omega arith }
root_is (suc d) n h = digit_is n (root d (n / 4)) (root_is d (n / 4) ((div-lt_iff_lt-mul {k = 4} (lit≤ tt)).1 (subst (λ (x : ℕ). n < x) (pow-suc 4 d) h)))

pub isqrt_is : (n : ℕ) → IsRoot n (isqrt n)
unfolding isqrt
isqrt_is n = root_is (size n) n (lt_of_lt_of_le (size-lt n) (pow-le-pow_left (lit≤ tt) (size n)))

-- ---- the root of p * u ^ 2, cut by u, is the root of p

cut : (p u w : ℕ) → 0 < u → IsRoot (p * (u * u)) w → IsRoot p (w / u)
cut p u w h k =
    let q = w / u in
    let lo : q * q * (u * u) ≤ p * (u * u) = le_trans (le_of_eq (mul-mul-mul_comm q q u u)) (le_trans (mul-le-mul (div-mul-le_self w u) (div-mul-le_self w u)) k.least) in
    let up : w + 1 ≤ (q + 1) * u = subst (λ (x : ℕ). x ≤ (q + 1) * u) (sym (add-one w)) (subst (λ (x : ℕ). suc w ≤ x * u) (sym (add-one q)) ((div-lt_iff_lt-mul h).0 (lt-suc_self q))) in
    let hi : p * (u * u) < (q + 1) * (q + 1) * (u * u) = lt_of_lt_of_le k.most (le_trans (mul-le-mul up up) (le_of_eq (sym (mul-mul-mul_comm (q + 1) (q + 1) u u)))) in
    record { least = le_of_mul-le-mul_right lo (mul-pos h h); most = lt_of_mul-lt-mul_right (u * u) hi }

-- ---- how many digits a number has

-- a number w whose part above its k lowest digits has p digits
size_over : (p k w : ℕ) → 0 < p → 2 ^ (p - 1) ≤ w / 2 ^ k → w / 2 ^ k < 2 ^ p → size w - p ≡ k
size_over p k w h lo hi =
    let low : 2 ^ (p - 1 + k) ≤ w = subst (λ (x : ℕ). x ≤ w) (sym (pow-add 2 (p - 1) k)) (le_trans (mul-le-mul_right (2 ^ k) lo) (div-mul-le_self w (2 ^ k))) in
    let up : w < 2 ^ (p + k) = subst (λ (x : ℕ). w < x) (sym (pow-add 2 p k)) ((div-lt_iff_lt-mul (pow_pos k)).0 hi) in
    let e : p + k ≡ suc (p - 1 + k) = omega arith in
    let s : size w ≡ suc (p - 1 + k) = size_exact (p - 1 + k) w low (subst (λ (i : ℕ). w < 2 ^ i) e up) in
    omega arith

-- ---- the nearest whole number, by how the half-way point's square compares

nearest_is : (p q u : ℕ) (o : Ordering) → 0 < u → 0 < q → IsRoot p q → Cmp o (4 * (p * (u * u))) ((2 * q + 1) * u * ((2 * q + 1) * u)) → NearRoot p (nearest q o)
nearest_is p q u o h z k c = go o c
  where
    half : (2 * q + 1) * u * ((2 * q + 1) * u) ≡ (2 * q + 1) * (2 * q + 1) * (u * u)
    half = mul-mul-mul_comm (2 * q + 1) u (2 * q + 1) u

    four : 4 * (p * (u * u)) ≡ 4 * p * (u * u)
    four = sym (mul_assoc 4 p (u * u))

    go : (o : Ordering) → Cmp o (4 * (p * (u * u))) ((2 * q + 1) * u * ((2 * q + 1) * u)) → NearRoot p (nearest q o)
    go Ordering.lt l =
        let m : 4 * p < (2 * q + 1) * (2 * q + 1) = lt_of_mul-lt-mul_right (u * u) (subst (λ (x : ℕ). x < (2 * q + 1) * (2 * q + 1) * (u * u)) four (subst (λ (x : ℕ). 4 * (p * (u * u)) < x) half l)) in
        record { above = omega (arith, k.least); below = omega arith }
    go Ordering.eq e =
        let m : 4 * p ≡ (2 * q + 1) * (2 * q + 1) = eq_of_mul-eq-mul_right (u * u) (mul-pos h h) (4 * p) ((2 * q + 1) * (2 * q + 1)) (sym four ∙ e ∙ half) in
        absurd (omega (arith, m))
    go Ordering.gt l =
        let m : (2 * q + 1) * (2 * q + 1) < 4 * p = lt_of_mul-lt-mul_right (u * u) (subst (λ (x : ℕ). (2 * q + 1) * (2 * q + 1) * (u * u) < x) four (subst (λ (x : ℕ). x < 4 * (p * (u * u))) half l)) in
        subst (λ (x : ℕ). NearRoot p x) (add-one q) (record { above = omega arith; below = omega (arith, k.most) })

-- ---- `root_of` at p * 4 ^ k, for a p whose root has just the format's digits, is the whole number nearest to p's root

rounded : Format → ℕ → ℕ → Float
rounded f n k = units f false (nearest (isqrt n / 2 ^ k) (compare (4 * n) ((2 * (isqrt n / 2 ^ k) + 1) * 2 ^ k * ((2 * (isqrt n / 2 ^ k) + 1) * 2 ^ k)))) k

root_of_is : (f : Format) (n : ℕ) → root_of f n ≡ rounded f n (size (isqrt n) - prec f)
unfolding root_of rounded
root_of_is f n = refl

pub root_at : (f : Format) (p k c : ℕ) → 2 ^ (prec f - 1) * 2 ^ (prec f - 1) ≤ p → p < 2 ^ prec f * 2 ^ prec f → NearRoot p c → root_of f (p * (2 ^ k * 2 ^ k)) ≡ units f false c k
unfolding rounded
root_at f p k c lo hi h =
    let n = p * (2 ^ k * 2 ^ k) in
    let q = isqrt n / 2 ^ k in
    let r : IsRoot p q = cut p (2 ^ k) (isqrt n) (pow_pos k) (isqrt_is n) in
    let q-lo : 2 ^ (prec f - 1) ≤ q = le_of_suc-le-suc (subst (λ (x : ℕ). 2 ^ (prec f - 1) < x) (add-one q) (square_lt_back (2 ^ (prec f - 1)) (q + 1) (lt_of_le_of_lt lo r.most))) in
    let q-hi : q < 2 ^ prec f = square_lt_back q (2 ^ prec f) (lt_of_le_of_lt r.least hi) in
    let s : size (isqrt n) - prec f ≡ k = size_over (prec f) k (isqrt n) (lt_of_lt_of_le (lit≤ tt) (two f)) q-lo q-hi in
    let near : NearRoot p (nearest q (compare (4 * n) ((2 * q + 1) * 2 ^ k * ((2 * q + 1) * 2 ^ k)))) =
    nearest_is p q (2 ^ k) (compare (4 * n) ((2 * q + 1) * 2 ^ k * ((2 * q + 1) * 2 ^ k))) (pow_pos k) (lt_of_lt_of_le (pow_pos (prec f - 1)) q-lo) r (cmp (4 * n) ((2 * q + 1) * 2 ^ k * ((2 * q + 1) * 2 ^ k))) in
    root_of_is f n
    ∙ ap (rounded f n) s
    ∙ ap (λ (x : ℕ). units f false x k) (near_unique p (nearest q (compare (4 * n) ((2 * q + 1) * 2 ^ k * ((2 * q + 1) * 2 ^ k)))) c near h)
