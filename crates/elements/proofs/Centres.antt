-- Centres of windows, and the times of crossings between them (02, N8). The f64 computed for a centre is exactly half
-- of `twice_centre` (`centre_is`); the time of a crossing at i lies from the centre at i − 1 to the centre at i
-- (`crossed_between`): what lies between two numbers of halves is rounded to what lies between them, since both are
-- values of the format. Of two values, one whose upper end is not above the other's lower end is not above the other
-- (`between_le`), and below it if the ends differ (`between_lt`). Assumes nothing.
use mathlib.Core.Path.{◌≡◌, refl, sym, ap, ◌∙◌, subst}
use mathlib.Core.Logic.{◌⊎◌, inl, inr, ⊎_elim}
use mathlib.Core.Bool.{Bool, true, false}
use Prim.Native.Nat.{ℕ, ◌+◌, ◌-◌, ◌*◌, ◌^◌, ◌≤◌, ◌<◌}
use native.Mathlib.Nat.{mul-one, mul_assoc, mul_comm, mul_right_comm, mul-pos, mul-le-mul, mul-le-mul_right, le_of_mul-le-mul_right}
use native.Mathlib.Omega.{arith}
use lib.Dec.{lit≤, lit<}
use lib.IntN.{negsuc}
use lib.Ieee.{Float, nan, inf, fin, binary64, up, down, round, sum, lt, le}
use lib.Ieee.Bits.{is_true}
use lib.Ieee.Exact.{HasValue}
use lib.Ieee.Order.{round_mono, le_of_values}
use lib.Ieee.Positive.{num, den, den_pos}
use Rattle.lists.proofs.Every.{and_left, and_right}
use Rattle.float.specs.Ops.{◌⊕◌, ◌⊖◌, ◌⊘◌, of, one, two}
use Rattle.float.proofs.Literals.{literals}
use Rattle.float.proofs.Exactly.{few_exact}
use Rattle.float.proofs.Compared.{le→value, cross→lt, yes}
use Rattle.float.proofs.Sums.{add_over, div_over, sum_plus, sum_less}
use Rattle.float.proofs.Counts.{whole_value, whole_sub}
use Rattle.float.proofs.Signs.{signed_value, round_signed}
use Rattle.float.proofs.Bounds.{Bounded, round_bounded, bounded_finite}
use Rattle.float.proofs.Parts.{Part, part_mul}
use Rattle.float.proofs.Amounts.{Amount, Crosses, share_part}
use Rattle.row.specs.Window.{centre_of}
use Rattle.elements.specs.Keying.{upward, downward, crossed_at}
use Rattle.elements.specs.Times.{twice_centre, LiesBetween}

-- ---- a fraction between two numbers of halves is rounded to what lies between them

-- half of a whole number is an f64
half_exact : (n : ℕ) → n < 2 ^ 53 → HasValue (round binary64 false n 2) false n 2
half_exact n h = few_exact binary64 false n (negsuc 0) (lit≤ tt) h

round_between : (lo hi n d : ℕ) → 0 < d → lo < 2 ^ 53 → hi < 2 ^ 53 → lo * d ≤ 2 * n → 2 * n ≤ hi * d → LiesBetween lo hi (round binary64 false n d)
round_between lo hi n d D L H h g =
    let x = round binary64 false n d in
    let v : HasValue x false (num x) (den x) = signed_value false x (round_signed binary64 false n d) (bounded_finite (round_bounded 0 hi false n d D (omega arith) (lit≤ tt) (omega arith))) in
    let low = le→value (round binary64 false lo 2) x lo 2 (num x) (den x) (lit< tt) (den_pos x) (half_exact lo L) v (round_mono binary64 lo 2 n d (lit< tt) D (omega arith)) in
    let high = le→value x (round binary64 false hi 2) (num x) (den x) hi 2 (den_pos x) (lit< tt) v (half_exact hi H) (round_mono binary64 n d hi 2 D (lit< tt) (omega arith)) in
    record { a = num x; c = den x; some = den_pos x; value = v; from = omega arith; to = omega arith }

-- ---- two values, the upper end of one and the lower end of the other

module _ {lo m n hi : ℕ} {x y : Float} (v : LiesBetween lo m x) (w : LiesBetween n hi y) where
  cross : (2 * (v.a * w.c) ≤ m * (v.c * w.c)) × (n * (v.c * w.c) ≤ 2 * (w.a * v.c))
  cross =
      let p = mul-le-mul_right w.c v.to in
      let q = mul-le-mul_right v.c w.from in
      (omega arith, omega arith)

  pub between_le : m ≤ n → le x y ≡ true
  between_le h =
      let p = cross.0 in
      let q = cross.1 in
      let on : m * (v.c * w.c) ≤ n * (v.c * w.c) = mul-le-mul_right (v.c * w.c) h in
      is_true (le x y) (le_of_values x y v.a v.c w.a w.c v.some w.some v.value w.value (omega arith))

  pub between_lt : m < n → lt x y ≡ true
  between_lt h =
      let p = cross.0 in
      let q = cross.1 in
      let on : (m + 1) * (v.c * w.c) ≤ n * (v.c * w.c) = mul-le-mul_right (v.c * w.c) (omega arith) in
      let some : 0 < v.c * w.c = mul-pos v.some w.some in
      is_true (lt x y) (cross→lt x y v.a v.c w.a w.c v.some w.some v.value w.value (omega arith))

-- a value that lies between is no larger than its upper end
pub between_bounded : (b : ℕ) {lo hi : ℕ} {x : Float} → hi ≤ 2 * b → LiesBetween lo hi x → Bounded 0 b x
between_bounded b {lo} {hi} {x} h v = go x v.value
  where
    under : (p q r s : ℕ) → p * s ≡ q * r → 2 * q ≤ hi * s → 0 < s → p ≤ b * 1 * r
    under p q r s same to some =
        let far = mul-le-mul_right s h in
        let l : 2 * q ≤ 2 * (b * s) = omega arith in
        let wide = mul-le-mul_right r l in
        le_of_mul-le-mul_right {k = s} (omega arith) some

    go : (x : Float) → HasValue x false v.a v.c → Bounded 0 b x
    go nan w = absurd w
    go (inf t) w = absurd w
    go (fin t m e) w = record { bound = under (m * up e) v.a (down e) v.c w.1 v.to v.some }

-- ---- centres

scaled : (x : Float) (s : Bool) (a c k : ℕ) → HasValue x s a c → HasValue x s (a * k) (c * k)
scaled nan s a c k v = v
scaled (inf t) s a c k v = v
scaled (fin t m e) s a c k v = (v.0, sym (mul_assoc (m * up e) c k) ∙ ap (λ (z : ℕ). z * k) v.1 ∙ mul_right_comm a (down e) k)

-- The f64 computed for a centre is exactly half of `twice_centre`.
pub centre_is : (step i : ℕ) → 0 < step → step ≤ 64 → i ≤ 2 ^ 20 → HasValue (centre_of (i * step) (8 * step)) false (twice_centre step i) 2
centre_is step i a b h =
    let far : i * step ≤ 2 ^ 20 * 64 = mul-le-mul h b in
    let first : HasValue (of (i * step)) false (i * step * 2) 2 = scaled (of (i * step)) false (i * step) 1 2 (whole_value binary64 (i * step) (omega arith)) in
    let less : of (8 * step) ⊖ one ≡ of (8 * step - 1) = ap (λ (z : Float). of (8 * step) ⊖ z) literals.3 ∙ whole_sub binary64 (8 * step) 1 (omega arith) (omega arith) in
    let halved : (of (8 * step) ⊖ one) ⊘ two ≡ round binary64 false (8 * step - 1) 2 =
    ap (λ (z : Float). z ⊘ two) less
    ∙ ap (λ (z : Float). of (8 * step - 1) ⊘ z) literals.4
    ∙ div_over binary64 (of (8 * step - 1)) (of 2) false false (8 * step - 1) 1 2 1 (lit< tt) (lit< tt) (lit< tt) (whole_value binary64 (8 * step - 1) (omega arith)) (whole_value binary64 2 (lit≤ tt))
    ∙ ap (λ (z : ℕ). round binary64 false z 2) (mul-one (8 * step - 1)) in
    let rest : HasValue ((of (8 * step) ⊖ one) ⊘ two) false (8 * step - 1) 2 = rw halved (half_exact (8 * step - 1) (omega arith)) in
    rw (add_over binary64 (of (i * step)) ((of (8 * step) ⊖ one) ⊘ two) false false (i * step * 2) (8 * step - 1) 2 (lit< tt) first rest, sum_plus binary64 false (i * step * 2) (8 * step - 1) 2, mul_comm (i * step) 2)
    (half_exact (2 * (i * step) + (8 * step - 1)) (omega arith))

-- ---- the time of a crossing

-- a number of halves and a part of b, added
part_add : (m b hi : ℕ) (x y : Float) → hi ≡ m + 2 * b → hi < 2 ^ 53 → HasValue x false m 2 → Part b y → LiesBetween m hi (x ⊕ y)
part_add m b hi x y e h v p =
    let most = p.most in
    let to : hi * (2 * p.d) ≡ (m + 2 * b) * (2 * p.d) = ap (λ (z : ℕ). z * (2 * p.d)) e in
    subst (LiesBetween m hi) (sym (is p.sign p.value p.clear))
    (round_between m hi (m * p.d + p.n * 2) (2 * p.d) (omega (arith, p.some)) (omega arith) h (omega arith) (omega arith))
  where
    is : (s : Bool) → HasValue y s p.n p.d → (s ≡ true → p.n ≡ 0) → x ⊕ y ≡ round binary64 false (m * p.d + p.n * 2) (2 * p.d)
    is s w z =
        let D : 0 < 2 * p.d = omega (arith, p.some) in
        let u = scaled x false m 2 p.d v in
        let t : HasValue y s (p.n * 2) (2 * p.d) = subst (HasValue y s (p.n * 2)) (mul_comm p.d 2) (scaled y s p.n p.d 2 w) in
        add_over binary64 x y false s (m * p.d) (p.n * 2) (2 * p.d) D u t ∙ go s z
      where
        go : (s : Bool) → (s ≡ true → p.n ≡ 0) → sum binary64 false (m * p.d) s (p.n * 2) (2 * p.d) ≡ round binary64 false (m * p.d + p.n * 2) (2 * p.d)
        go false z = sum_plus binary64 false (m * p.d) (p.n * 2) (2 * p.d)
        go true z =
            let none = z refl in
            sum_less binary64 (m * p.d) (p.n * 2) (2 * p.d) (omega arith) ∙ ap (λ (k : ℕ). round binary64 false k (2 * p.d)) (omega arith)

-- a crossing at i, of either kind
abbrev pub Crossed : (ℕ → Float) → Float → ℕ → Type 0
Crossed row thr i = (upward row thr i ≡ true) ⊎ (downward row thr i ≡ true)

crosses : (row : ℕ → Float) (thr : Float) (i : ℕ) → Crossed row thr i → Crosses (row (i - 1)) (row i) thr
unfolding upward downward
crosses row thr i h =
    ⊎_elim
    (λ u. inl (yes (and_left (lt (row (i - 1)) thr) (le thr (row i)) u), yes (and_right (lt (row (i - 1)) thr) (le thr (row i)) u)))
    (λ d. inr (yes (and_left (le thr (row (i - 1))) (lt (row i) thr) d), yes (and_right (le thr (row (i - 1))) (lt (row i) thr) d)))
    h

-- The time of a crossing at i lies from the centre at i − 1 to the centre at i, ends included.
pub crossed_between : (row : ℕ → Float) (thr : Float) (step i : ℕ) → 0 < step → step ≤ 64 → 0 < i → i ≤ 2 ^ 20 → Amount (row (i - 1)) → Amount (row i) → Amount thr → Crossed row thr i
    → LiesBetween (twice_centre step (i - 1)) (twice_centre step i) (crossed_at row thr step i)
unfolding crossed_at
crossed_between row thr step i S s p h x y t c =
    let far : (i - 1) * step ≤ 2 ^ 20 * 64 = mul-le-mul {n₁ = i - 1} {n₂ = 2 ^ 20} (omega arith) s in
    let e : i ≡ i - 1 + 1 = omega arith in
    let on : i * step ≡ (i - 1 + 1) * step = ap (λ (z : ℕ). z * step) e in
    part_add (twice_centre step (i - 1)) step (twice_centre step i) _ _ (omega arith) (omega arith)
    (centre_is step (i - 1) S s (omega arith))
    (part_mul step _ (omega arith) (share_part (row (i - 1)) (row i) thr x y t (crosses row thr i c)))
