-- A whole number added to 1.5 · 2^52, the mark: the sum's last digits are the number's, and the sum of the mark and y
-- is that of the mark and `round_of y`, unless y lies half-way between two whole numbers. Assumes nothing.
use Rattle.std.proofs.Common.{◌≡◌, ℕ, zero, suc, ◌+◌, ◌-◌, ◌*◌, ◌/◌, ◌%◌, ◌^◌, ◌<◌, ◌≤◌, Bool, true, false, cond, not, ◌&&◌, T, ltb, ℤ, pos, negsuc, sym, refl, ap, ◌∙◌, subst, inl, inr, le_trans, le_of_eq, lt_of_lt_of_le, le_of_lt, mul-le-mul_right, mod-lt, suc-mul, div-lt_iff_lt-mul, add-mul, mul-le-mul, mul-lt-mul_of_pos_right, mul-pos, one-mul, lt_of_not-le, div-add-mod', mul-one, not-le_of_lt, mul-div_cancel, mul_left_comm, arith, lit<, lit≤, le→leb, ltb→lt, lt→ltb, nltb→le, pow_pos}
use native.Mathlib.Nat.{mul-mul-mul_comm}
use lib.Ieee.{Float, nan, inf, fin, binary64, up, down, size, unlike, round, sum, mul, lt, le, of_int, in_float, to_bits, to_signed, fits}
use lib.Ieee.Digits.{size-le}
use lib.Ieee.Fits.{down_pos, add-fits}
use lib.Ieee.Exact.{HasValue}
use lib.Ieee.Nearest.{closest}
use lib.Ieee.Back.{round_whole, positive_back, negative_back}
use Rattle.float.specs.Ops.{of, ◌⊕◌, ◌⊖◌, ◌⊗◌}
use Rattle.float.specs.Compare.{abs_of}
use Rattle.float.specs.Whole.{half_up, round_of, whole_by}
use Rattle.float.proofs.Exactly.{round_value}
use Rattle.float.proofs.Compared.{yes, cross→lt, le→value}
use Rattle.float.proofs.Cuts.{round_at_one, closest_bounds, revalue}
use Rattle.trig.specs.Circle.{within}
use Rattle.float.proofs.Counts.{whole_value}
use Rattle.float.proofs.Digits.{size_gt}
use Rattle.float.proofs.Sums.{add_over, sub_over, mul_over, sum_plus, sum_more}
use Rattle.trig.proofs.Patterns.{pattern_is}
use Rattle.trig.proofs.Fractions.{shape, under}

abbrev pub mark : Float
mark = of 0x18_0000_0000_0000

mark_value : HasValue mark false 0x18_0000_0000_0000 1
mark_value = whole_value binary64 0x18_0000_0000_0000 (lit≤ tt)

-- a whole number over any denominator
over : (x : Float) (s : Bool) (n c : ℕ) → HasValue x s n 1 → HasValue x s (n * c) c
over x s n c v = revalue x s n 1 (n * c) c (lit< tt) (sym (mul-one (n * c))) v

-- ---- a sum of two signs
sized : (s : Bool) (a b c : ℕ) (t : Bool) → (T t → a < b) → (T (not t) → b ≤ a) → (u : Bool) × (cond t (round binary64 (not s) (b - a) c) (round binary64 (s && ltb b a) (a - b) c) ≡ round binary64 u (a - b + (b - a)) c)
sized s a b c true h k = (not s, ap (λ (z : ℕ). round binary64 (not s) z c) (omega (arith, h tt)))
sized s a b c false h k = (s && ltb b a, ap (λ (z : ℕ). round binary64 (s && ltb b a) z c) (omega (arith, k tt)))

-- the size alone
apart : (s : Bool) (a b c : ℕ) → (u : Bool) × (sum binary64 s a (not s) b c ≡ round binary64 u (a - b + (b - a)) c)
unfolding sum
apart true a b c = sized true a b c (ltb a b) (ltb→lt a b) (nltb→le a b)
apart false a b c = sized false a b c (ltb a b) (ltb→lt a b) (nltb→le a b)

-- ---- y + mark
abbrev pub sum_of : Bool → ℕ → ℕ → ℕ
sum_of true a c = 0x18_0000_0000_0000 * c - a
sum_of false a c = a + 0x18_0000_0000_0000 * c

plus : (y : Float) (s : Bool) (a c : ℕ) → 0 < c → a ≤ 8192 * c → HasValue y s a c → y ⊕ mark ≡ round binary64 false (sum_of s a c) c
plus y true a c C h v =
    add_over binary64 y mark true false a (0x18_0000_0000_0000 * c) c C v (over mark false 0x18_0000_0000_0000 c mark_value)
    ∙ sum_more binary64 true a (0x18_0000_0000_0000 * c) c (omega arith)
plus y false a c C h v =
    add_over binary64 y mark false false a (0x18_0000_0000_0000 * c) c C v (over mark false 0x18_0000_0000_0000 c mark_value)
    ∙ sum_plus binary64 false a (0x18_0000_0000_0000 * c) c

-- it lies where binary64 has whole numbers alone
ranged : (s : Bool) (a c : ℕ) → 0 < c → a ≤ 8192 * c → (2 ^ 52 * c ≤ sum_of s a c) × (sum_of s a c < 2 ^ 53 * c)
ranged true a c C h = (omega arith, omega arith)
ranged false a c C h = (omega arith, omega arith)

-- ---- mark - w
abbrev pub gap : ℕ → ℕ
gap B = 0x18_0000_0000_0000 - B + (B - 0x18_0000_0000_0000)

pub less : (w : Float) (B : ℕ) → HasValue w false B 1 → mark ⊖ w ≡ round binary64 (ltb 0x18_0000_0000_0000 B) (gap B) 1
unfolding sum
less w B v =
    sub_over binary64 mark w false false 0x18_0000_0000_0000 B 1 (lit< tt) mark_value v
    ∙ go (ltb 0x18_0000_0000_0000 B) (ltb→lt 0x18_0000_0000_0000 B) (nltb→le 0x18_0000_0000_0000 B)
  where
    go : (t : Bool) → (T t → 0x18_0000_0000_0000 < B) → (T (not t) → B ≤ 0x18_0000_0000_0000) → cond t (round binary64 true (B - 0x18_0000_0000_0000) 1) (round binary64 false (0x18_0000_0000_0000 - B) 1) ≡ round binary64 t (gap B) 1
    go true h k = ap (λ (z : ℕ). round binary64 true z 1) (big B (h tt))
      where
        big : (B : ℕ) → 0x18_0000_0000_0000 < B → B - 0x18_0000_0000_0000 ≡ 0x18_0000_0000_0000 - B + (B - 0x18_0000_0000_0000)
        big B h = omega arith
    go false h k = ap (λ (z : ℕ). round binary64 false z 1) (small B (k tt))
      where
        small : (B : ℕ) → B ≤ 0x18_0000_0000_0000 → 0x18_0000_0000_0000 - B ≡ 0x18_0000_0000_0000 - B + (B - 0x18_0000_0000_0000)
        small B h = omega arith

gap_over : (B c : ℕ) → 0x18_0000_0000_0000 < B → gap B * c + 0x18_0000_0000_0000 * c ≡ B * c
gap_over B c h = sym (add-mul (gap B) 0x18_0000_0000_0000 c) ∙ ap (λ (z : ℕ). z * c) (omega (arith, h))

gap_under : (B c : ℕ) → B ≤ 0x18_0000_0000_0000 → gap B * c + B * c ≡ 0x18_0000_0000_0000 * c
gap_under B c h = sym (add-mul (gap B) B c) ∙ ap (λ (z : ℕ). z * c) (omega (arith, h))

-- ---- y + (mark - w): how far the whole number that w stands for is from y
abbrev apart_of : Bool → ℕ → ℕ → ℕ → ℕ
apart_of s a c B = sum_of s a c - B * c + (B * c - sum_of s a c)

-- the four cases of the two signs come to one size
sizes : (s t : Bool) (a c B : ℕ) → a ≤ 8192 * c → (T t → 0x18_0000_0000_0000 < B) → (T (not t) → B ≤ 0x18_0000_0000_0000) → (u : Bool) × (sum binary64 s a t (gap B * c) c ≡ round binary64 u (apart_of s a c B) c)
sizes true true a c B l h k =
    let g = gap_over B c (h tt) in
    let z : a + gap B * c ≡ apart_of true a c B = omega arith in
    (true, sum_plus binary64 true a (gap B * c) c ∙ ap (λ (z : ℕ). round binary64 true z c) z)
sizes false false a c B l h k =
    let g = gap_under B c (k tt) in
    let z : a + gap B * c ≡ apart_of false a c B = omega arith in
    (false, sum_plus binary64 false a (gap B * c) c ∙ ap (λ (z : ℕ). round binary64 false z c) z)
sizes true false a c B l h k =
    let g = gap_under B c (k tt) in
    let w = apart true a (gap B * c) c in
    let z : a - gap B * c + (gap B * c - a) ≡ apart_of true a c B = omega arith in
    (w.0, w.1 ∙ ap (λ (z : ℕ). round binary64 w.0 z c) z)
sizes false true a c B l h k =
    let g = gap_over B c (h tt) in
    let w = apart false a (gap B * c) c in
    let z : a - gap B * c + (gap B * c - a) ≡ apart_of false a c B = omega arith in
    (w.0, w.1 ∙ ap (λ (z : ℕ). round binary64 w.0 z c) z)

away : (y w : Float) (s : Bool) (a c B : ℕ) → 0 < c → a ≤ 8192 * c → HasValue y s a c → B ≤ 2 ^ 53 → HasValue w false B 1 → (u : Bool) × (y ⊕ (mark ⊖ w) ≡ round binary64 u (apart_of s a c B) c)
away y w s a c B C l v b q =
    let t = ltb 0x18_0000_0000_0000 B in
    let r = sizes s t a c B l (ltb→lt 0x18_0000_0000_0000 B) (nltb→le 0x18_0000_0000_0000 B) in (
      r.0,
      ap (λ (z : Float). y ⊕ z) (less w B q)
          ∙ add_over binary64 y (round binary64 t (gap B) 1) s t a (gap B * c) c C v (over (round binary64 t (gap B) 1) t (gap B) c (round_whole binary64 t (gap B) (omega (arith, b))))
          ∙ r.1,
    )

-- ---- a square below 1/4 is that of a number below 1/2, and so is the fraction that was rounded to it
unlike_self : (u : Bool) → unlike u u ≡ false
unlike_self true = refl
unlike_self false = refl

halved : (a c : ℕ) → a * a * 4 < c * c → a * 2 < c
halved a c h = lt_of_not-le (λ (k : c ≤ a * 2). not-le_of_lt h (le_trans (mul-le-mul k k) (le_of_eq (mul-mul-mul_comm a 2 a 2))))

square_infinite : (u : Bool) → T (lt (mul binary64 (inf u) (inf u)) (fin false 1 (negsuc 1))) → ⊥
unfolding mul lt
square_infinite true t = t
square_infinite false t = t

square : (d : Float) (u : Bool) (D c : ℕ) → 0 < c → d ≡ round binary64 u D c → T (lt (d ⊗ d) (fin false 1 (negsuc 1))) → 2 * D < c
unfolding fits
square d u D c C e h =
    elim (shape binary64 D c) [
      | inl w ↦ small w.0 w.1 (w.2 false) (subst (λ (z : Float). T (lt (z ⊗ z) (fin false 1 (negsuc 1)))) (e ∙ w.2 u) h)
      | inr w ↦ absurd (square_infinite u (subst (λ (z : Float). T (lt (z ⊗ z) (fin false 1 (negsuc 1)))) (e ∙ w u) h))
    ]
  where
    small : (m : ℕ) (g : ℤ) → round binary64 false D c ≡ fin false m g → T (lt (fin u m g ⊗ fin u m g) (fin false 1 (negsuc 1))) → 2 * D < c
    small m g r t =
        let a = m * up g in
        let b = down g in
        let q : a * a * 4 < 1 * (b * b) =
        under binary64 (a * a) (b * b) 1 (negsuc 1) (mul-pos (down_pos g) (down_pos g)) tt
        (subst (λ (z : Float). T (lt z (fin false 1 (negsuc 1)))) (mul_over binary64 (fin u m g) (fin u m g) u u a b a b (down_pos g) (down_pos g) (refl, refl) (refl, refl) ∙ ap (λ (z : Bool). round binary64 z (a * a) (b * b)) (unlike_self u)) t) in
        let p : a * 2 < b = halved a b (lt_of_lt_of_le q (le_of_eq (one-mul (b * b)))) in
        let l : T (lt (round binary64 false D c) (fin false 1 (negsuc 0))) =
        subst (λ (z : Float). T (lt z (fin false 1 (negsuc 0)))) (sym r) (cross→lt (fin false m g) (fin false 1 (negsuc 0)) a b 1 2 (down_pos g) (lit< tt) (refl, refl) (refl, refl) (lt_of_lt_of_le p (le_of_eq (sym (one-mul b))))) in
        let o : D * 2 < 1 * c = under binary64 D c 1 (negsuc 0) C tt l in
        omega arith

-- ---- the nearest whole number
next : (X B c : ℕ) → suc X ≤ B → X * c + c ≤ B * c
next X B c l = le_trans (le_of_eq (sym (suc-mul X c))) (mul-le-mul_right c l)

-- one whole number alone is nearer to p / c than a half
only : (p c B X : ℕ) → 2 * (p - B * c + (B * c - p)) < c → 2 * (p - X * c + (X * c - p)) ≤ c → B ≡ X
only p c B X h k =
    let l : B < suc X = lt_of_not-le (λ (l : suc X ≤ B). let n = next X B c l in omega arith) in
    let m : X < suc B = lt_of_not-le (λ (l : suc B ≤ X). let n = next B X c l in omega arith) in
    omega arith

-- a / c to the nearest, a half up
halves : (a c : ℕ) → 0 < c → (2 * (half_up a c * c) ≤ 2 * a + c) × (2 * a < 2 * (half_up a c * c) + c)
halves a c C =
    let n = half_up a c in
    let e : n * (2 * c) + (2 * a + c) % (2 * c) ≡ 2 * a + c = div-add-mod' (2 * a + c) (2 * c) in
    let l : (2 * a + c) % (2 * c) < 2 * c = mod-lt (2 * a + c) (omega arith) in
    let t : n * (2 * c) ≡ 2 * (n * c) = mul_left_comm n 2 c in
    (omega arith, omega arith)

pub half_small : (a c : ℕ) → 0 < c → a ≤ 8191 * c → half_up a c ≤ 8192
half_small a c C h =
    let r = halves a c C in
    let l : half_up a c < 8193 = lt_of_not-le (λ (k : 8193 ≤ half_up a c). let g : 8193 * c ≤ half_up a c * c = mul-le-mul_right c k in omega arith) in
    omega arith

nearest_is : (s : Bool) (a c B : ℕ) → 0 < c → a ≤ 8191 * c → 2 * apart_of s a c B < c → B ≡ sum_of s (half_up a c) 1
nearest_is true a c B C l h =
    let n = half_up a c in
    let r = halves a c C in
    let b = half_small a c C l in
    let e : (0x18_0000_0000_0000 - n) * c + n * c ≡ 0x18_0000_0000_0000 * c = sym (add-mul (0x18_0000_0000_0000 - n) n c) ∙ ap (λ (z : ℕ). z * c) (omega arith) in
    only (sum_of true a c) c B (0x18_0000_0000_0000 - n) h (omega arith)
nearest_is false a c B C l h =
    let n = half_up a c in
    let r = halves a c C in
    let e : (n + 0x18_0000_0000_0000) * c ≡ n * c + 0x18_0000_0000_0000 * c = add-mul n 0x18_0000_0000_0000 c in
    only (sum_of false a c) c B (n + 0x18_0000_0000_0000) h (omega arith)

pub sum_low : (s : Bool) (n : ℕ) → n ≤ 8192 → (2 ^ 52 ≤ sum_of s n 1) × (sum_of s n 1 < 2 ^ 53)
sum_low true n h = (omega arith, omega arith)
sum_low false n h = (omega arith, omega arith)

-- n as a float with the sign s, and the mark
pub whole_plus : (s : Bool) (n : ℕ) → n ≤ 8192 → (round binary64 s n 1 ⊕ mark ≡ round binary64 false (sum_of s n 1) 1) × HasValue (round binary64 s n 1 ⊕ mark) false (sum_of s n 1) 1
whole_plus s n h =
    let e = plus (round binary64 s n 1) s n 1 (lit< tt) (omega arith) (round_whole binary64 s n (omega arith)) in
    let l = (sum_low s n h).1 in (
      e,
      subst (λ (z : Float). HasValue z false (sum_of s n 1) 1) (sym e) (round_whole binary64 false (sum_of s n 1) (le_of_lt l)),
    )

abbrev quarter : Float
quarter = fin false 1 (negsuc 1)

-- the sum of the mark and y is that of the mark and y to the nearest
pub marks : (y : Float) (s : Bool) (a c : ℕ) → 0 < c → a ≤ 8191 * c → HasValue y s a c → (d : Float) → d ≡ y ⊕ (mark ⊖ (y ⊕ mark)) → T (lt (d ⊗ d) quarter) → y ⊕ mark ≡ round binary64 s (half_up a c) 1 ⊕ mark
marks y s a c C l v d e h =
    let n = half_up a c in
    let z = sum_of s a c in
    let B = closest z c in
    let k : a ≤ 8192 * c = omega arith in
    let is : y ⊕ mark ≡ round binary64 false z c = plus y s a c C k v in
    let r = ranged s a c C k in
    let w : HasValue (y ⊕ mark) false B 1 = subst (λ (x : Float). HasValue x false B 1) (sym is) (round_at_one z c C r.0 r.1) in
    let few : B ≤ 2 ^ 53 = omega (arith, (closest_bounds z c).1, (div-lt_iff_lt-mul C).1 r.1) in
    let u = away y (y ⊕ mark) s a c B C k v few w in
    let same : B ≡ sum_of s n 1 = nearest_is s a c B C l (square d u.0 (apart_of s a c B) c C (e ∙ u.1) h) in
    sym (round_value binary64 (y ⊕ mark) false B 1 (lit< tt) (add-fits binary64 y mark) w)
    ∙ ap (λ (x : ℕ). round binary64 false x 1) same
    ∙ sym (whole_plus s n (half_small a c C l)).0

-- ---- the bit pattern of a whole number from 2^52 up to 2^53: the number, with 1074 in the exponent's field above it
pub pattern : (w : Float) (B : ℕ) → HasValue w false B 1 → 2 ^ 52 ≤ B → B < 2 ^ 53 → to_bits binary64 w ≡ 0x4320_0000_0000_0000 + B
pattern w B v l h =
    let k : size (B * 2 ^ 1074) - 53 ≡ 1074 = omega (arith, size_gt (B * 2 ^ 1074) 1126 (mul-le-mul_right (2 ^ 1074) l), size-le (B * 2 ^ 1074) 1127 (mul-lt-mul_of_pos_right h (pow_pos 1074))) in
    pattern_is w (B * 2 ^ 1074) (revalue w false B 1 (B * 2 ^ 1074) (2 ^ 1074) (lit< tt) (sym (mul-one (B * 2 ^ 1074))) v)
    ∙ ap (λ (z : ℕ). z * 2 ^ 52 + B * 2 ^ 1074 / 2 ^ z) k
    ∙ ap (λ (z : ℕ). 0x4320_0000_0000_0000 + z) (mul-div_cancel B (pow_pos 1074))

-- its last 12 digits: the number within one turn
signed_zero : to_signed 63 (round binary64 true 0 1) ≡ pos 0
unfolding to_signed round
signed_zero = refl

pub in_float_lem : (n : ℕ) → n ≤ 2 ^ 53 → T (in_float binary64 (pos n))
unfolding in_float
in_float_lem n h = le→leb n (2 ^ 53) h

signed_pos : (n : ℕ) → n ≤ 8192 → to_signed 63 (round binary64 false n 1) ≡ pos n
unfolding of_int
signed_pos n h = (positive_back binary64 63 n (in_float_lem n (omega arith)) (omega arith)).1

in_float_minus : (k : ℕ) → k < 8192 → T (in_float binary64 (negsuc k))
unfolding in_float
in_float_minus k h = lt→ltb k (2 ^ 53) (omega arith)

signed_minus : (k : ℕ) → k < 8192 → to_signed 63 (round binary64 true (suc k) 1) ≡ negsuc k
unfolding of_int
signed_minus k h = (negative_back binary64 63 k (in_float_minus k h) (omega arith)).1

pub last_digits : (s : Bool) (n : ℕ) → n ≤ 8192 → (0x4320_0000_0000_0000 + sum_of s n 1) % 4096 ≡ within (to_signed 63 (round binary64 s n 1))
unfolding within
last_digits false n h = rw (signed_pos n h) (omega arith)
last_digits true zero h = rw signed_zero refl
last_digits true (suc k) h = rw (signed_minus k (omega arith)) (omega arith)

pub top_bound : (m : ℕ) (e : ℤ) → T (le (fin false m e) (of 8191)) → m * up e ≤ 8191 * down e
top_bound m e h =
    let k : m * up e * 1 ≤ 8191 * down e = le→value (fin false m e) (of 8191) (m * up e) (down e) 8191 1 (down_pos e) (lit< tt) (refl, refl) (whole_value binary64 8191 (lit≤ tt)) h in
    omega arith

pub marked_is : (y : Float) → le (abs_of y) (of 8191) ≡ true → T (lt ((y ⊕ (mark ⊖ (y ⊕ mark))) ⊗ (y ⊕ (mark ⊖ (y ⊕ mark)))) quarter) → y ⊕ mark ≡ round_of y ⊕ mark
unfolding abs_of le of_int round_of whole_by
marked_is nan h t = absurd (yes h)
marked_is (inf s) h t = absurd (yes h)
marked_is (fin s m e) h t = marks (fin s m e) s (m * up e) (down e) (down_pos e) (top_bound m e (yes h)) (refl, refl) (fin s m e ⊕ (mark ⊖ (fin s m e ⊕ mark))) refl t
