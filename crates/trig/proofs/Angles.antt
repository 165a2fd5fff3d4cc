-- Angles of size up to 7: x × (2048/π) is below 8192 in size, and what is left of x after the nearest place is as
-- well reached from the mark. Assumes nothing.
use Rattle.std.proofs.Common.{◌≡◌, ℕ, zero, suc, ◌*◌, ◌%◌, ◌^◌, ◌<◌, ◌≤◌, Bool, true, false, not, T, ltb, ℤ, pos, negsuc, sym, refl, ap, ◌∙◌, subst, inl, inr, zero-le, mul-pos, zero-mul, arith, lit<, lit≤, le-ltb, lt-ltb}
use lib.Ieee.{Float, nan, inf, fin, binary64, up, down, unlike, round, sum, sub, div, neg, le, of_int, to_bits, to_signed, is_nan}
use lib.Ieee.Bits.{is_true}
use lib.Ieee.Fits.{down_pos}
use lib.Ieee.Exact.{HasValue}
use lib.Ieee.Back.{round_whole}
use lib.Ieee.Order.{round_mono, le_of_values}
use lib.Ieee.Scale.{round_same}
use Rattle.float.specs.Ops.{of, ◌⊕◌, ◌⊖◌, ◌⊗◌, ◌⊘◌}
use Rattle.float.specs.Compare.{abs_of}
use Rattle.float.specs.Whole.{half_up, round_of, whole_by}
use Rattle.float.proofs.Exactly.{neg_round}
use Rattle.float.proofs.Compared.{yes, le→value}
use Rattle.trig.specs.Consts.{PI}
use Rattle.trig.specs.Circle.{scaled, placed, rest_of, index_of, within}
use Rattle.float.proofs.Counts.{whole_value}
use Rattle.float.proofs.Sums.{add_over, mul_over, sum_plus, sum_less}
use Rattle.trig.proofs.Fractions.{shape, value_no_nan}
use Rattle.trig.proofs.Marks.{mark, less, sum_of, gap, whole_plus, half_small, pattern, last_digits, sum_low}

-- ---- the two quotients of π
turns : of 2048 ⊘ PI ≡ fin false 5734161139222659 (negsuc 42)
unfolding PI div of_int
turns = refl

turns_value : HasValue (of 2048 ⊘ PI) false 5734161139222659 0x800_0000_0000
turns_value = subst (λ (z : Float). HasValue z false 5734161139222659 0x800_0000_0000) (sym turns) (refl, refl)

angle : PI ⊘ of 2048 ≡ fin false 884279719003555 (negsuc 58)
unfolding PI div of_int
angle = refl

angle_value : HasValue (PI ⊘ of 2048) false 884279719003555 (2 ^ 59)
angle_value = subst (λ (z : Float). HasValue z false 884279719003555 (2 ^ 59)) (sym angle) (refl, refl)

-- ---- x and x × (2048/π), of one sign
pub record Turned (x : Float) : Type 0 where
  pub sign : Bool
  pub m : ℕ
  pub e : ℤ
  pub is : x ≡ fin sign m e
  pub n : ℕ
  pub g : ℤ
  pub turned : scaled x ≡ fin sign n g
  pub bound : n * up g ≤ 8191 * down g

like : (s : Bool) → unlike s false ≡ s
like true = refl
like false = refl

seven_value : HasValue (of 7) false 7 1
seven_value = whole_value binary64 7 (lit≤ tt)

top_value : HasValue (round binary64 false 8191 1) false 8191 1
top_value = round_whole binary64 false 8191 (lit≤ tt)

no_infinity : T (le (inf false) (round binary64 false 8191 1)) → ⊥
unfolding le round
no_infinity t = t

turned_fin : (s : Bool) (m : ℕ) (e : ℤ) → T (le (fin false m e) (of 7)) → Turned (fin s m e)
turned_fin s m e h =
    let a = m * up e in
    let c = down e in
    let l : a * 1 ≤ 7 * c = le→value (fin false m e) (of 7) a c 7 1 (down_pos e) (lit< tt) (refl, refl) seven_value h in
    let is : scaled (fin s m e) ≡ round binary64 s (a * 5734161139222659) (c * 0x800_0000_0000) =
    mul_over binary64 (fin s m e) (of 2048 ⊘ PI) s false a c 5734161139222659 0x800_0000_0000 (down_pos e) (lit< tt) (refl, refl) turns_value
    ∙ ap (λ (z : Bool). round binary64 z (a * 5734161139222659) (c * 0x800_0000_0000)) (like s) in
    let b : T (le (round binary64 false (a * 5734161139222659) (c * 0x800_0000_0000)) (round binary64 false 8191 1)) =
    round_mono binary64 (a * 5734161139222659) (c * 0x800_0000_0000) 8191 1 (mul-pos (down_pos e) (lit< tt)) (lit< tt) (omega arith) in
    elim (shape binary64 (a * 5734161139222659) (c * 0x800_0000_0000)) [
      | inl w ↦ record {
        sign = s;
        m = m;
        e = e;
        is = refl;
        n = w.0;
        g = w.1;
        turned = is ∙ w.2 s;
        bound = within_top w.0 w.1 (subst (λ (z : Float). T (le z (round binary64 false 8191 1))) (w.2 false) b);
      }
      | inr w ↦ absurd (no_infinity (subst (λ (z : Float). T (le z (round binary64 false 8191 1))) (w false) b))
    ]
  where
    within_top : (n : ℕ) (g : ℤ) → T (le (fin false n g) (round binary64 false 8191 1)) → n * up g ≤ 8191 * down g
    within_top n g t =
        let k : n * up g * 1 ≤ 8191 * down g = le→value (fin false n g) (round binary64 false 8191 1) (n * up g) (down g) 8191 1 (down_pos g) (lit< tt) (refl, refl) top_value t in
        omega arith

pub turned_by : (x : Float) → le (abs_of x) (of 7) ≡ true → Turned x
unfolding abs_of le of_int
turned_by nan h = absurd (yes h)
turned_by (inf s) h = absurd (yes h)
turned_by (fin s m e) h = turned_fin s m e (yes h)

-- ---- x - i × (π/2048), as x + (mark - (i + mark)) × (π/2048)
zero_is : (u : Bool) → round binary64 u 0 1 ≡ fin u 0 (pos 0)
unfolding round
zero_is u = refl

nothing : (u : Bool) (p q : ℕ) → 0 < q → round binary64 u (0 * p) q ≡ fin u 0 (pos 0)
nothing u p q h = ap (λ (z : ℕ). round binary64 u z q) (zero-mul p) ∙ round_same binary64 u 0 q 0 1 h (lit< tt) (sym (zero-mul q)) ∙ zero_is u

-- a number that is not negative, with either zero
unmoved : (t : Bool) (a c : ℕ) → sum binary64 false a t 0 c ≡ round binary64 false a c
unmoved false a c = sum_plus binary64 false a 0 c ∙ ap (λ (x : ℕ). round binary64 false x c) (omega arith)
unmoved true a c = sum_less binary64 a 0 c zero-le ∙ ap (λ (x : ℕ). round binary64 false x c) (omega arith)

either_zero : (m : ℕ) (e : ℤ) → fin false m e ⊕ fin false 0 (pos 0) ≡ fin false m e ⊕ fin true 0 (pos 0)
either_zero m e = same false ∙ sym (same true)
  where
    same : (t : Bool) → fin false m e ⊕ fin t 0 (pos 0) ≡ round binary64 false (m * up e) (down e)
    same t =
        add_over binary64 (fin false m e) (fin t 0 (pos 0)) false t (m * up e) 0 (down e) (down_pos e) (refl, refl) (refl, zero-mul (down e))
        ∙ unmoved t (m * up e) (down e)

gap_is : (s : Bool) (n : ℕ) → n ≤ 8192 → gap (sum_of s n 1) ≡ n
gap_is true n h = omega arith
gap_is false n h = omega arith

minus_is : (s : Bool) (n p q : ℕ) → 0 < q → (k : Float) → n ≤ 8192 → HasValue k false p q → neg (round binary64 s n 1 ⊗ k) ≡ round binary64 (not s) (n * p) (1 * q)
minus_is s n p q Q k h v =
    ap neg (mul_over binary64 (round binary64 s n 1) k s false n 1 p q (lit< tt) Q (round_whole binary64 s n (omega arith)) v ∙ ap (λ (z : Bool). round binary64 z (n * p) (1 * q)) (like s))
    ∙ neg_round binary64 s (n * p) (1 * q)

step_is : (s : Bool) (n p q : ℕ) → 0 < q → (k : Float) → n ≤ 8192 → HasValue k false p q → (mark ⊖ (round binary64 s n 1 ⊕ mark)) ⊗ k ≡ round binary64 (ltb 0x18_0000_0000_0000 (sum_of s n 1)) (n * p) (1 * q)
step_is s n p q Q k h v =
    let t = ltb 0x18_0000_0000_0000 (sum_of s n 1) in
    ap (λ (z : Float). z ⊗ k) (less (round binary64 s n 1 ⊕ mark) (sum_of s n 1) (whole_plus s n h).1 ∙ ap (λ (z : ℕ). round binary64 t z 1) (gap_is s n h))
    ∙ mul_over binary64 (round binary64 t n 1) k t false n 1 p q (lit< tt) Q (round_whole binary64 t n (omega arith)) v
    ∙ ap (λ (z : Bool). round binary64 z (n * p) (1 * q)) (like t)

rest_open : (x y : Float) → x ⊖ y ≡ x ⊕ neg y
unfolding sub
rest_open x y = refl

left : (s : Bool) (m : ℕ) (e : ℤ) (n p q : ℕ) → 0 < q → (k : Float) → n ≤ 8192 → HasValue k false p q → fin s m e ⊕ (mark ⊖ (round binary64 s n 1 ⊕ mark)) ⊗ k ≡ fin s m e ⊖ round binary64 s n 1 ⊗ k
left true m e n p q Q k h v =
    ap (λ (z : Float). fin true m e ⊕ z)
    (step_is true n p q Q k h v ∙ ap (λ (z : Bool). round binary64 z (n * p) (1 * q)) (le-ltb 0x18_0000_0000_0000 (sum_of true n 1) (omega arith)) ∙ sym (minus_is true n p q Q k h v))
    ∙ sym (rest_open (fin true m e) (round binary64 true n 1 ⊗ k))
left false m e (suc n) p q Q k h v =
    ap (λ (z : Float). fin false m e ⊕ z)
    (step_is false (suc n) p q Q k h v ∙ ap (λ (z : Bool). round binary64 z (suc n * p) (1 * q)) (lt-ltb 0x18_0000_0000_0000 (sum_of false (suc n) 1) (omega arith)) ∙ sym (minus_is false (suc n) p q Q k h v))
    ∙ sym (rest_open (fin false m e) (round binary64 false (suc n) 1 ⊗ k))
left false m e zero p q Q k h v =
    let r : 0 < 1 * q = mul-pos (lit< tt) Q in
    ap (λ (z : Float). fin false m e ⊕ z) (step_is false zero p q Q k h v ∙ nothing false p (1 * q) r)
    ∙ either_zero m e
    ∙ ap (λ (z : Float). fin false m e ⊕ z) (sym (nothing true p (1 * q) r) ∙ sym (minus_is false zero p q Q k h v))
    ∙ sym (rest_open (fin false m e) (round binary64 false zero 1 ⊗ k))

-- ---- both parts of an angle, from w = mark + i
placed_is : (s : Bool) (n : ℕ) (g : ℤ) → round_of (fin s n g) ≡ round binary64 s (half_up (n * up g) (down g)) 1
unfolding round_of whole_by
placed_is s n g = refl

pub rest_is : (x w : Float) → le (abs_of x) (of 7) ≡ true → w ≡ placed x ⊕ mark → x ⊕ (mark ⊖ w) ⊗ (PI ⊘ of 2048) ≡ rest_of x
rest_is x w h q =
    let r = turned_by x h in
    let n = half_up (r.n * up r.g) (down r.g) in
    let i : placed x ≡ round binary64 r.sign n 1 = ap round_of r.turned ∙ placed_is r.sign r.n r.g in
    let k = PI ⊘ of 2048 in
    ap (λ (z : Float). x ⊕ (mark ⊖ z) ⊗ k) q
    ∙ ap (λ (z : Float). x ⊕ (mark ⊖ (z ⊕ mark)) ⊗ k) i
    ∙ ap (λ (z : Float). z ⊕ (mark ⊖ (round binary64 r.sign n 1 ⊕ mark)) ⊗ k) r.is
    ∙ left r.sign r.m r.e n 884279719003555 (2 ^ 59) (lit< tt) k (half_small (r.n * up r.g) (down r.g) (down_pos r.g) r.bound) angle_value
    ∙ ap (λ (z : Float). fin r.sign r.m r.e ⊖ z ⊗ k) (sym i)
    ∙ ap (λ (z : Float). z ⊖ placed x ⊗ k) (sym r.is)

pub place_is : (x w : Float) → le (abs_of x) (of 7) ≡ true → w ≡ placed x ⊕ mark → to_bits binary64 w % 4096 ≡ within (index_of x)
place_is x w h q =
    let r = turned_by x h in
    let n = half_up (r.n * up r.g) (down r.g) in
    let i : placed x ≡ round binary64 r.sign n 1 = ap round_of r.turned ∙ placed_is r.sign r.n r.g in
    let l : n ≤ 8192 = half_small (r.n * up r.g) (down r.g) (down_pos r.g) r.bound in
    let b = sum_low r.sign n l in
    ap (λ (z : Float). to_bits binary64 z % 4096) (q ∙ ap (λ (z : Float). z ⊕ mark) i)
    ∙ ap (λ (z : ℕ). z % 4096) (pattern (round binary64 r.sign n 1 ⊕ mark) (sum_of r.sign n 1) (whole_plus r.sign n l).1 b.0 b.1)
    ∙ last_digits r.sign n l
    ∙ ap (λ (z : Float). within (to_signed 63 z)) (sym i)

pub place_number : (x w : Float) → le (abs_of x) (of 7) ≡ true → w ≡ placed x ⊕ mark → T (not (is_nan w))
place_number x w h q =
    let r = turned_by x h in
    let n = half_up (r.n * up r.g) (down r.g) in
    let i : placed x ≡ round binary64 r.sign n 1 = ap round_of r.turned ∙ placed_is r.sign r.n r.g in
    let l : n ≤ 8192 = half_small (r.n * up r.g) (down r.g) (down_pos r.g) r.bound in
    subst (λ (z : Float). T (not (is_nan z))) (sym (q ∙ ap (λ (z : Float). z ⊕ mark) i))
    (value_no_nan (round binary64 r.sign n 1 ⊕ mark) false (sum_of r.sign n 1) 1 (whole_plus r.sign n l).1)

pub scaled_small : (x : Float) → le (abs_of x) (of 7) ≡ true → le (abs_of (scaled x)) (of 8191) ≡ true
unfolding abs_of of_int
scaled_small x h =
    let r = turned_by x h in
    ap (λ (z : Float). le (abs_of z) (of 8191)) r.turned
    ∙ is_true (le (fin false r.n r.g) (of 8191)) (le_of_values (fin false r.n r.g) (of 8191) (r.n * up r.g) (down r.g) 8191 1 (down_pos r.g) (lit< tt) (refl, refl) top_value (omega (arith, r.bound)))
