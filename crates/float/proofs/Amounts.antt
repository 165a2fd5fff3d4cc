-- Amounts: f64 values that are finite and have the sign plus, so neither a NaN nor an infinity, nothing below zero
-- and no -0.0. The root of an amount is one, and so is its half,
-- and so is a sum of two squares that does not overflow. Where a line from a0 to a1 crosses a threshold, as a share
-- of the way, lies from 0 to 1 (`share_part`):
-- the difference of two different f64 is never rounded to zero. Assumes nothing.
use Rattle.std.proofs.Common.{◌≡◌, ℕ, zero, suc, ◌+◌, ◌-◌, ◌*◌, ◌^◌, ◌<◌, ◌≤◌, Bool, true, false, cond, not, T, ltb, ◌⊎◌, sym, refl, ap, ◌∙◌, subst, ⊎_elim, true≢false, le_trans, le_of_eq, lt_of_lt_of_le, mul-le-mul_right, zero-lt-suc, lt_of_mul-lt-mul_right, eq-or-lt_of_le, mul-le-mul_left, mul-pos, one-mul, zero-mul, le_of_mul-le-mul_right, arith, lit<, lit≤, ltb→lt, nltb→le, pow_pos, le-ltb, lt-ltb}
use mathlib.Core.Bool.{false≢true}
use lib.Ieee.{Float, nan, inf, fin, binary64, unlike, up, down, round, sum, mul, lt, le, of_bits, fits, is_nan}
use lib.Ieee.Fits.{down_pos, round-fits, add-fits}
use lib.Ieee.Exact.{HasValue, round_exact}
use lib.Ieee.Order.{round_mono}
use lib.Ieee.Bits.{is_false}
use lib.Ieee.Scale.{finite}
use lib.Ieee.Positive.{num, den, den_pos, first_pos}
use Rattle.float.specs.Ops.{◌⊕◌, ◌⊖◌, ◌⊗◌, ◌⊘◌, plus_zero, half}
use Rattle.float.specs.Root.{sqrt_of}
use Rattle.float.proofs.Exactly.{neg_round, round_value, fits_says, exponent}
use Rattle.float.proofs.Compared.{lt→cross, le→value}
use Rattle.float.proofs.Sums.{sub_over, div_over, neg_value}
use Rattle.float.proofs.Meaning.{root_of_units}
use Rattle.float.proofs.Signs.{Signed, signed_value, round_signed, number_signed, add_signed, square_signed}
use Rattle.float.proofs.Monotone.{signed_le}
use Rattle.float.proofs.Bounds.{Bounded, bounded_finite, bounded_mul, bounded_add, finite_number}
use Rattle.float.proofs.Parts.{Part, round_none, round_part}

-- finite, with the sign plus
abbrev pub unsigned : Float → Bool
unsigned nan = false
unsigned (inf s) = false
unsigned (fin s m e) = not s

pub record Amount (x : Float) : Type 0 where
  pub plus : T (unsigned x)
  pub held : T (fits binary64 x)

unsigned_finite : (x : Float) → T (unsigned x) → T (finite x)
unsigned_finite nan h = h
unsigned_finite (inf s) h = h
unsigned_finite (fin s m e) h = tt

pub amount_finite : {x : Float} → Amount x → T (finite x)
amount_finite {x} h = unsigned_finite x h.plus

pub amount_not_nan : {x : Float} → Amount x → T (not (is_nan x))
amount_not_nan {x} h = finite_number x (amount_finite h)

unsigned_signed : (x : Float) → T (unsigned x) → Signed false x
unsigned_signed nan h = h
unsigned_signed (inf s) h = absurd h
unsigned_signed (fin true m e) h = absurd h
unsigned_signed (fin false m e) h = refl

pub amount_above : {x : Float} → Amount x → T (le plus_zero x)
unfolding of_bits
amount_above {x} h = signed_le x (unsigned_signed x h.plus)

pub amount_number : {x : Float} → Amount x → is_nan x ≡ false
amount_number {x} h = is_false (is_nan x) (amount_not_nan h)

-- what is finite and has the sign plus
unsigned_of : (x : Float) → Signed false x → T (finite x) → T (unsigned x)
unsigned_of nan s h = h
unsigned_of (inf t) s h = h
unsigned_of (fin true m e) s h = absurd (true≢false s)
unsigned_of (fin false m e) s h = tt

-- ---- an amount counts a whole number of the smallest values

pub record Counts (x : Float) : Type 0 where
  pub count : ℕ
  pub value : HasValue x false count (2 ^ 1074)

pub amount_counts : (x : Float) → Amount x → Counts x
amount_counts nan h = absurd h.plus
amount_counts (inf s) h = absurd h.plus
amount_counts (fin true m e) h = absurd h.plus
amount_counts (fin false zero e) h = record { count = 0; value = (refl, ap (λ (x : ℕ). x * 2 ^ 1074) (zero-mul (up e)) ∙ zero-mul (2 ^ 1074) ∙ sym (zero-mul (down e))) }
amount_counts (fin false (suc m) e) h =
    let j = exponent binary64 (suc m) e (fits_says binary64 false m e h.held).2 in
    record { count = suc m * 2 ^ j.0; value = (refl, j.1) }

-- ---- the root

value_unsigned : (x : Float) (a c : ℕ) → HasValue x false a c → T (unsigned x)
value_unsigned nan a c v = v
value_unsigned (inf s) a c v = v
value_unsigned (fin true m e) a c v = absurd (true≢false v.0)
value_unsigned (fin false m e) a c v = tt

pub amount_root : (x : Float) → Amount x → Amount (sqrt_of binary64 x)
amount_root nan h = absurd h.plus
amount_root (inf s) h = absurd h.plus
amount_root (fin true m e) h = absurd h.plus
amount_root (fin false zero e) h = unfold sqrt_of in h
amount_root (fin false (suc m) e) h =
    let j = exponent binary64 (suc m) e (fits_says binary64 false m e h.held).2 in
    let r = root_of_units binary64 (fin false (suc m) e) (suc m * 2 ^ j.0) h.held (mul-pos (zero-lt-suc m) (pow_pos j.0)) (refl, j.1) in
    record { plus = value_unsigned (sqrt_of binary64 (fin false (suc m) e)) r.r (2 ^ 1074) r.value; held = r.held }

-- ---- what lies under an amount

finite_under : (x y : Float) → Signed false x → T (unsigned y) → T (le x y) → T (finite x)
finite_under nan y s v h = s
finite_under (inf true) y s v h = absurd (true≢false s)
finite_under (inf false) nan s v h = v
finite_under (inf false) (inf t) s v h = v
finite_under (inf false) (fin t n d) s v h = unfold le in h
finite_under (fin t m e) y s v h = tt

amount_le : (n d : ℕ) (y : Float) → T (unsigned y) → T (le (round binary64 false n d) y) → Amount (round binary64 false n d)
amount_le n d y h l =
    let r = round binary64 false n d in
    let s : Signed false r = round_signed binary64 false n d in
    record { plus = unsigned_of r s (finite_under r y s h l); held = round-fits binary64 false n d }

-- a fraction of no more than an amount rounds to an amount
pub round_amount : (n d : ℕ) (y : Float) (b c : ℕ) → 0 < d → 0 < c → Amount y → HasValue y false b c → n * c ≤ b * d → Amount (round binary64 false n d)
round_amount n d y b c D C h v l =
    amount_le n d y h.plus
    (subst (λ (z : Float). T (le (round binary64 false n d) z)) (round_value binary64 y false b c C h.held v) (round_mono binary64 n d b c D C l))

-- ---- half of it

pub amount_half : (x : Float) → Amount x → Amount (half ⊗ x)
unfolding of_bits
amount_half nan h = absurd h.plus
amount_half (inf s) h = absurd h.plus
amount_half (fin true m e) h = absurd h.plus
amount_half (fin false m e) h =
    unfold mul in
    round_amount (1 * 1 * (m * up e)) (2 ^ 1 * down e) (fin false m e) (m * up e) (down e) (mul-pos (lit< tt) (down_pos e)) (down_pos e) h (refl, refl)
    (halved (1 * 1 * (m * up e)) (m * up e) (down e) (2 ^ 1 * down e) (one-mul (m * up e)) (omega arith))
  where
    halved : (n x d e : ℕ) → n ≡ x → d ≤ e → n * d ≤ x * e
    halved n x d e p l = le_trans (le_of_eq (ap (λ (z : ℕ). z * d) p)) (mul-le-mul_left x l)

-- ---- a sum of squares

finite_signed : (x : Float) → T (finite x) → (s : Bool) × Signed s x
finite_signed x h = number_signed x (finite_number x h)

pub amount_squares : {k a : ℕ} {x y : Float} → Bounded k a x → Bounded k a y → a * a + a * a ≤ 2 ^ 53 → k + k ≤ 970 → Amount (x ⊗ x ⊕ y ⊗ y)
amount_squares {k} {a} {x} {y} p q h g =
    let xx : Bounded (k + k) (a * a) (x ⊗ x) = bounded_mul p p (omega arith) g in
    let yy : Bounded (k + k) (a * a) (y ⊗ y) = bounded_mul q q (omega arith) g in
    let s = finite_signed x (bounded_finite p) in
    let t = finite_signed y (bounded_finite q) in
    let signed : Signed false (x ⊗ x ⊕ y ⊗ y) = add_signed binary64 false (x ⊗ x) (y ⊗ y) (square_signed binary64 s.0 x s.1) (square_signed binary64 t.0 y t.1) in
    record { plus = unsigned_of (x ⊗ x ⊕ y ⊗ y) signed (bounded_finite (bounded_add xx yy h g)); held = add-fits binary64 (x ⊗ x) (y ⊗ y) }

-- ---- where a line crosses a threshold

own : (x : Float) → T (unsigned x) → HasValue x false (num x) (den x)
own x h = signed_value false x (unsigned_signed x h) (unsigned_finite x h)

-- a rounded value has its size, whatever its sign
sized : (s : Bool) (n d : ℕ) → Amount (round binary64 false n d) → HasValue (round binary64 s n d) s (num (round binary64 false n d)) (den (round binary64 false n d))
sized false n d h = own (round binary64 false n d) h.plus
sized true n d h =
    let R = round binary64 false n d in
    subst (λ (z : Float). HasValue z true (num R) (den R)) (neg_round binary64 false n d) (neg_value R false (num R) (den R) (own R h.plus))

-- of two numbers of smallest values, above zero and rounded, with any signs, the smaller over the larger
least : HasValue (round binary64 false 1 (2 ^ 1074)) false 1 (2 ^ 1074)
least = round_exact binary64 false 1 (2 ^ 1074) 1 0 (pow_pos 1074) (lit< tt) (lit< tt) refl

least_below : (d : ℕ) → 0 < d → Amount (round binary64 false d (2 ^ 1074)) → 0 < num (round binary64 false d (2 ^ 1074))
least_below d D q =
    let R = round binary64 false d (2 ^ 1074) in
    first_pos (num R) (2 ^ 1074)
    (lt_of_lt_of_le (mul-pos (lit< tt) (den_pos R))
    (le→value (round binary64 false 1 (2 ^ 1074)) R 1 (2 ^ 1074) (num R) (den R) (pow_pos 1074) (den_pos R) least (own R q.plus)
    (round_mono binary64 1 (2 ^ 1074) d (2 ^ 1074) (pow_pos 1074) (pow_pos 1074) (mul-le-mul_right (2 ^ 1074) D))))

none_num : (x : Float) → Bounded 0 0 x → num x ≡ 0
none_num nan h = refl
none_num (inf s) h = refl
none_num (fin s m e) h = let l = h.bound in omega arith

quotient_part : (s t : Bool) (n d : ℕ) → n ≤ d → 0 < d → Amount (round binary64 false d (2 ^ 1074)) → (unlike s t ≡ true → n ≡ 0)
    → Part 1 (round binary64 s n (2 ^ 1074) ⊘ round binary64 t d (2 ^ 1074))
quotient_part s t n d l D q z =
    let N = round binary64 false n (2 ^ 1074) in
    let R = round binary64 false d (2 ^ 1074) in
    let under : T (le N R) = round_mono binary64 n (2 ^ 1074) d (2 ^ 1074) (pow_pos 1074) (pow_pos 1074) (mul-le-mul_right (2 ^ 1074) l) in
    let p : Amount N = amount_le n (2 ^ 1074) R q.plus under in
    let order : num N * den R ≤ num R * den N = le→value N R (num N) (den N) (num R) (den R) (den_pos N) (den_pos R) (own N p.plus) (own R q.plus) under in
    let some : 0 < num R = least_below d D q in
    rw (div_over binary64 (round binary64 s n (2 ^ 1074)) (round binary64 t d (2 ^ 1074)) s t (num N) (den N) (num R) (den R) (den_pos N) (den_pos R) some (sized s n (2 ^ 1074) p) (sized t d (2 ^ 1074) q))
    (round_part 1 (unlike s t) (num N * den R) (num R * den N) (mul-pos some (den_pos N)) (lit≤ tt) (le_trans order (le_of_eq (sym (one-mul (num R * den N)))))
    (λ e. ap (λ (k : ℕ). k * den R) (none_num N (round_none false n (2 ^ 1074) (pow_pos 1074) (z e))) ∙ zero-mul (den R)))

-- x - y is the distance of x and y, rounded, with a minus where x is below y
apart : ℕ → ℕ → ℕ
apart a b = a - b + (b - a)

distance : (a b c : ℕ) → sum binary64 false a true b c ≡ round binary64 (ltb a b) (apart a b) c
unfolding sum apart
distance a b c = go (ltb a b) (ltb→lt a b) (nltb→le a b)
  where
    go : (t : Bool) → (T t → a < b) → (T (not t) → b ≤ a) → cond t (round binary64 true (b - a) c) (round binary64 false (a - b) c) ≡ round binary64 t (a - b + (b - a)) c
    go true h g = ap (λ (z : ℕ). round binary64 true z c) (omega (arith, h tt))
    go false h g = ap (λ (z : ℕ). round binary64 false z c) (omega (arith, g tt))

counts_lt : (x y : Float) (a b : ℕ) → HasValue x false a (2 ^ 1074) → HasValue y false b (2 ^ 1074) → T (lt x y) → a < b
counts_lt x y a b v w h = lt_of_mul-lt-mul_right (2 ^ 1074) (lt→cross x y a (2 ^ 1074) b (2 ^ 1074) (pow_pos 1074) (pow_pos 1074) v w h)

counts_le : (x y : Float) (a b : ℕ) → HasValue x false a (2 ^ 1074) → HasValue y false b (2 ^ 1074) → T (le x y) → a ≤ b
counts_le x y a b v w h = le_of_mul-le-mul_right (le→value x y a (2 ^ 1074) b (2 ^ 1074) (pow_pos 1074) (pow_pos 1074) v w h) (pow_pos 1074)

-- both distances are from a, the second the larger; they go the same way, or the first is none
record Way (a b c : ℕ) : Type 0 where
  under : apart c a ≤ apart b a
  some : 0 < apart b a
  same : unlike (ltb c a) (ltb b a) ≡ true → apart c a ≡ 0

-- the larger is no larger than an amount
share_by : (x y z : Float) (a b c : ℕ) → HasValue x false a (2 ^ 1074) → HasValue y false b (2 ^ 1074) → HasValue z false c (2 ^ 1074) → Way a b c → Amount (round binary64 false (apart b a) (2 ^ 1074))
    → Part 1 ((z ⊖ x) ⊘ (y ⊖ x))
share_by x y z a b c u v w h q =
    rw (sub_over binary64 z x false false c a (2 ^ 1074) (pow_pos 1074) w u, sub_over binary64 y x false false b a (2 ^ 1074) (pow_pos 1074) v u, distance c a (2 ^ 1074), distance b a (2 ^ 1074))
    (quotient_part (ltb c a) (ltb b a) (apart c a) (apart b a) h.under h.some q h.same)

way_up : (a b c : ℕ) → a < c → c ≤ b → Way a b c × (apart b a ≤ b)
unfolding apart
way_up a b c h g =
    (record { under = omega arith; some = omega arith; same = λ e. absurd (false≢true (rw (le-ltb c a (omega arith), le-ltb b a (omega arith)) at e)) }, omega arith)

way_down : (a b c : ℕ) → c ≤ a → b < c → Way a b c × (apart b a ≤ a)
unfolding apart
way_down a b c h g = (
  record {
    under = omega arith;
    some = omega arith;
    same = λ e. ⊎_elim (λ z. omega arith) (λ l. absurd (false≢true (rw (lt-ltb c a l, lt-ltb b a (omega arith)) at e))) (eq-or-lt_of_le h);
  },
  omega arith,
)

-- the threshold is crossed on the way from a0 to a1, upward or downward
abbrev pub Crosses : Float → Float → Float → Type 0
Crosses a0 a1 thr = (T (lt a0 thr) × T (le thr a1)) ⊎ (T (le thr a0) × T (lt a1 thr))

pub share_part : (a0 a1 thr : Float) → Amount a0 → Amount a1 → Amount thr → Crosses a0 a1 thr → Part 1 ((thr ⊖ a0) ⊘ (a1 ⊖ a0))
share_part x y z hx hy hz crosses =
    let a = amount_counts x hx in
    let b = amount_counts y hy in
    let c = amount_counts z hz in
    ⊎_elim
    (λ h.
    let d = way_up a.count b.count c.count (counts_lt x z a.count c.count a.value c.value h.0) (counts_le z y c.count b.count c.value b.value h.1) in
    share_by x y z a.count b.count c.count a.value b.value c.value d.0
    (round_amount (apart b.count a.count) (2 ^ 1074) y b.count (2 ^ 1074) (pow_pos 1074) (pow_pos 1074) hy b.value (mul-le-mul_right (2 ^ 1074) d.1)))
    (λ h.
    let d = way_down a.count b.count c.count (counts_le z x c.count a.count c.value a.value h.0) (counts_lt y z b.count c.count b.value c.value h.1) in
    share_by x y z a.count b.count c.count a.value b.value c.value d.0
    (round_amount (apart b.count a.count) (2 ^ 1074) x a.count (2 ^ 1074) (pow_pos 1074) (pow_pos 1074) hx a.value (mul-le-mul_right (2 ^ 1074) d.1)))
    crosses
