-- How large a result can be: `Bounded k a x` says that x is finite and of size at most a * 2 ^ k. As long as a has no
-- more digits than an f64 keeps, a * 2 ^ k is itself an f64,
-- so a result that is exactly within that bound is within it when rounded (`round_bounded`). Each operation has its
-- law. Assumes nothing.
use Rattle.std.proofs.Common.{◌≡◌, ℕ, zero, suc, ◌+◌, ◌-◌, ◌*◌, ◌/◌, ◌^◌, ◌<◌, ◌≤◌, Bool, true, false, cond, not, ◌&&◌, T, eqb, ltb, ◌⊎◌, sym, refl, ap, ◌∙◌, subst, inl, inr, true≢false, zero-le, le_trans, le_of_eq, lt_of_lt_of_le, le_of_suc-le-suc, lt_of_le_of_lt, le_of_lt, mul-le-mul_right, mul_assoc, mul_comm, div-lt_iff_lt-mul, add-mul, mul-le-mul, eq-or-lt_of_le, mul-pos, one-mul, zero-mul, mul-one, mul_right_comm, mul_left_comm, arith, lit<, lit≤, pow_mono, pow-add, shl_lt}
use mathlib.Core.Bool.{beq}
use lib.Pow.{pow-lt}
use lib.Ieee.{Float, nan, inf, fin, binary32, binary64, unlike, up, down, round, neg, sum, add, sub, mul, div, le, of_int, of_bits, fits, is_nan}
use lib.Ieee.Fits.{down_pos}
use lib.Ieee.Exact.{HasValue, round_exact}
use lib.Ieee.Order.{round_mono}
use lib.Ieee.Scale.{finite}
use lib.Ieee.Positive.{num, den, den_pos, first_pos, value→cross}
use Rattle.float.specs.Ops.{◌⊕◌, ◌⊖◌, ◌⊗◌, ◌⊘◌, of, plus_zero, one, eight}
use Rattle.float.specs.Compare.{abs_of}
use Rattle.float.specs.Whole.{half_up, whole_by, round_of}
use Rattle.float.proofs.Exactly.{neg_round, fits_says}
use Rattle.float.proofs.Signs.{Signed, round_signed}
use Rattle.float.proofs.Sums.{cond_nil}
use Rattle.float.proofs.Compared.{le→value}
use Rattle.float.proofs.Counts.{whole_value}

-- ---- the bound

-- x is finite, and of size at most b
abbrev pub Under : ℕ → Float → Type 0
Under b nan = ⊥
Under b (inf s) = ⊥
Under b (fin s m e) = m * up e ≤ b * down e

pub record Bounded (k a : ℕ) (x : Float) : Type 0 where
  pub bound : Under (a * 2 ^ k) x

under_neg : (b : ℕ) (x : Float) → Under b x → Under b (neg x)
unfolding neg
under_neg b nan h = h
under_neg b (inf s) h = h
under_neg b (fin s m e) h = h

-- what is below an f64 that is a whole number b
under_le : (x y : Float) (b : ℕ) → Signed false x → HasValue y false b 1 → T (le x y) → Under b x
under_le nan y b s v h = s
under_le (inf true) y b s v h = absurd (true≢false s)
under_le (inf false) nan b s v h = v
under_le (inf false) (inf t) b s v h = v
under_le (inf false) (fin t n d) b s v h = unfold le in h
under_le (fin true m e) y b s v h = absurd (true≢false s)
under_le (fin false m e) y b s v h = le_trans (le_of_eq (sym (mul-one (m * up e)))) (le→value (fin false m e) y (m * up e) (down e) b 1 (down_pos e) (lit< tt) (refl, refl) v h)

-- a * 2 ^ k is an f64
room : (k i : ℕ) → k ≤ 970 → i ≤ 53 → i + (k + 1074) < 2098
room k i h g = omega arith

held : (k a : ℕ) → a ≤ 2 ^ 53 → k ≤ 970 → HasValue (round binary64 false (a * 2 ^ k) 1) false (a * 2 ^ k) 1
held k a h g = go (eq-or-lt_of_le h)
  where
    spread : (q i : ℕ) → q * 2 ^ i * 2 ^ 1074 ≡ q * 2 ^ (i + 1074) * 1
    spread q i = mul_assoc q (2 ^ i) (2 ^ 1074) ∙ ap (λ (x : ℕ). q * x) (sym (pow-add 2 i 1074)) ∙ sym (mul-one (q * 2 ^ (i + 1074)))

    one_digit : a ≡ 2 ^ 53 → a * 2 ^ k ≡ 1 * 2 ^ (53 + k)
    one_digit e = ap (λ (x : ℕ). x * 2 ^ k) e ∙ sym (pow-add 2 53 k) ∙ sym (one-mul (2 ^ (53 + k)))

    go : (a ≡ 2 ^ 53) ⊎ (a < 2 ^ 53) → HasValue (round binary64 false (a * 2 ^ k) 1) false (a * 2 ^ k) 1
    go (inl e) =
        subst (λ (x : ℕ). HasValue (round binary64 false x 1) false x 1) (sym (one_digit e))
        (round_exact binary64 false (1 * 2 ^ (53 + k)) 1 1 (53 + k + 1074) (lit< tt) (lit< tt)
        (lt_of_le_of_lt (le_of_eq (one-mul (2 ^ (53 + k + 1074)))) (pow-lt {i = 53 + k + 1074} {j = 2098} (omega arith)))
        (spread 1 (53 + k)))
    go (inr l) =
        round_exact binary64 false (a * 2 ^ k) 1 a (k + 1074) (lit< tt) l
        (lt_of_lt_of_le (shl_lt 53 (k + 1074) l) (pow_mono {i = 53 + (k + 1074)} {j = 2098} (omega arith)))
        (spread a k)

-- a fraction n / d that is at most a * 2 ^ k rounds to what is at most that
round_under : (k a n d : ℕ) → 0 < d → a ≤ 2 ^ 53 → k ≤ 970 → n ≤ a * 2 ^ k * d → Under (a * 2 ^ k) (round binary64 false n d)
round_under k a n d D h g l =
    under_le (round binary64 false n d) (round binary64 false (a * 2 ^ k) 1) (a * 2 ^ k) (round_signed binary64 false n d) (held k a h g)
    (round_mono binary64 n d (a * 2 ^ k) 1 D (lit< tt) (le_trans (le_of_eq (mul-one n)) l))

pub round_bounded : (k a : ℕ) (s : Bool) (n d : ℕ) → 0 < d → a ≤ 2 ^ 53 → k ≤ 970 → n ≤ a * 2 ^ k * d → Bounded k a (round binary64 s n d)
round_bounded k a false n d D h g l = record { bound = round_under k a n d D h g l }
round_bounded k a true n d D h g l =
    record { bound = subst (λ (x : Float). Under (a * 2 ^ k) x) (neg_round binary64 false n d) (under_neg (a * 2 ^ k) (round binary64 false n d) (round_under k a n d D h g l)) }

-- ---- what a bound says

under_finite : (b : ℕ) (x : Float) → Under b x → T (finite x)
under_finite b nan h = h
under_finite b (inf s) h = h
under_finite b (fin s m e) h = tt

pub bounded_finite : {k a : ℕ} {x : Float} → Bounded k a x → T (finite x)
bounded_finite {k} {a} {x} h = under_finite (a * 2 ^ k) x h.bound

pub finite_number : (x : Float) → T (finite x) → T (not (is_nan x))
unfolding is_nan
finite_number nan h = h
finite_number (inf s) h = tt
finite_number (fin s m e) h = tt

-- ---- a larger bound, and the same bound written with more of it in the power

under_more : (b c : ℕ) (x : Float) → b ≤ c → Under b x → Under c x
under_more b c nan l h = h
under_more b c (inf s) l h = h
under_more b c (fin s m e) l h = le_trans h (mul-le-mul_right (down e) l)

pub bounded_more : {k a j b : ℕ} {x : Float} → Bounded k a x → a ≤ b → k ≤ j → Bounded j b x
bounded_more {k} {a} {j} {b} {x} h l g = record { bound = under_more (a * 2 ^ k) (b * 2 ^ j) x (mul-le-mul l (pow_mono g)) h.bound }

pub bounded_shift : (j : ℕ) {k a : ℕ} {x : Float} → Bounded k (a * 2 ^ j) x → Bounded (k + j) a x
bounded_shift j {k} {a} {x} h =
    record { bound = subst (λ (b : ℕ). Under b x) (mul_assoc a (2 ^ j) (2 ^ k) ∙ ap (λ (b : ℕ). a * b) (mul_comm (2 ^ j) (2 ^ k) ∙ sym (pow-add 2 k j))) h.bound }

-- ---- the operations

pub bounded_neg : {k a : ℕ} {x : Float} → Bounded k a x → Bounded k a (neg x)
bounded_neg {k} {a} {x} h = record { bound = under_neg (a * 2 ^ k) x h.bound }

pub bounded_cond : {k a : ℕ} {x y : Float} (t : Bool) → Bounded k a x → Bounded k a y → Bounded k a (cond t x y)
bounded_cond true h g = h
bounded_cond false h g = g

sum_bounded : (k a b : ℕ) (s : Bool) (m : ℕ) (t : Bool) (n c : ℕ) → 0 < c → a + b ≤ 2 ^ 53 → k ≤ 970 → m ≤ a * 2 ^ k * c → n ≤ b * 2 ^ k * c → Bounded k (a + b) (sum binary64 s m t n c)
unfolding sum
sum_bounded k a b s m t n c C h g p q =
    let all : (a + b) * 2 ^ k * c ≡ a * 2 ^ k * c + b * 2 ^ k * c = ap (λ (x : ℕ). x * c) (add-mul a b (2 ^ k)) ∙ add-mul (a * 2 ^ k) (b * 2 ^ k) c in
    bounded_cond (beq s t)
    (round_bounded k (a + b) s (m + n) c C h g (omega arith))
    (bounded_cond (ltb m n)
    (round_bounded k (a + b) t (n - m) c C h g (omega arith))
    (round_bounded k (a + b) (s && ltb n m) (m - n) c C h g (omega arith)))

pub bounded_add : {k a b : ℕ} {x y : Float} → Bounded k a x → Bounded k b y → a + b ≤ 2 ^ 53 → k ≤ 970 → Bounded k (a + b) (x ⊕ y)
bounded_add {k} {a} {b} {x} {y} p q h g = go x y p.bound q.bound
  where
    go : (x y : Float) → Under (a * 2 ^ k) x → Under (b * 2 ^ k) y → Bounded k (a + b) (x ⊕ y)
    go nan y u v = absurd u
    go (inf s) y u v = absurd u
    go (fin s m e) nan u v = absurd v
    go (fin s m e) (inf t) u v = absurd v
    go (fin s m e) (fin t n d) u v =
        unfold add in
        sum_bounded k a b s (m * up e * down d) t (n * up d * down e) (down e * down d) (mul-pos (down_pos e) (down_pos d)) h g
        (le_trans (mul-le-mul_right (down d) u) (le_of_eq (mul_assoc (a * 2 ^ k) (down e) (down d))))
        (le_trans (mul-le-mul_right (down e) v) (le_of_eq (mul_right_comm (b * 2 ^ k) (down d) (down e) ∙ mul_assoc (b * 2 ^ k) (down e) (down d))))

pub bounded_sub : {k a b : ℕ} {x y : Float} → Bounded k a x → Bounded k b y → a + b ≤ 2 ^ 53 → k ≤ 970 → Bounded k (a + b) (x ⊖ y)
unfolding sub
bounded_sub p q h g = bounded_add p (bounded_neg q) h g

pub bounded_mul : {k a j b : ℕ} {x y : Float} → Bounded k a x → Bounded j b y → a * b ≤ 2 ^ 53 → k + j ≤ 970 → Bounded (k + j) (a * b) (x ⊗ y)
bounded_mul {k} {a} {j} {b} {x} {y} p q h g = go x y p.bound q.bound
  where
    apart : (de dd : ℕ) → a * 2 ^ k * de * (b * 2 ^ j * dd) ≡ a * b * 2 ^ (k + j) * (de * dd)
    apart de dd = simp (mul_assoc, mul_comm, mul_left_comm, pow-add)

    go : (x y : Float) → Under (a * 2 ^ k) x → Under (b * 2 ^ j) y → Bounded (k + j) (a * b) (x ⊗ y)
    go nan y u v = absurd u
    go (inf s) y u v = absurd u
    go (fin s m e) nan u v = absurd v
    go (fin s m e) (inf t) u v = absurd v
    go (fin s m e) (fin t n d) u v =
        unfold mul in
        round_bounded (k + j) (a * b) (unlike s t) (m * up e * (n * up d)) (down e * down d) (mul-pos (down_pos e) (down_pos d)) h g
        (le_trans (mul-le-mul u v) (le_of_eq (apart (down e) (down d))))

-- ---- a quotient, and a divisor of size 1 or more

pub div_bounded : (k a : ℕ) (x y : Float) → T (finite x) → T (finite y) → 0 < num y → a ≤ 2 ^ 53 → k ≤ 970 → num x * den y ≤ a * 2 ^ k * (num y * den x) → Bounded k a (x ⊘ y)
unfolding div
div_bounded k a nan y p q n h g l = absurd p
div_bounded k a (inf s) y p q n h g l = absurd p
div_bounded k a (fin s m e) nan p q n h g l = absurd q
div_bounded k a (fin s m e) (inf t) p q n h g l = absurd q
div_bounded k a (fin s m e) (fin t n d) p q i h g l =
    subst (Bounded k a) (sym (cond_nil n (cond (eqb m 0) nan (inf (unlike s t))) (round binary64 (unlike s t) (m * up e * down d) (n * up d * down e)) (first_pos n (up d) i)))
    (round_bounded k a (unlike s t) (m * up e * down d) (n * up d * down e) (mul-pos i (down_pos e)) h g l)

-- x is finite, and of size 1 or more
abbrev pub Over : Float → Type 0
Over nan = ⊥
Over (inf s) = ⊥
Over (fin s m e) = down e ≤ m * up e

pub record Beyond (x : Float) : Type 0 where
  pub far : Over x

pub bounded_div : {k a : ℕ} {x y : Float} → Bounded k a x → Beyond y → a ≤ 2 ^ 53 → k ≤ 970 → Bounded k a (x ⊘ y)
bounded_div {k} {a} {x} {y} p q h g = go x y p.bound q.far
  where
    go : (x y : Float) → Under (a * 2 ^ k) x → Over y → Bounded k a (x ⊘ y)
    go nan y u v = absurd u
    go (inf s) y u v = absurd u
    go (fin s m e) nan u v = absurd v
    go (fin s m e) (inf t) u v = absurd v
    go (fin s m e) (fin t n d) u v =
        div_bounded k a (fin s m e) (fin t n d) tt tt (lt_of_lt_of_le (down_pos d) v) h g
        (le_trans (mul-le-mul u v) (le_of_eq (mul_assoc (a * 2 ^ k) (down e) (n * up d) ∙ ap (λ (z : ℕ). a * 2 ^ k * z) (mul_comm (down e) (n * up d)))))

-- ---- to a whole number: floor, ceil, round

whole_bounded : (pick : ℕ → ℕ → ℕ) → ((n d b : ℕ) → 0 < d → n ≤ b * d → pick n d ≤ b) → (k a : ℕ) (x : Float) → Bounded k a x → a ≤ 2 ^ 53 → k ≤ 970 → Bounded k a (whole_by pick x)
unfolding whole_by
whole_bounded pick small k a nan p h g = absurd p.bound
whole_bounded pick small k a (inf s) p h g = absurd p.bound
whole_bounded pick small k a (fin s m e) p h g =
    round_bounded k a s (pick (m * up e) (down e)) 1 (lit< tt) h g (le_trans (small (m * up e) (down e) (a * 2 ^ k) (down_pos e) p.bound) (le_of_eq (sym (mul-one (a * 2 ^ k)))))

quotient_le : (n d b : ℕ) → 0 < d → n < suc b * d → n / d ≤ b
quotient_le n d b D h = le_of_suc-le-suc ((div-lt_iff_lt-mul D).1 h)

half_up_le : (n d b : ℕ) → 0 < d → n ≤ b * d → half_up n d ≤ b
half_up_le n d b D h =
    let more : suc b * (2 * d) ≡ 2 * (b * d) + 2 * d = simp (mul_comm, mul_left_comm) (omega arith) in
    quotient_le (2 * n + d) (2 * d) b (omega arith) (omega arith)

pub bounded_round : {k a : ℕ} {x : Float} → Bounded k a x → a ≤ 2 ^ 53 → k ≤ 970 → Bounded k a (round_of x)
unfolding round_of
bounded_round {k} {a} {x} p h g = whole_bounded half_up half_up_le k a x p h g

-- ---- numbers

pub bounded_whole : (n : ℕ) → n ≤ 2 ^ 53 → Bounded 0 n (of n)
unfolding of_int
bounded_whole n h = round_bounded 0 n false n 1 (lit< tt) h (lit≤ tt) (le_of_eq (sym (mul-one (n * 1) ∙ mul-one n)))

-- a finite f32 is below 2 ^ 128
single_under : (x : Float) → T (fits binary32 x) → T (finite x) → Under (1 * 2 ^ 128) x
single_under nan t h = absurd h
single_under (inf s) t h = absurd h
single_under (fin s zero e) t h = le_trans (le_of_eq (zero-mul (up e))) zero-le
single_under (fin s (suc m) e) t h = le_of_lt (fits_says binary32 s m e t).3

pub bounded_single : (x : Float) → T (fits binary32 x) → T (finite x) → Bounded 128 1 x
bounded_single x t h = record { bound = single_under x t h }

over_value : (x : Float) (s : Bool) (n : ℕ) → 1 ≤ n → HasValue x s n 1 → Over x
over_value nan s n h v = v
over_value (inf t) s n h v = v
over_value (fin t m e) s n h v = le_trans (le_of_eq (sym (one-mul (down e)))) (le_trans (mul-le-mul_right (down e) h) (le_of_eq (sym v.1 ∙ mul-one (m * up e))))

pub beyond_whole : (n : ℕ) → 1 ≤ n → n ≤ 2 ^ 53 → Beyond (of n)
beyond_whole n h g = record { far = over_value (of n) false n h (whole_value binary64 n g) }

-- the literals of the code
pub bounded_zero : Bounded 0 0 plus_zero
unfolding of_bits
bounded_zero = record { bound = lit≤ tt }

pub bounded_one : Bounded 0 1 one
unfolding of_bits
bounded_one = record { bound = lit≤ tt }

pub beyond_eight : Beyond eight
unfolding of_bits
beyond_eight = record { far = lit≤ tt }

-- n times as much, divided by n
under_num : (b : ℕ) (x : Float) → Under b x → num x ≤ b * den x
under_num b nan h = absurd h
under_num b (inf s) h = absurd h
under_num b (fin s m e) h = h

value_finite : (x : Float) (s : Bool) (a c : ℕ) → HasValue x s a c → T (finite x)
value_finite nan s a c v = v
value_finite (inf t) s a c v = v
value_finite (fin t m e) s a c v = tt

mean_bounded : (k a n : ℕ) (x y : Float) → Bounded k (n * a) x → HasValue y false n 1 → 0 < n → a ≤ 2 ^ 53 → k ≤ 970 → Bounded k a (x ⊘ y)
mean_bounded k a n x y p v N h g =
    let q : num y ≡ n * den y = sym (mul-one (num y)) ∙ value→cross y n 1 v in
    let some : 0 < num y = subst (λ (z : ℕ). 0 < z) (sym q) (mul-pos N (den_pos y)) in
    let l : num x * den y ≤ n * a * 2 ^ k * den x * den y = mul-le-mul_right (den y) (under_num (n * a * 2 ^ k) x p.bound) in
    div_bounded k a x y (bounded_finite p) (value_finite y false n 1 v) some h g (rw q (le_trans l (le_of_eq (simp (mul_assoc, mul_comm, mul_left_comm)))))

pub bounded_mean : {k a : ℕ} {x : Float} (n : ℕ) → Bounded k (n * a) x → 0 < n → n ≤ 2 ^ 53 → a ≤ 2 ^ 53 → k ≤ 970 → Bounded k a (x ⊘ of n)
bounded_mean {k} {a} {x} n p N M h g = mean_bounded k a n x (of n) p (whole_value binary64 n M) N h g

-- a quotient of whole numbers
pub bounded_ratio : (b n d : ℕ) → 0 < d → b ≤ 2 ^ 53 → n ≤ 2 ^ 53 → d ≤ 2 ^ 53 → n ≤ d * b → Bounded 0 b (of n ⊘ of d)
bounded_ratio b n d D B N M l = bounded_mean d (bounded_more (bounded_whole n N) l (lit≤ tt)) D M B (lit≤ tt)

-- what a test |x| <= n says
le_bounded : (x y : Float) (n : ℕ) → HasValue y false n 1 → T (le (abs_of x) y) → Bounded 0 n x
unfolding abs_of
le_bounded x y n v t = record { bound = subst (λ (b : ℕ). Under b x) (sym (mul-one n)) (go x t) }
  where
    go : (x : Float) → T (le (abs_of x) y) → Under n x
    go nan t = unfold le in t
    go (inf s) t = under_le (inf false) y n refl v t
    go (fin s m e) t = under_le (fin false m e) y n refl v t

pub bounded_le : (x : Float) (n : ℕ) → n ≤ 2 ^ 53 → T (le (abs_of x) (of n)) → Bounded 0 n x
bounded_le x n h t = le_bounded x (of n) n (whole_value binary64 n h) t
