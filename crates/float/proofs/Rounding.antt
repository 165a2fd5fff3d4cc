-- What `round` means, in either format: `Rounded` of specs/Nearest.antt holds of what it gives (`round_rounded`), and
-- of no other value (`rounded_unique`). So it does of what is defined by it: `narrow_rounded`, `of_rounded`,
-- `fraction_rounded`, `add_rounded`, `sub_rounded`, `mul_rounded`, `div_rounded`. Assumes nothing.
use Rattle.std.proofs.Common.{◌≡◌, ℕ, suc, ◌+◌, ◌-◌, ◌*◌, ◌^◌, ◌<◌, ◌≤◌, Bool, true, false, cond, not, ◌&&◌, T, ltb, ◌↔◌, sym, refl, ap, ◌∙◌, subst, inl, inr, ⊎_elim, le_trans, le_of_eq, lt_of_lt_of_le, mul-le-mul_right, mul_assoc, eq-zero-or-pos, le_antisymm, mul-lt-mul_of_pos_right, mul-pos, pow-suc, lt_of_not-le, zero-mul, le_of_mul-le-mul_right, arith, lit<, ltb→lt, nltb→le, pow_pos, pow-add}
use mathlib.Core.Bool.{beq, not-not}
use native.Mathlib.Decide.{dec_le}
use lib.Ieee.{Float, nan, inf, fin, Format, binary32, binary64, prec, emax, low, unlike, up, down, size, round, sum, of_int, fits}
use lib.Ieee.Fits.{round_is, round-fits, down_pos}
use lib.Ieee.Exact.{HasValue, units_val}
use lib.Ieee.Order.{drop, kept}
use lib.Ieee.Scale.{grid, overflow, round_same}
use Rattle.float.specs.Ops.{◌⊕◌, ◌⊖◌, ◌⊗◌, ◌⊘◌, of, fraction}
use Rattle.float.specs.Single.{narrow_of}
use Rattle.float.proofs.Exactly.{unique}
use Rattle.float.proofs.Narrowing.{units_over}
use Rattle.float.proofs.Sums.{add_over, sub_over, mul_over, div_over}
use Rattle.float.proofs.Meaning.{Digits, digits}
use Rattle.float.specs.Nearest.{apart, last_digit, Closer, Overflows, Rounded}
use Rattle.float.proofs.Ties.{cut_off, Best, best, largest, highest, next_is, largest_lt, largest_digits, next_digits, largest_odd, largest_most}

-- ---- the infinity

-- the same in units
over_units : (f : Format) (a c : ℕ) → Overflows f a c ↔ ((overflow f + largest f) * c ≤ 2 * (a * 2 ^ low f))
unfolding largest
over_units f a c = (
  λ h. le_trans (le_of_eq same) (le_trans (mul-le-mul_right (2 ^ low f) h) (le_of_eq (mul_assoc 2 a (2 ^ low f)))),
  λ h. le_of_mul-le-mul_right (le_trans (le_of_eq (sym same)) (le_trans h (le_of_eq (sym (mul_assoc 2 a (2 ^ low f)))))) (pow_pos (low f)),
)
  where
    odds : (A x y B L c : ℕ) → A ≡ x + 1 → y ≡ 2 * x + 1 → (A * (B * L) + x * (B * L)) * c ≡ y * B * c * L
    odds A x y B L c e g = ap (λ (z : ℕ). (z * (B * L) + x * (B * L)) * c) e ∙ (omega arith) ∙ ap (λ (z : ℕ). z * B * c * L) (sym g)

    same : (overflow f + (2 ^ prec f - 1) * 2 ^ highest f) * c ≡ (2 ^ suc (prec f) - 1) * 2 ^ (suc (emax f) - prec f) * c * 2 ^ low f
    same =
        let w = pow_pos (prec f) in
        let d = pow-suc 2 (prec f) in
        (λ i. (next_is f i + (2 ^ prec f - 1) * 2 ^ highest f) * c)
        ∙ ap (λ (z : ℕ). (2 ^ prec f * z + (2 ^ prec f - 1) * z) * c) (pow-add 2 (suc (emax f) - prec f) (low f))
        ∙ odds (2 ^ prec f) (2 ^ prec f - 1) (2 ^ suc (prec f) - 1) (2 ^ (suc (emax f) - prec f)) (2 ^ low f) c (omega arith) (omega arith)

-- under the overflow the fraction was not over, and from there on it was
under_over : (f : Format) (n c r : ℕ) → 0 < c → Best f n c r → Digits (prec f) r → r < overflow f → (overflow f + largest f) * c ≤ 2 * n → ⊥
under_over f n c r C w d l h =
    elim (w.above (overflow f) (next_digits f) l) [
      | inl g ↦ let m : r * c ≤ largest f * c = mul-le-mul_right c (largest_most f r d l) in omega arith
      | inr g ↦
          let e = g.0 in
          let m : largest f ≤ r = le_of_mul-le-mul_right {k = c} (omega arith) C in
          let o : last_digit f r ≡ 1 = subst (λ (x : ℕ). last_digit f x ≡ 1) (le_antisymm m (largest_most f r d l)) (largest_odd f) in
          let z = g.1 in
          omega arith
    ]

at_over : (f : Format) (n c r : ℕ) → Best f n c r → overflow f ≤ r → (overflow f + largest f) * c ≤ 2 * n
at_over f n c r w l =
    let m : (overflow f + largest f) * c ≤ (r + largest f) * c = mul-le-mul_right c (omega arith) in
    elim (w.below (largest f) (largest_digits f) (lt_of_lt_of_le (largest_lt f) l)) [
      | inl g ↦ omega arith
      | inr g ↦ let e = g.0 in omega arith
    ]

-- from the overflow on it is an infinity
-- ---- the theorem

-- r units against b units with the same sign, and with the other
module _ (f : Format) (n c r b : ℕ) (C : 0 < c) (w : Best f n c r) (d : Digits (prec f) b) where
  same_sign : 0 < r - b + (b - r) → Closer f r b (n - r * c + (r * c - n)) (n - b * c + (b * c - n))
  same_sign ne = go (dec_le r b)
    where
      go : Dec (r ≤ b) → Closer f r b (n - r * c + (r * c - n)) (n - b * c + (b * c - n))
      go (yes l) =
          let l : r < b = omega arith in
          let m : r * c < b * c = mul-lt-mul_of_pos_right l C in
          ⊎_elim (λ (h : 2 * n < (r + b) * c). inl (omega arith)) (λ h. let e = h.0 in inr (omega arith, h.1, h.2)) (w.above b d l)
      go (no l) =
          let l : b < r = lt_of_not-le l in
          let m : b * c < r * c = mul-lt-mul_of_pos_right l C in
          ⊎_elim (λ (h : (r + b) * c < 2 * n). inl (omega arith)) (λ h. let e = h.0 in inr (omega arith, h.1, h.2)) (w.below b d l)

  other_sign : 0 < r + b → n - r * c + (r * c - n) < n + b * c
  other_sign ne = ⊎_elim none some (eq-zero-or-pos r)
    where
      none : r ≡ 0 → n - r * c + (r * c - n) < n + b * c
      none z =
          let e : r * c ≡ 0 = ap (λ (x : ℕ). x * c) z ∙ zero-mul c in
          let p : 0 < b * c = mul-pos (omega arith) C in
          omega arith

      -- zero is even, and so never wins a tie
      some : 0 < r → n - r * c + (r * c - n) < n + b * c
      some l =
          let m : 0 < r * c = mul-pos l C in
          ⊎_elim (λ (h : (r + 0) * c < 2 * n). omega arith) (λ h. let e = h.2 in absurd (even (cut_off 0 0 (size 0 - prec f) (sym (zero-mul (2 ^ (size 0 - prec f))))) e))
          (w.below 0 (record { m = 0; j = 0; is = refl; few = pow_pos (prec f) }) l)
        where
          even : {x : ℕ} → x ≡ 0 → x ≡ 1 → ⊥
          even e g = omega arith

nearer : (f : Format) (s t : Bool) (n c r b : ℕ) → 0 < c → Best f n c r → Digits (prec f) b → 0 < apart s r t b → Closer f r b (apart s n s (r * c)) (apart s n t (b * c))
nearer f true true n c r b C w d ne = same_sign f n c r b C w d ne
nearer f false false n c r b C w d ne = same_sign f n c r b C w d ne
nearer f true false n c r b C w d ne = inl (other_sign f n c r b C w d ne)
nearer f false true n c r b C w d ne = inl (other_sign f n c r b C w d ne)

pub round_rounded : (f : Format) (s : Bool) (a c : ℕ) → 0 < c → Rounded f s a c (round f s a c)
round_rounded f s a c C = go (dec_le (overflow f) (grid f a c))
  where
    held : T (fits f (round f s a c))
    held = round-fits f s a c

    go : Dec (overflow f ≤ grid f a c) → Rounded f s a c (round f s a c)
    go (yes l) =
        let over : Overflows f a c = (over_units f a c).1 (at_over f (a * 2 ^ low f) c (grid f a c) (best f a c C) l) in
        record {
          held = held;
          infinite = (λ e. over, λ o. round_is f s a c ∙ units_over f s (kept (prec f) (a * 2 ^ low f) c) (drop (prec f) (a * 2 ^ low f) c) l);
          near = λ no-over. absurd (no-over over);
        }
    go (no l) =
        let r = grid f a c in
        let n = a * 2 ^ low f in
        let less = lt_of_not-le l in
        let v : HasValue (round f s a c) s r (2 ^ low f) =
        subst (λ (x : Float). HasValue x s r (2 ^ low f)) (sym (round_is f s a c)) (units_val f s (kept (prec f) n c) (drop (prec f) n c) less) in
        record {
          held = held;
          infinite = (
            λ e. absurd (subst (λ (x : Float). HasValue x s r (2 ^ low f)) e v),
            λ o. absurd (under_over f n c r C (best f a c C) (digits f (round f s a c) s r held v) less ((over_units f a c).0 o)),
          );
          near = λ no-over. record { r = r; value = v; nearest = λ y t b G u ne. nearer f s t n c r b C (best f a c C) (digits f y t b G u) ne };
        }

-- only one value is the fraction rounded
pub rounded_unique : (f : Format) (s : Bool) (a c : ℕ) (x y : Float) → Rounded f s a c x → Rounded f s a c y → x ≡ y
rounded_unique f s a c x y v w = go (dec_le ((2 ^ suc (prec f) - 1) * 2 ^ (suc (emax f) - prec f) * c) (2 * a))
  where
    same : (s : Bool) (a b : ℕ) → (0 < apart s a s b → ⊥) → a ≡ b
    same true a b h = omega arith
    same false a b h = omega arith

    clash : (r b d e : ℕ) → Closer f r b d e → Closer f b r e d → ⊥
    clash r b d e (inl g) (inl h) = omega arith
    clash r b d e (inl g) (inr h) = let i = h.0 in omega arith
    clash r b d e (inr g) (inl h) = let i = g.0 in omega arith
    clash r b d e (inr g) (inr h) = let i = g.1 in let j = h.2 in omega arith

    flip : (s : Bool) (a b : ℕ) → 0 < apart s a s b → 0 < apart s b s a
    flip true a b h = omega arith
    flip false a b h = omega arith

    go : Dec (Overflows f a c) → x ≡ y
    go (yes o) = v.infinite.1 o ∙ sym (w.infinite.1 o)
    go (no o) =
        let p = v.near o in
        let q = w.near o in
        let e : p.r ≡ q.r = same s p.r q.r (λ h. clash p.r q.r (apart s (a * 2 ^ low f) s (p.r * c)) (apart s (a * 2 ^ low f) s (q.r * c)) (p.nearest y s q.r w.held q.value h) (q.nearest x s p.r v.held p.value (flip s p.r q.r h))) in
        unique f x y s p.r (2 ^ low f) (pow_pos (low f)) v.held w.held p.value (subst (λ (z : ℕ). HasValue y s z (2 ^ low f)) (sym e) q.value)

-- ---- what is defined by `round`. An operand is a value of which only its fraction is known: `HasValue x s a c` says
-- that x is ± a / c.

pub narrow_rounded : (x : Float) (s : Bool) (a c : ℕ) → 0 < c → HasValue x s a c → Rounded binary32 s a c (narrow_of x)
unfolding narrow_of
narrow_rounded nan s a c C v = absurd v
narrow_rounded (inf t) s a c C v = absurd v
narrow_rounded (fin t m e) s a c C v =
    subst (Rounded binary32 s a c)
    (sym (ap (λ (z : Bool). round binary32 z (m * up e) (down e)) v.0 ∙ round_same binary32 s (m * up e) (down e) a c (down_pos e) C v.1))
    (round_rounded binary32 s a c C)

pub of_rounded : (n : ℕ) → Rounded binary64 false n 1 (of n)
unfolding of_int
of_rounded n = round_rounded binary64 false n 1 (lit< tt)

pub fraction_rounded : (a c : ℕ) → 0 < c → Rounded binary64 false a c (fraction a c)
unfolding fraction
fraction_rounded a c C = round_rounded binary64 false a c C

pub mul_rounded : (x y : Float) (s t : Bool) (a c b d : ℕ) → 0 < c → 0 < d → HasValue x s a c → HasValue y t b d → Rounded binary64 (unlike s t) (a * b) (c * d) (x ⊗ y)
mul_rounded x y s t a c b d C D v w =
    subst (Rounded binary64 (unlike s t) (a * b) (c * d)) (sym (mul_over binary64 x y s t a c b d C D v w)) (round_rounded binary64 (unlike s t) (a * b) (c * d) (mul-pos C D))

pub div_rounded : (x y : Float) (s t : Bool) (a c b d : ℕ) → 0 < c → 0 < d → 0 < b → HasValue x s a c → HasValue y t b d → Rounded binary64 (unlike s t) (a * d) (b * c) (x ⊘ y)
div_rounded x y s t a c b d C D B v w =
    subst (Rounded binary64 (unlike s t) (a * d) (b * c)) (sym (div_over binary64 x y s t a c b d C D B v w)) (round_rounded binary64 (unlike s t) (a * d) (b * c) (mul-pos B C))

-- the sign of ± a + ± b: the larger one's, and where nothing is left, minus only if both are
abbrev pub sum_sign : Bool → ℕ → Bool → ℕ → Bool
sum_sign s a t b = cond (beq s t) s (cond (ltb a b) t (s && ltb b a))

sum_is : (f : Format) (s : Bool) (a : ℕ) (t : Bool) (b c : ℕ) → sum f s a t b c ≡ round f (sum_sign s a t b) (apart s a (not t) b) c
unfolding sum
sum_is f s a t b c = go s t
  where
    less : (s t o : Bool) → (T o → a < b) → (T (not o) → b ≤ a) → cond o (round f t (b - a) c) (round f s (a - b) c) ≡ round f (cond o t s) (a - b + (b - a)) c
    less s t true h g = let l = h tt in ap (λ (z : ℕ). round f t z c) (omega arith)
    less s t false h g = let l = g tt in ap (λ (z : ℕ). round f s z c) (omega arith)

    go : (s t : Bool) → cond (beq s t) (round f s (a + b) c) (cond (ltb a b) (round f t (b - a) c) (round f (s && ltb b a) (a - b) c)) ≡ round f (sum_sign s a t b) (apart s a (not t) b) c
    go true true = refl
    go false false = refl
    go true false = less (ltb b a) false (ltb a b) (ltb→lt a b) (nltb→le a b)
    go false true = less false true (ltb a b) (ltb→lt a b) (nltb→le a b)

-- over one denominator: |x + y| is the distance of x and -y, and |x - y| that of x and y
pub add_rounded : (x y : Float) (s t : Bool) (a b c : ℕ) → 0 < c → HasValue x s a c → HasValue y t b c → Rounded binary64 (sum_sign s a t b) (apart s a (not t) b) c (x ⊕ y)
add_rounded x y s t a b c C v w =
    subst (Rounded binary64 (sum_sign s a t b) (apart s a (not t) b) c) (sym (add_over binary64 x y s t a b c C v w ∙ sum_is binary64 s a t b c)) (round_rounded binary64 (sum_sign s a t b) (apart s a (not t) b) c C)

pub sub_rounded : (x y : Float) (s t : Bool) (a b c : ℕ) → 0 < c → HasValue x s a c → HasValue y t b c → Rounded binary64 (sum_sign s a (not t) b) (apart s a t b) c (x ⊖ y)
sub_rounded x y s t a b c C v w =
    subst (λ (z : Bool). Rounded binary64 (sum_sign s a (not t) b) (apart s a z b) c (x ⊖ y)) (not-not t)
    (subst (Rounded binary64 (sum_sign s a (not t) b) (apart s a (not (not t)) b) c) (sym (sub_over binary64 x y s t a b c C v w ∙ sum_is binary64 s a (not t) b c)) (round_rounded binary64 (sum_sign s a (not t) b) (apart s a (not (not t)) b) c C))
