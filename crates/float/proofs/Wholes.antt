-- `floor`, `ceil` and `round` on a value above zero: below 2 ^ 52 by the whole number next to it (`small_is`), and
-- from there on the value itself, which is whole (`large`); then by sign. Assumes nothing.
use Rattle.std.proofs.Common.{◌≡◌, ℕ, zero, suc, ◌+◌, ◌-◌, ◌*◌, ◌/◌, ◌%◌, ◌^◌, ◌<◌, ◌≤◌, Bool, true, false, cond, not, T, ℤ, pos, negsuc, sym, refl, ap, ◌∙◌, subst, true≢false, le_trans, le_of_eq, lt_of_lt_of_le, mul-le-mul_right, zero-lt-suc, div-lt_iff_lt-mul, mul-pos, one-mul, zero-mul, mul-one, not-le_of_lt, add-one, arith, lit<, lit≤, ltb→lt, lt→ltb, nltb→le, T_not, pow_pos}
use native.Mathlib.Nat.{pow-succ'}
use lib.Ieee.{Float, nan, inf, fin, binary64, up, down, round, add, sub, neg, lt, le, of_int, to_unsigned, fits}
use lib.Ieee.Fits.{down_pos, up_pos}
use lib.Ieee.Exact.{HasValue}
use lib.Ieee.Positive.{above, above_of_le}
use Rattle.float.specs.Whole.{cut, lifted, half_up, whole_by}
use Rattle.float.proofs.Exactly.{fits_says, fits_parts, zero_exp, few_exact, rest_few, round_self, neg_round}
use Rattle.float.proofs.Compared.{nought, yes, no, lt→cross, nlt→cross, le→value, nle→value, under_power, over_power, unsigned_value}
use Rattle.float.proofs.Sums.{not_under}
use Rattle.float.proofs.Counts.{whole_value, whole_add, whole_sub}
use Rattle.float.proofs.Picks.{Steps, cut_steps, lifted_steps, half_steps, wholly, stays, split, lifted_next, lifted_same, half_next, half_same}
use Rattle.float.proofs.Cuts.{limit, bounced, gap, Bounce, over, under, bounce_is}

-- ---- a value above zero and below the limit
pub small : (x : Float) → T (lt nought x) → T (lt x limit) → (m : ℕ) × (e : ℤ) × (x ≡ fin false m e) × (m * up e < 2 ^ 52 * down e)
unfolding lt
small nan h k = absurd h
small (inf true) h k = absurd h
small (inf false) h k = absurd k
small (fin true m e) h k = absurd h
small (fin false m e) h k = (m, e, refl, under_power (fin false m e) (m * up e) (down e) 52 (down_pos e) (refl, refl) k)

-- by its own fraction
opened : (pick : ℕ → ℕ → ℕ) (m : ℕ) (e : ℤ) → whole_by pick (fin false m e) ≡ of_int binary64 (pos (pick (m * up e) (down e)))
unfolding whole_by of_int
opened pick m e = refl

-- its whole part as an integer, and as a float
pub cut_is : (x : Float) → T (lt nought x) → T (lt x limit) → (n : ℕ) × (n < 2 ^ 52) × (to_unsigned 64 x ≡ n) × (whole_by cut x ≡ of_int binary64 (pos n))
cut_is x h k =
    let w = small x h k in
    subst (λ (y : Float). (n : ℕ) × (n < 2 ^ 52) × (to_unsigned 64 y ≡ n) × (whole_by cut y ≡ of_int binary64 (pos n))) (sym w.2) (here w.0 w.1 w.3)
  where
    here : (m : ℕ) (e : ℤ) → m * up e < 2 ^ 52 * down e → (n : ℕ) × (n < 2 ^ 52) × (to_unsigned 64 (fin false m e) ≡ n) × (whole_by cut (fin false m e) ≡ of_int binary64 (pos n))
    here m e h = (
      m * up e / down e,
      (div-lt_iff_lt-mul (down_pos e)).1 h,
      unsigned_value 64 (fin false m e) (m * up e) (down e) (down_pos e) (refl, refl) (lt_of_lt_of_le h (mul-le-mul_right (down e) (lit≤ tt))),
      opened cut m e,
    )

-- ---- what the code does with the whole number next to x
abbrev unit : Float
unit = fin false 1 (pos 0)

abbrev pub half : Float
half = fin false 1 (negsuc 0)

pub record Small (x : Float) : Type 0 where
  pub down_more : T (lt x (bounced x)) → sub binary64 (bounced x) unit ≡ whole_by cut x
  pub down_same : T (not (lt x (bounced x))) → bounced x ≡ whole_by cut x
  pub up_more : T (lt (bounced x) x) → add binary64 (bounced x) unit ≡ whole_by lifted x
  pub up_same : T (not (lt (bounced x) x)) → bounced x ≡ whole_by lifted x
  pub near_more : T (le half (gap x)) → add binary64 (bounced x) unit ≡ whole_by half_up x
  pub near_same : T (not (le half (gap x))) → bounced x ≡ whole_by half_up x

one_is : of_int binary64 (pos 1) ≡ unit
unfolding of_int
one_is = refl

next_is : (q : ℕ) → q ≤ 2 ^ 53 → add binary64 (of_int binary64 (pos q)) unit ≡ of_int binary64 (pos (suc q))
next_is q h = ap (λ (z : Float). add binary64 (of_int binary64 (pos q)) z) (sym one_is) ∙ whole_add binary64 q 1 h (lit≤ tt) ∙ ap (λ (n : ℕ). of_int binary64 (pos n)) (add-one q)

last_is_lem : (q : ℕ) → suc q ≤ 2 ^ 53 → sub binary64 (of_int binary64 (pos (suc q))) unit ≡ of_int binary64 (pos q)
last_is_lem q h = ap (λ (z : Float). sub binary64 (of_int binary64 (pos (suc q))) z) (sym one_is) ∙ whole_sub binary64 (suc q) 1 h (omega arith) ∙ ap (λ (n : ℕ). of_int binary64 (pos n)) (omega arith)

module _ (m : ℕ) (e : ℤ) (t : T (fits binary64 (fin false m e))) (h : m * up e < 2 ^ 52 * down e) where
  q_lt : m * up e / down e < 2 ^ 52
  q_lt = (div-lt_iff_lt-mul (down_pos e)).1 h

  value_q : (k : ℕ) → k ≤ 2 ^ 53 → bounced (fin false m e) ≡ of_int binary64 (pos k) → HasValue (bounced (fin false m e)) false k 1
  value_q k l b = subst (λ (z : Float). HasValue z false k 1) (sym b) (whole_value binary64 k l)

  small_at : Bounce (fin false m e) (m * up e / down e) (m * up e % down e) (down e) → Small (fin false m e)
  small_at (over b g) =
      let x = fin false m e in
      let a = m * up e in
      let c = down e in
      let C = down_pos e in
      let q = a / c in
      let r = a % c in
      let s = split a c C in
      let o = mul-one a in
      let w = fits_parts binary64 false m e t in
      let v = value_q q (omega (arith, q_lt)) b in
      let d : HasValue (gap x) false r c = subst (λ (z : Float). HasValue z false r c) (sym g) (few_exact binary64 false r e w.1 (rest_few binary64 m e w.0)) in
      let more : add binary64 (bounced x) unit ≡ of_int binary64 (pos (suc q)) = ap (λ (z : Float). add binary64 z unit) b ∙ next_is q (omega (arith, q_lt)) in
      record {
        down_more = λ k. absurd (omega (arith, s.0, o, lt→cross x (bounced x) a c q 1 C (lit< tt) (refl, refl) v k));
        down_same = λ k. b ∙ sym (opened cut m e);
        up_more = λ k. more ∙ ap (λ (n : ℕ). of_int binary64 (pos n)) (sym (lifted_next a c C (omega (arith, s.0, o, lt→cross (bounced x) x q 1 a c (lit< tt) C v (refl, refl) k)))) ∙ sym (opened lifted m e);
        up_same = λ k. b ∙ ap (λ (n : ℕ). of_int binary64 (pos n)) (sym (lifted_same a c C (omega (arith, s.0, o, nlt→cross (bounced x) x q 1 a c (lit< tt) C v (refl, refl) k)))) ∙ sym (opened lifted m e);
        near_more = λ k. more ∙ ap (λ (n : ℕ). of_int binary64 (pos n)) (sym (half_next a c C (le_trans (le_of_eq (sym (one-mul c))) (le→value half (gap x) 1 2 r c (lit< tt) C (refl, refl) d k)))) ∙ sym (opened half_up m e);
        near_same = λ k. b ∙ ap (λ (n : ℕ). of_int binary64 (pos n)) (sym (half_same a c C (lt_of_lt_of_le (nle→value half (gap x) 1 2 r c (lit< tt) C (refl, refl) d k) (le_of_eq (one-mul c))))) ∙ sym (opened half_up m e);
      }
  small_at (under b l g) =
      let x = fin false m e in
      let a = m * up e in
      let c = down e in
      let C = down_pos e in
      let q = a / c in
      let r = a % c in
      let s = split a c C in
      let o = mul-one a in
      let w = fits_parts binary64 false m e t in
      let v = value_q (suc q) (omega (arith, q_lt)) b in
      let d : HasValue (gap x) true (c - r) c = subst (λ (z : Float). HasValue z true (c - r) c) (sym g) (few_exact binary64 true (c - r) e w.1 (omega (arith, l, rest_few binary64 m e w.0))) in
      record {
        down_more = λ k. ap (λ (z : Float). sub binary64 z unit) b ∙ last_is_lem q (omega (arith, q_lt)) ∙ sym (opened cut m e);
        down_same = λ k. absurd (omega (arith, s.0, s.1, s.2, o, nlt→cross x (bounced x) a c (suc q) 1 C (lit< tt) (refl, refl) v k));
        up_more = λ k. absurd (omega (arith, s.0, s.1, s.2, o, lt→cross (bounced x) x (suc q) 1 a c (lit< tt) C v (refl, refl) k));
        up_same = λ k. b ∙ ap (λ (n : ℕ). of_int binary64 (pos n)) (sym (lifted_next a c C (omega (arith, C, l)))) ∙ sym (opened lifted m e);
        near_more = λ k. absurd (minus_above (gap x) (c - r) c d (above_of_le half (gap x) tt k));
        near_same = λ k. b ∙ ap (λ (n : ℕ). of_int binary64 (pos n)) (sym (half_next a c C l)) ∙ sym (opened half_up m e);
      }
    where
      minus_above : (z : Float) (a c : ℕ) → HasValue z true a c → T (above z) → ⊥
      minus_above nan a c v h = v
      minus_above (inf s) a c v h = v
      minus_above (fin true n d) a c v h = h
      minus_above (fin false n d) a c v h = true≢false (sym v.0)

pub small_fin : (m : ℕ) (e : ℤ) → T (fits binary64 (fin false m e)) → m * up e < 2 ^ 52 * down e → Small (fin false m e)
small_fin m e t h = small_at m e t h (bounce_is m e h)

pub small_is : (x : Float) → T (fits binary64 x) → T (lt nought x) → T (lt x limit) → Small x
small_is x t h k =
    let w = small x h k in
    subst Small (sym w.2) (small_fin w.0 w.1 (subst (λ (y : Float). T (fits binary64 y)) w.2 t) w.3)

-- ---- a value that is whole already: from 2 ^ 52 on, and zero
too_long : (m p : ℕ) → 0 < p → m < 2 ^ 53 → 2 ^ 52 * (2 * p) ≤ m → ⊥
too_long m p P h k = omega arith

pub large : (pick : ℕ → ℕ → ℕ) → Steps pick → (x : Float) → T (fits binary64 x) → T (lt nought x) → T (not (lt x limit)) → x ≡ whole_by pick x
unfolding whole_by lt
large pick i nan t h k = absurd h
large pick i (inf s) t h k = refl
large pick i (fin true m e) t h k = absurd h
large pick i (fin false m (pos l)) t h k = sym (ap (λ (z : ℕ). round binary64 false z 1) (stays pick i (m * 2 ^ l)) ∙ round_self binary64 false m (pos l) t)
large pick i (fin false zero (negsuc l)) t h k = absurd (no_zero (0 * 1 * 1) refl (ltb→lt (0 * 1 * 2 ^ suc l) (0 * 1 * 1) h))
  where
    no_zero : (z : ℕ) {y : ℕ} → z ≡ 0 → y < z → ⊥
    no_zero z e h = omega arith
large pick i (fin false (suc m) (negsuc l)) t h k =
    absurd (too_long (suc m) (2 ^ l) (pow_pos l) (fits_says binary64 false m (negsuc l) t).1
    (le_trans (le_of_eq (ap (λ (z : ℕ). 2 ^ 52 * z) (sym (pow-succ' 2 l)))) (le_trans (over_power (fin false (suc m) (negsuc l)) (suc m * 1) (2 ^ suc l) 52 (pow_pos (suc l)) (refl, refl) k) (le_of_eq (mul-one (suc m))))))

-- what is mended below the limit and stays from there on
mended_is : (pick : ℕ → ℕ → ℕ) → Steps pick → (x r more same : Float) (test : Bool) → (Small x → (T test → more ≡ whole_by pick x) × (T (not test) → same ≡ whole_by pick x))
    → T (fits binary64 x) → T (lt nought x) → (T (lt x limit) → r ≡ cond test more same) → (T (not (lt x limit)) → r ≡ x) → r ≡ whole_by pick x
mended_is pick i x r more same test by t h below whole = go (lt x limit) refl
  where
    made : (b : Bool) → (T b → more ≡ whole_by pick x) → (T (not b) → same ≡ whole_by pick x) → cond b more same ≡ whole_by pick x
    made true f g = f tt
    made false f g = g tt

    go : (b : Bool) → lt x limit ≡ b → r ≡ whole_by pick x
    go true e = let s = by (small_is x t h (yes e)) in below (yes e) ∙ made test s.0 s.1
    go false e = whole (no e) ∙ large pick i x t h (no e)

module _ (x r : Float) where
  pub down_is : T (fits binary64 x) → T (lt nought x) → (T (lt x limit) → r ≡ cond (lt x (bounced x)) (sub binary64 (bounced x) unit) (bounced x)) → (T (not (lt x limit)) → r ≡ x) → r ≡ whole_by cut x
  down_is = mended_is cut cut_steps x r _ _ _ (λ s. (s.down_more, s.down_same))

  pub up_is : T (fits binary64 x) → T (lt nought x) → (T (lt x limit) → r ≡ cond (lt (bounced x) x) (add binary64 (bounced x) unit) (bounced x)) → (T (not (lt x limit)) → r ≡ x) → r ≡ whole_by lifted x
  up_is = mended_is lifted lifted_steps x r _ _ _ (λ s. (s.up_more, s.up_same))

  pub near_is : T (fits binary64 x) → T (lt nought x) → (T (lt x limit) → r ≡ cond (le half (gap x)) (add binary64 (bounced x) unit) (bounced x)) → (T (not (lt x limit)) → r ≡ x) → r ≡ whole_by half_up x
  near_is = mended_is half_up half_steps x r _ _ _ (λ s. (s.near_more, s.near_same))

-- neither above nor below zero: a NaN or a zero
zero_keeps : (pick : ℕ → ℕ → ℕ) → Steps pick → (s : Bool) (e : ℤ) → T (fits binary64 (fin s 0 e)) → fin s 0 e ≡ round binary64 s (pick (0 * up e) (down e)) 1
zero_keeps pick i s e t =
    let z = zero_exp binary64 s e t in
    let u : T (fits binary64 (fin s 0 (pos 0))) = subst (λ (x : ℤ). T (fits binary64 (fin s 0 x))) z t in
    subst (λ (x : ℤ). fin s 0 x ≡ round binary64 s (pick (0 * up x) (down x)) 1) (sym z) (sym (ap (λ (n : ℕ). round binary64 s n 1) (stays pick i 0) ∙ round_self binary64 s 0 (pos 0) u))

-- ---- the sign
pub neg_above : (x : Float) → T (lt x nought) → T (lt nought (neg x))
unfolding lt neg
neg_above nan h = absurd h
neg_above (inf true) h = tt
neg_above (inf false) h = absurd h
neg_above (fin true m e) h = lt→ltb (0 * 1 * down e) (m * up e * 1) (omega (arith, zero-mul (down e), ltb→lt 0 (m * up e * 1 + 0 * 1 * down e) h))
neg_above (fin false m e) h = absurd (omega (arith, zero-mul (down e), ltb→lt (m * up e * 1) (0 * 1 * down e) h))

-- neither above nor below zero
pub unsigned_only : (P : Float → Type 0) → P nan → ((s : Bool) (e : ℤ) → P (fin s 0 e)) → (x : Float) → T (not (lt nought x)) → T (not (lt x nought)) → P x
unfolding lt
unsigned_only P n z nan h k = n
unsigned_only P n z (inf true) h k = absurd k
unsigned_only P n z (inf false) h k = absurd h
unsigned_only P n z (fin s zero e) h k = z s e
unsigned_only P n z (fin false (suc m) e) h k = absurd (not-le_of_lt (mul-pos (mul-pos (zero-lt-suc m) (up_pos e)) (lit< tt)) (le_trans (nltb→le (0 * 1 * down e) (suc m * up e * 1) h) (le_of_eq (zero-mul (down e)))))
unsigned_only P n z (fin true (suc m) e) h k = absurd (none (suc m * up e * 1) (0 * 1 * down e) (mul-pos (mul-pos (zero-lt-suc m) (up_pos e)) (lit< tt)) (nltb→le 0 (suc m * up e * 1 + 0 * 1 * down e) k))
  where
    none : (a z : ℕ) → 0 < a → a + z ≤ 0 → ⊥
    none a z h k = omega arith

-- ---- the three functions, by sign
module _ (pick : Bool → ℕ → ℕ → ℕ) where
  pub plus_is : (x : Float) → T (lt nought x) → whole_by (pick false) x ≡ wholly pick x
  unfolding whole_by wholly lt
  plus_is nan h = refl
  plus_is (inf s) h = refl
  plus_is (fin true m e) h = absurd h
  plus_is (fin false m e) h = refl

  pub minus_is : (x : Float) → T (lt x nought) → neg (whole_by (pick true) (neg x)) ≡ wholly pick x
  unfolding whole_by wholly neg
  minus_is nan h = refl
  minus_is (inf true) h = refl
  minus_is (inf false) h = refl
  minus_is (fin true m e) h = neg_round binary64 false (pick true (m * up e) (down e)) 1
  minus_is (fin false m e) h = absurd (T_not (lt (fin false m e) nought) (not_under (fin false m e) (m * up e) (down e) (refl, refl)) h)

  pub none_is : ((s : Bool) → Steps (pick s)) → (x : Float) → T (not (lt nought x)) → T (not (lt x nought)) → T (fits binary64 x) → x ≡ wholly pick x
  unfolding wholly
  none_is steps = unsigned_only (λ (x : Float). T (fits binary64 x) → x ≡ wholly pick x) (λ _. refl) (λ s e. zero_keeps (pick s) (steps s) s e)

  pub signed_is : ((s : Bool) → Steps (pick s)) → (x r : Float) → T (fits binary64 x) → (T (lt nought x) → r ≡ whole_by (pick false) x)
      → (T (lt x nought) → (z : Float) × (z ≡ whole_by (pick true) (neg x)) × (r ≡ neg z)) → (T (not (lt nought x)) → T (not (lt x nought)) → r ≡ x) → r ≡ wholly pick x
  signed_is steps x r t above below none = go (lt nought x) (lt x nought) refl refl
    where
      go : (a b : Bool) → lt nought x ≡ a → lt x nought ≡ b → r ≡ wholly pick x
      go true b e f = above (yes e) ∙ plus_is x (yes e)
      go false true e f = let z = below (yes f) in z.2 ∙ ap neg z.1 ∙ minus_is x (yes f)
      go false false e f = none (no e) (no f) ∙ none_is steps x (no e) (no f) t
