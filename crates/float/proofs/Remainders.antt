-- |x| where x is not above zero (`abs_other`), and remainders: a % b is a itself where |a| is below |b|
-- (`rem_small`); what `rem_one` gets from the whole number next to x (`above_is`, `below_is`). Assumes nothing.
use Rattle.std.proofs.Common.{◌≡◌, ℕ, zero, suc, ◌+◌, ◌-◌, ◌*◌, ◌/◌, ◌%◌, ◌^◌, ◌<◌, ◌≤◌, Bool, true, false, cond, not, T, ℤ, pos, sym, refl, ap, ◌∙◌, subst, zero-le, lt_of_le_of_lt, le_of_lt, lt_irrefl, mod-lt, mod-eq_of_lt, zero-lt-suc, mul_assoc, mul_comm, mul-pos, one-mul, zero-add, zero-mul, mul-one, arith, lit<, ltb→lt, T_not}
use lib.Dec.{not_T}
use lib.Ieee.{Float, nan, inf, fin, Format, binary64, up, down, round, sum, add, neg, sub, rem, lt, fits, of_bits}
use lib.Ieee.Bits.{cond_no}
use lib.Ieee.Fits.{up_pos, down_pos}
use lib.Ieee.Exact.{HasValue}
use lib.Ieee.Scale.{round_same}
use Rattle.float.specs.Compare.{abs_of}
use Rattle.float.specs.Remainder.{rem_euclid_of}
use Rattle.float.proofs.Exactly.{fits_parts, zero_exp, few_exact, rest_few, round_self, neg_round}
use Rattle.float.proofs.Compared.{nought, lt→cross, under_power}
use Rattle.float.proofs.Sums.{cond_nil, add_over, sub_over, sum_less, sum_more, under_zero, not_under, over_zero, not_over_minus, none_under}
use Rattle.float.proofs.Cuts.{limit, gap, Bounce, over, under, bounce_is}

-- ---- |x|
pub abs_above : (x : Float) → T (lt nought x) → x ≡ abs_of x
unfolding lt abs_of
abs_above nan h = refl
abs_above (inf true) h = absurd h
abs_above (inf false) h = refl
abs_above (fin true m e) h = absurd h
abs_above (fin false m e) h = refl

zero_less : sub binary64 nought nought ≡ nought
unfolding sub
zero_less = refl

less_minus : (m : ℕ) (e : ℤ) → sub binary64 nought (fin true m e) ≡ round binary64 false (0 * 1 * down e + m * up e * 1) (1 * down e)
unfolding sub sum
less_minus m e = refl

clear : (d p : ℕ) → 0 * 1 * d + p * 1 ≡ p
clear d p = ap (λ (z : ℕ). z + p * 1) (zero-mul d) ∙ zero-add (p * 1) ∙ mul-one p

none_above : (m : ℕ) (e : ℤ) → T (not (lt nought (fin false m e))) → m ≡ 0
none_above zero e h = refl
none_above (suc m) e h = absurd (T_not (lt nought (fin false (suc m) e)) h (over_zero (fin false (suc m) e) (suc m * up e) (down e) (mul-pos (zero-lt-suc m) (up_pos e)) (refl, refl)))

less_plus : (m : ℕ) (e : ℤ) → m ≡ 0 → T (fits binary64 (fin false m e)) → sub binary64 nought (fin false m e) ≡ fin false m e
less_plus zero e h t = subst (λ (z : ℤ). sub binary64 nought (fin false 0 z) ≡ fin false 0 z) (sym (zero_exp binary64 false e t)) zero_less
less_plus (suc m) e h t = absurd (lt_irrefl 0 (subst (λ (z : ℕ). 0 < z) h (zero-lt-suc m)))

turned : (m : ℕ) (e : ℤ) → neg (fin true m e) ≡ fin false m e
unfolding neg
turned m e = refl

abs_minus : (m : ℕ) (e : ℤ) → T (fits binary64 (fin true m e)) → sub binary64 nought (fin true m e) ≡ fin false m e
abs_minus m e t =
    less_minus m e
    ∙ ap (λ (z : ℕ). round binary64 false z (1 * down e)) (clear (down e) (m * up e))
    ∙ ap (λ (z : ℕ). round binary64 false (m * up e) z) (one-mul (down e))
    ∙ sym (neg_round binary64 true (m * up e) (down e))
    ∙ minus (round_self binary64 true m e t)
  where
    minus : round binary64 true (m * up e) (down e) ≡ fin true m e → neg (round binary64 true (m * up e) (down e)) ≡ fin false m e
    minus h = ap neg h ∙ turned m e

pub abs_other : (x : Float) → T (fits binary64 x) → T (not (lt nought x)) → sub binary64 nought x ≡ abs_of x
unfolding sub abs_of lt
abs_other nan t h = refl
abs_other (inf true) t h = refl
abs_other (inf false) t h = absurd h
abs_other (fin true m e) t h = abs_minus m e t
abs_other (fin false m e) t h = less_plus m e (none_above m e h) t

-- ---- a % b where |a| is below |b|
pub rem_small : (f : Format) (x y : Float) → T (fits f x) → T (lt (abs_of x) (abs_of y)) → x ≡ rem f x y
unfolding rem lt abs_of
rem_small f nan y t h = refl
rem_small f (inf s) nan t h = absurd h
rem_small f (inf s) (inf u) t h = absurd h
rem_small f (inf s) (fin u n g) t h = absurd h
rem_small f (fin s m e) nan t h = absurd h
rem_small f (fin s m e) (inf u) t h = refl
rem_small f (fin s m e) (fin u n g) t h =
    let a = m * up e * down g in
    let b = n * up g * down e in
    let l : a < b = ltb→lt a b h in
    let b-pos : 0 < n = some n (up g) (down e) (lt_of_le_of_lt (omega arith) l) in
    sym
    (cond_nil n nan (round f s (a % b) (down e * down g)) b-pos
    ∙ ap (λ (z : ℕ). round f s z (down e * down g)) (mod-eq_of_lt l)
    ∙ round_same f s a (down e * down g) (m * up e) (down e) (mul-pos (down_pos e) (down_pos g)) (down_pos e) (mul_assoc (m * up e) (down g) (down e) ∙ ap (λ (z : ℕ). m * up e * z) (mul_comm (down g) (down e)))
    ∙ round_self f s m e t)
  where
    some : (n u d : ℕ) → 0 < n * u * d → 0 < n
    some zero u d h = subst (λ (z : ℕ). 0 < z) (ap (λ (z : ℕ). z * d) (zero-mul u) ∙ zero-mul d) h
    some (suc n) u d h = zero-lt-suc n

-- ---- x % 1
abbrev unit : Float
unit = fin false 1 (pos 0)

unit_value : (c : ℕ) → HasValue unit false c c
unit_value c = (refl, one-mul c ∙ sym (mul-one c))

rem_one_open : (f : Format) (s : Bool) (m : ℕ) (e : ℤ) → rem f (fin s m e) unit ≡ round f s (m * up e * 1 % (1 * down e)) (down e * 1)
unfolding rem
rem_one_open f s m e = refl

rem_one_at : (f : Format) (s : Bool) (m : ℕ) (e : ℤ) → rem f (fin s m e) unit ≡ round f s (m * up e % down e) (down e)
rem_one_at f s m e =
    rem_one_open f s m e
    ∙ ap (λ (z : ℕ). round f s (z % (1 * down e)) (down e * 1)) (mul-one (m * up e))
    ∙ ap (λ (z : ℕ). round f s (m * up e % z) (down e * 1)) (one-mul (down e))
    ∙ ap (λ (z : ℕ). round f s (m * up e % down e) z) (mul-one (down e))

-- ---- what `rem_euclid` makes of x % 1
cond_yes : {X : Type 0} (b : Bool) (x y : X) → T b → cond b x y ≡ x
cond_yes true x y t = refl
cond_yes false x y t = absurd t

moved : Float → Float
moved v = cond (lt v nought) (add binary64 v unit) v

euclid_one : (x v : Float) → rem binary64 x unit ≡ v → rem_euclid_of x unit ≡ moved v
unfolding rem_euclid_of of_bits abs_of moved
euclid_one x v h = ap moved h

stays : (v : Float) → T (not (lt v nought)) → moved v ≡ v
unfolding moved
stays v h = cond_no (lt v nought) (add binary64 v unit) v h

moves : (v : Float) (r c : ℕ) → 0 < r → r < c → HasValue v true r c → moved v ≡ round binary64 false (c - r) c
unfolding moved
moves v r c R l h =
    cond_yes (lt v nought) (add binary64 v unit) v (under_zero v r c R h)
    ∙ add_over binary64 v unit true false r c c (lt_of_le_of_lt (zero-le) l) h (unit_value c)
    ∙ sum_more binary64 true r c c l

-- ---- x from 0 up
pub record Above (x : Float) : Type 0 where
  pub more : T (lt (gap x) nought) → add binary64 (gap x) unit ≡ rem_euclid_of x unit
  pub same : T (not (lt (gap x) nought)) → gap x ≡ rem_euclid_of x unit

diff_pos : (r c : ℕ) → r < c → 0 < c - r
diff_pos r c h = omega arith

half_pos : (r c : ℕ) → 0 < c → c ≤ r * 2 → 0 < r
half_pos r c C h = omega arith

half_few : (r c p : ℕ) → c ≤ r * 2 → r < p → c - r < p
half_few r c p h k = omega arith

above_gap : (m : ℕ) (e : ℤ) (q r : ℕ) → r < down e → r < 2 ^ 53 → down e ≤ 2 ^ 1074 → rem binary64 (fin false m e) unit ≡ round binary64 false r (down e) → Bounce (fin false m e) q r (down e) → Above (fin false m e)
above_gap m e q r R few d is (over b g) =
    let c = down e in
    let x = fin false m e in
    let v = few_exact binary64 false r e d few in
    let z : T (not (lt (gap x) nought)) = subst (λ (y : Float). T (not (lt y nought))) (sym g) (not_under (round binary64 false r c) r c v) in
    record {
      more = λ t. absurd (T_not (lt (gap x) nought) z t);
      same = λ t. g ∙ sym (euclid_one x (round binary64 false r c) is ∙ stays (round binary64 false r c) (not_under (round binary64 false r c) r c v));
    }
above_gap m e q r R few d is (under b half g) =
    let c = down e in
    let x = fin false m e in
    let v = few_exact binary64 false r e d few in
    let w : HasValue (gap x) true (c - r) c = subst (λ (y : Float). HasValue y true (c - r) c) (sym g) (few_exact binary64 true (c - r) e d (half_few r c (2 ^ 53) half few)) in
    record {
      more = λ t. add_over binary64 (gap x) unit true false (c - r) c c (down_pos e) w (unit_value c)
          ∙ sum_more binary64 true (c - r) c c (shorter r c (half_pos r c (down_pos e) half) R)
          ∙ ap (λ (z : ℕ). round binary64 false z c) (back_again r c R)
          ∙ sym (euclid_one x (round binary64 false r c) is ∙ stays (round binary64 false r c) (not_under (round binary64 false r c) r c v));
      same = λ t. absurd (T_not (lt (gap x) nought) t (under_zero (gap x) (c - r) c (diff_pos r c R) w));
    }
  where
    shorter : (r c : ℕ) → 0 < r → r < c → c - r < c
    shorter r c h k = omega arith

    back_again : (r c : ℕ) → r < c → c - (c - r) ≡ r
    back_again r c h = omega arith

minus_none : (m : ℕ) (e : ℤ) → T (not (lt (fin true m e) nought)) → m ≡ 0
minus_none zero e h = refl
minus_none (suc m) e h = absurd (T_not (lt (fin true (suc m) e) nought) h (under_zero (fin true (suc m) e) (suc m * up e) (down e) (mul-pos (zero-lt-suc m) (up_pos e)) (refl, refl)))

minus_zero : Above (fin true 0 (pos 0))
unfolding sub add lt rem rem_euclid_of of_bits abs_of
minus_zero = record {
  more = λ t. absurd t;
  same = λ t. refl;
}

above_minus : (m : ℕ) (e : ℤ) → m ≡ 0 → T (fits binary64 (fin true m e)) → Above (fin true m e)
above_minus zero e h t = subst (λ (z : ℤ). Above (fin true 0 z)) (sym (zero_exp binary64 true e t)) minus_zero
above_minus (suc m) e h t = absurd (lt_irrefl 0 (subst (λ (z : ℕ). 0 < z) h (zero-lt-suc m)))

pub above_is : (x : Float) → T (fits binary64 x) → T (not (lt x nought)) → T (lt x limit) → Above x
unfolding lt
above_is nan t h k = absurd k
above_is (inf true) t h k = absurd h
above_is (inf false) t h k = absurd k
above_is (fin true m e) t h k = above_minus m e (minus_none m e h) t
above_is (fin false m e) t h k =
    let w = fits_parts binary64 false m e t in
    above_gap m e (m * up e / down e) (m * up e % down e) (mod-lt (m * up e) (down_pos e)) (rest_few binary64 m e w.0) w.1 (rem_one_at binary64 false m e) (bounce_is m e (under_power (fin false m e) (m * up e) (down e) 52 (down_pos e) (refl, refl) k))

-- ---- x below 0, by its size
pub record Below (x : Float) : Type 0 where
  pub more : T (lt nought (gap (neg x))) → sub binary64 unit (gap (neg x)) ≡ rem_euclid_of x unit
  pub same : T (not (lt nought (gap (neg x)))) → neg (gap (neg x)) ≡ rem_euclid_of x unit

none_over : (x : Float) (c : ℕ) → 0 < c → HasValue x false 0 c → T (lt nought x) → ⊥
none_over x c C v h = lt_irrefl 0 (subst (λ (z : ℕ). z < 0 * 1) (zero-mul c) (lt→cross nought x 0 1 0 c (lit< tt) C (refl, refl) v h))

below_gap : (m : ℕ) (e : ℤ) (q r : ℕ) → r < down e → r < 2 ^ 53 → down e ≤ 2 ^ 1074 → rem binary64 (fin true m e) unit ≡ round binary64 true r (down e) → Bounce (fin false m e) q r (down e)
    → (T (lt nought (gap (fin false m e))) → sub binary64 unit (gap (fin false m e)) ≡ rem_euclid_of (fin true m e) unit) × (T (not (lt nought (gap (fin false m e)))) → neg (gap (fin false m e)) ≡ rem_euclid_of (fin true m e) unit)
below_gap m e q zero R few d is (over b g) =
    let c = down e in
    let y = fin false m e in
    let v : HasValue (gap y) false 0 c = subst (λ (z : Float). HasValue z false 0 c) (sym g) (few_exact binary64 false 0 e d few) in
    let w = few_exact binary64 true 0 e d few in (
      λ t. absurd (none_over (gap y) c (down_pos e) v t),
      λ t. ap neg g ∙ neg_round binary64 false 0 c ∙ sym (euclid_one (fin true m e) (round binary64 true 0 c) is ∙ stays (round binary64 true 0 c) (not_T (lt (round binary64 true 0 c) nought) (none_under (round binary64 true 0 c) c (down_pos e) w))),
    )
below_gap m e q (suc r) R few d is (over b g) =
    let c = down e in
    let y = fin false m e in
    let p = suc r in
    let v : HasValue (gap y) false p c = subst (λ (z : Float). HasValue z false p c) (sym g) (few_exact binary64 false p e d few) in
    let w = few_exact binary64 true p e d few in (
      λ t. sub_over binary64 unit (gap y) false false c p c (down_pos e) (unit_value c) v ∙ sum_less binary64 c p c (le_of_lt R) ∙ sym (euclid_one (fin true m e) (round binary64 true p c) is ∙ moves (round binary64 true p c) p c (zero-lt-suc r) R w),
      λ t. absurd (T_not (lt nought (gap y)) t (over_zero (gap y) p c (zero-lt-suc r) v)),
    )
below_gap m e q r R few d is (under b half g) =
    let c = down e in
    let y = fin false m e in
    let v : HasValue (gap y) true (c - r) c = subst (λ (z : Float). HasValue z true (c - r) c) (sym g) (few_exact binary64 true (c - r) e d (half_few r c (2 ^ 53) half few)) in
    let w = few_exact binary64 true r e d few in (
      λ t. absurd (T_not (lt nought (gap y)) (not_over_minus (gap y) (c - r) c v) t),
      λ t. ap neg g ∙ neg_round binary64 true (c - r) c ∙ sym (euclid_one (fin true m e) (round binary64 true r c) is ∙ moves (round binary64 true r c) r c (half_pos r c (down_pos e) half) R w),
    )

pub below_is : (x : Float) → T (fits binary64 x) → T (lt x nought) → T (lt (neg x) limit) → Below x
unfolding lt neg
below_is nan t h k = absurd h
below_is (inf true) t h k = absurd k
below_is (inf false) t h k = absurd h
below_is (fin false m e) t h k = absurd (T_not (lt (fin false m e) nought) (not_under (fin false m e) (m * up e) (down e) (refl, refl)) h)
below_is (fin true m e) t h k =
    let w = fits_parts binary64 true m e t in
    let b = below_gap m e (m * up e / down e) (m * up e % down e) (mod-lt (m * up e) (down_pos e)) (rest_few binary64 m e w.0) w.1 (rem_one_at binary64 true m e) (bounce_is m e (under_power (fin false m e) (m * up e) (down e) 52 (down_pos e) (refl, refl) k)) in
    record {
      more = b.0;
      same = b.1;
    }
