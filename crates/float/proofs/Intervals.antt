-- From tests on floats to bounds on whole numbers. With lo = ceil(x), hi = floor(y), once `lo < 0`, `hi > n` and `hi
-- - lo < m` have all failed: `interval_is` says for finite x and y that lo and hi are whole numbers (`Upto`), at most
-- n and at least m apart. `upto_back`: what such a whole number is. Assumes nothing.
use Rattle.std.proofs.Common.{◌≡◌, ℕ, suc, ◌+◌, ◌-◌, ◌*◌, ◌^◌, ◌<◌, ◌≤◌, Bool, true, false, cond, not, ◌&&◌, T, ltb, leb, pos, sym, refl, ap, ◌∙◌, subst, true≢false, zero-le, le_trans, le_of_eq, le_of_suc-le-suc, le_of_lt, lt_irrefl, mul-pos, lt_of_not-le, zero-mul, mul-one, not-le_of_lt, div-one, arith, lit<, ltb→lt, leb→le}
use mathlib.Core.Bool.{beq}
use lib.Ieee.{Float, nan, inf, fin, binary64, up, down, round, sum, neg, sub, lt, le, of_int, of_bits, to_unsigned, fits, is_nan}
use lib.Ieee.Fits.{round-fits, up_pos}
use lib.Ieee.Exact.{HasValue}
use lib.Ieee.Scale.{finite}
use lib.Ieee.Order.{round_mono}
use lib.Ieee.Back.{round_whole}
use lib.Ieee.Positive.{positive, positive_of_value, above, above_of_le}
use Rattle.float.specs.Ops.{plus_zero, of, ◌⊖◌}
use Rattle.float.specs.Whole.{floor_of, ceil_of}
use Rattle.float.proofs.Exactly.{neg_round}
use Rattle.float.proofs.Compared.{nought, no, unsigned_value}
use Rattle.float.proofs.Ordered.{unsigned_mono, sub_above}
use Rattle.float.proofs.Sums.{over_zero, sub_over, sum_plus, sum_less}
use Rattle.float.proofs.Counts.{whole_is, whole_value, whole_le}
use Rattle.float.proofs.Signs.{round_signed, signed_number}
use Rattle.float.proofs.Picks.{wholly, floor_pick, ceil_pick, floor_is, ceil_is}
use Rattle.float.proofs.Monotone.{neg_le, lt_le, not_lt_le, le_through}

-- ---- a rounded whole number between 0 and n is that number
pub record Upto (x : Float) (n : ℕ) : Type 0 where
  pub sign : Bool
  pub count : ℕ
  pub value : HasValue x sign count 1
  pub most : count ≤ n
  pub clear : sign ≡ true → count ≡ 0
  pub held : T (fits binary64 x)

under : (p n : ℕ) → n < 2 ^ 53 → T (le (round binary64 false p 1) (of n)) → p ≤ n
under p n N h = le_of_suc-le-suc (lt_of_not-le (λ (g : suc n ≤ p). lt_irrefl n (leb→le (suc n) n (over g))))
  where
    over : suc n ≤ p → T (leb (suc n) n)
    over g =
        subst T (whole_le binary64 (suc n) n N (le_of_lt N))
        (le_through (of (suc n)) (round binary64 false p 1) (of n)
        (subst (λ (z : Float). T (le z (round binary64 false p 1))) (whole_is binary64 (suc n)) (round_mono binary64 (suc n) 1 p 1 (lit< tt) (lit< tt) (omega (arith, g))))
        h)

minus_under : T (le (fin true 0 (pos 0)) (of 0))
unfolding le of_int
minus_under = tt

minus_of : neg nought ≡ fin true 0 (pos 0)
unfolding neg
minus_of = refl

upto_of : (s : Bool) (p n : ℕ) → n < 2 ^ 53 → T (le nought (round binary64 s p 1)) → T (le (round binary64 s p 1) (of n)) → Upto (round binary64 s p 1) n
upto_of false p n N h k =
    let l : p ≤ n = under p n N k in
    record {
      sign = false;
      count = p;
      value = round_whole binary64 false p (le_trans l (le_of_lt N));
      most = l;
      clear = λ e. absurd (true≢false (sym e));
      held = round-fits binary64 false p 1;
    }
upto_of true p n N h k =
    let z : p ≤ 0 = under p 0 (lit< tt)
    (le_through (round binary64 false p 1) (fin true 0 (pos 0)) (of 0)
    (subst (λ (y : Float). T (le y (fin true 0 (pos 0)))) (neg_round binary64 true p 1) (subst (λ (y : Float). T (le (neg (round binary64 true p 1)) y)) minus_of (neg_le nought (round binary64 true p 1) h)))
    minus_under) in
    record {
      sign = true;
      count = p;
      value = round_whole binary64 true p (le_trans z zero-le);
      most = le_trans z zero-le;
      clear = λ e. omega (arith, z);
      held = round-fits binary64 true p 1;
    }

wholly_upto : (pick : Bool → ℕ → ℕ → ℕ) (x : Float) (n : ℕ) → n < 2 ^ 53 → T (finite x) → T (le nought (wholly pick x)) → T (le (wholly pick x) (of n)) → Upto (wholly pick x) n
unfolding wholly
wholly_upto pick nan n N f h k = absurd f
wholly_upto pick (inf s) n N f h k = absurd f
wholly_upto pick (fin s m e) n N f h k = upto_of s (pick s (m * up e) (down e)) n N h k

module _ (x : Float) (n : ℕ) (N : n < 2 ^ 53) (f : T (finite x)) where
  pub floor_upto : T (le nought (floor_of x)) → T (le (floor_of x) (of n)) → Upto (floor_of x) n
  floor_upto = subst (λ (y : Float). T (le nought y) → T (le y (of n)) → Upto y n) (sym (floor_is x)) (wholly_upto floor_pick x n N f)

  pub ceil_upto : T (le nought (ceil_of x)) → T (le (ceil_of x) (of n)) → Upto (ceil_of x) n
  ceil_upto = subst (λ (y : Float). T (le nought y) → T (le y (of n)) → Upto y n) (sym (ceil_is x)) (wholly_upto ceil_pick x n N f)

-- `as usize` gives the number, and the float is that number or -0.0
minus_cast : (x : Float) (w a c : ℕ) → HasValue x true a c → to_unsigned w x ≡ 0
unfolding to_unsigned
minus_cast nan w a c v = refl
minus_cast (inf s) w a c v = absurd v
minus_cast (fin true m e) w a c v = refl
minus_cast (fin false m e) w a c v = absurd (true≢false (sym v.0))

pub upto_back : (x : Float) (n : ℕ) → n < 2 ^ 53 → (u : Upto x n) → to_unsigned 64 x ≡ u.count
upto_back x n N u = go u.sign u.value u.clear
  where
    go : (s : Bool) → HasValue x s u.count 1 → (s ≡ true → u.count ≡ 0) → to_unsigned 64 x ≡ u.count
    go false v c = unsigned_value 64 x u.count 1 (lit< tt) v (omega (arith, u.most, N)) ∙ div-one u.count
    go true v c = minus_cast x 64 u.count 1 v ∙ sym (c refl)

-- ---- the ends in order, and the last in range
positive_whole : (m : ℕ) → 0 < m → m ≤ 2 ^ 53 → T (positive (of m))
positive_whole m M h = positive_of_value (of m) m 1 (whole_value binary64 m h) M

above_nought : (z : Float) → T (above z) → T (lt nought z)
unfolding lt
above_nought nan h = h
above_nought (inf true) h = h
above_nought (inf false) h = tt
above_nought (fin true m e) h = h
above_nought (fin false m e) h = over_zero (fin false m e) (m * up e) (down e) (mul-pos (ltb→lt 0 m h) (up_pos e)) (refl, refl)

-- a difference of two numbers, the first no +∞ and the second no -∞, is a number
pub no_top : (y : Float) (n : ℕ) → HasValue y false n 1 → T (le (inf false) y) → ⊥
unfolding le
no_top nan n v h = v
no_top (inf s) n v h = v
no_top (fin s m e) n v h = h

cond_number : (b : Bool) (x y : Float) → T (not (is_nan x)) → T (not (is_nan y)) → T (not (is_nan (cond b x y)))
cond_number true x y h k = h
cond_number false x y h k = k

pub round_number : (s : Bool) (a c : ℕ) → T (not (is_nan (round binary64 s a c)))
round_number s a c = signed_number (round binary64 s a c) s (round_signed binary64 s a c)

sum_number : (s : Bool) (a : ℕ) (t : Bool) (b c : ℕ) → T (not (is_nan (sum binary64 s a t b c)))
unfolding sum
sum_number s a t b c =
    cond_number (beq s t) (round binary64 s (a + b) c) (cond (ltb a b) (round binary64 t (b - a) c) (round binary64 (s && ltb b a) (a - b) c)) (round_number s (a + b) c)
    (cond_number (ltb a b) (round binary64 t (b - a) c) (round binary64 (s && ltb b a) (a - b) c) (round_number t (b - a) c) (round_number (s && ltb b a) (a - b) c))

difference : (hi lo y : Float) (n : ℕ) → HasValue y false n 1 → T (not (is_nan hi)) → T (not (is_nan lo)) → T (le hi y) → T (le nought lo) → T (not (is_nan (sub binary64 hi lo)))
unfolding sub is_nan le
difference nan lo y n v p q h k = absurd p
difference (inf true) nan y n v p q h k = absurd q
difference (inf true) (inf true) y n v p q h k = absurd k
difference (inf true) (inf false) y n v p q h k = tt
difference (inf true) (fin t o d) y n v p q h k = tt
difference (inf false) lo y n v p q h k = absurd (no_top y n v h)
difference (fin s m e) nan y n v p q h k = absurd q
difference (fin s m e) (inf t) y n v p q h k = tt
difference (fin s m e) (fin t o d) y n v p q h k = sum_number s (m * up e * down d) (not t) (o * up d * down e) (down e * down d)

-- the three tests have failed, and neither lo nor hi is a NaN
record Failed (lo hi : Float) (n m : ℕ) : Type 0 where
  start : T (le nought lo)
  end : T (le hi (of n))
  apart : T (le (of m) (sub binary64 hi lo))
  order : T (lt lo hi)

whole_number : (n : ℕ) → T (not (is_nan (of n)))
unfolding of_int
whole_number n = round_number false n 1

failed : (lo hi : Float) (n m : ℕ) → n ≤ 2 ^ 53 → 0 < m → m ≤ 2 ^ 53 → T (not (is_nan lo)) → T (not (is_nan hi)) → T (not (lt lo nought)) → T (not (lt (of n) hi)) → T (not (lt (sub binary64 hi lo) (of m))) → Failed lo hi n m
failed lo hi n m N M L p q a b c =
    let s : T (le nought lo) = not_lt_le lo nought p (unfold is_nan in tt) a in
    let t : T (le hi (of n)) = not_lt_le (of n) hi (whole_number n) q b in
    let d : T (not (is_nan (sub binary64 hi lo))) = difference hi lo (of n) n (whole_value binary64 n N) q p t s in
    let u : T (le (of m) (sub binary64 hi lo)) = not_lt_le (sub binary64 hi lo) (of m) d (whole_number m) c in
    record {
      start = s;
      end = t;
      apart = u;
      order = sub_above binary64 hi lo (above_nought (sub binary64 hi lo) (above_of_le (of m) (sub binary64 hi lo) (positive_whole m M L) u));
    }

-- ---- and, of finite numbers, the two whole numbers that they bound
pub record Interval (lo hi : Float) (n m : ℕ) : Type 0 where
  pub first : Upto lo n
  pub last : Upto hi n
  pub long : to_unsigned 64 lo + m ≤ to_unsigned 64 hi
  pub inside : to_unsigned 64 hi ≤ n

wholly_number : (pick : Bool → ℕ → ℕ → ℕ) (x : Float) → T (finite x) → T (not (is_nan (wholly pick x)))
unfolding wholly
wholly_number pick nan h = absurd h
wholly_number pick (inf s) h = absurd h
wholly_number pick (fin s m e) h = round_number s (pick s (m * up e) (down e)) 1

-- nothing from 0 up lies below -0.0
not_under_zero : (lo hi : Float) (s : Bool) (k c : ℕ) → HasValue lo s k 1 → (s ≡ true → k ≡ 0) → HasValue hi true c 1 → T (lt lo hi) → ⊥
unfolding lt
not_under_zero nan hi s k c v z w h = v
not_under_zero (inf t) hi s k c v z w h = v
not_under_zero (fin t m e) nan s k c v z w h = w
not_under_zero (fin t m e) (inf u) s k c v z w h = w
not_under_zero (fin t m e) (fin false o d) s k c v z w h = true≢false (sym w.0)
not_under_zero (fin false m e) (fin true o d) s k c v z w h = h
not_under_zero (fin true m e) (fin true o d) s k c v z w h =
    nothing (m * up e) (down d) (o * up d * down e) (sym (mul-one (m * up e)) ∙ v.1 ∙ ap (λ (y : ℕ). y * down e) (z (sym v.0)) ∙ zero-mul (down e)) (ltb→lt (o * up d * down e) (m * up e * down d) h)
  where
    nothing : (x d y : ℕ) → x ≡ 0 → y < x * d → ⊥
    nothing x d y e h = not-le_of_lt h (le_trans (le_of_eq (ap (λ (z : ℕ). z * d) e ∙ zero-mul d)) zero-le)

-- the difference of two such whole numbers is their difference
gap : (lo hi : Float) (n : ℕ) → n < 2 ^ 53 → (u : Upto lo n) (w : Upto hi n) → T (lt lo hi) → (u.count ≤ w.count) → sub binary64 hi lo ≡ of (w.count - u.count)
gap lo hi n N u w o l = go u.sign w.sign u.value w.value u.clear w.clear
  where
    go : (s t : Bool) → HasValue lo s u.count 1 → HasValue hi t w.count 1 → (s ≡ true → u.count ≡ 0) → (t ≡ true → w.count ≡ 0) → sub binary64 hi lo ≡ of (w.count - u.count)
    go false false v x c d = sub_over binary64 hi lo false false w.count u.count 1 (lit< tt) x v ∙ sum_less binary64 w.count u.count 1 l ∙ whole_is binary64 (w.count - u.count)
    go true false v x c d = sub_over binary64 hi lo false true w.count u.count 1 (lit< tt) x v ∙ sum_plus binary64 false w.count u.count 1 ∙ whole_is binary64 (w.count + u.count) ∙ ap of (omega (arith, c refl))
    go s true v x c d = absurd (not_under_zero lo hi s u.count w.count v c x o)

pub interval_is : (x y : Float) (n m : ℕ) → T (finite x) → T (finite y) → n < 2 ^ 53 → 0 < m → m ≤ 2 ^ 53 → lt (ceil_of x) plus_zero ≡ false → lt (of n) (floor_of y) ≡ false → lt (floor_of y ⊖ ceil_of x) (of m) ≡ false → Interval (ceil_of x) (floor_of y) n m
unfolding of_bits
interval_is x y n m f g N M L a b c =
    let lo = ceil_of x in
    let hi = floor_of y in
    let p : T (not (is_nan lo)) = subst (λ (z : Float). T (not (is_nan z))) (sym (ceil_is x)) (wholly_number ceil_pick x f) in
    let q : T (not (is_nan hi)) = subst (λ (z : Float). T (not (is_nan z))) (sym (floor_is y)) (wholly_number floor_pick y g) in
    let t = failed lo hi n m (le_of_lt N) M L p q (no a) (no b) (no c) in
    let l : T (le lo hi) = lt_le lo hi t.order in
    let u : Upto lo n = ceil_upto x n N f t.start (le_through lo hi (of n) l t.end) in
    let w : Upto hi n = floor_upto y n N g (le_through nought lo hi t.start l) t.end in
    let i = upto_back lo n N u in
    let j = upto_back hi n N w in
    let o : u.count ≤ w.count = le_trans (le_of_eq (sym i)) (le_trans (unsigned_mono 64 lo hi l) (le_of_eq j)) in
    let k : T (leb m (w.count - u.count)) =
    subst T (whole_le binary64 m (w.count - u.count) L (omega (arith, w.most, N))) (subst (λ (z : Float). T (le (of m) z)) (gap lo hi n N u w t.order o) t.apart) in
    record {
      first = u;
      last = w;
      long = omega (arith, i, j, o, leb→le m (w.count - u.count) k);
      inside = le_trans (le_of_eq j) w.most;
    }
