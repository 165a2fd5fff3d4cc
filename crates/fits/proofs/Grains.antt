-- A value of grain k is a whole number of times 2 ^ k smallest values of its format. Sums keep a grain (`grain_add`);
-- whatever z is, 0.5 − z has the grain of 2 ^ -54 (`half_less`). So what is above zero and of that grain is no less
-- than 2 ^ -54 (`grain_least`), and a bound on a quotient by it follows (`bounded_quotient`). Assumes nothing.
use mathlib.Core.Path.{◌≡◌, refl, sym, ap, ◌∙◌, subst}
use mathlib.Core.Bool.{Bool, true, false, not, ◌&&◌, beq, cond, true≢false, false≢true}
use Prim.Native.Nat.{ℕ, zero, suc, ◌+◌, ◌-◌, ◌*◌, ◌^◌, ◌≤◌, ◌<◌}
use native.Mathlib.Nat.{le_trans, le_of_eq, lt_of_lt_of_le, lt_of_not-le, le_of_suc-le-suc, zero-mul, one-mul, mul-one, mul_comm, mul_assoc, mul_left_comm, add-mul, mul-sub, mul-le-mul, mul-le-mul_right, le_of_mul-le-mul_right, eq_of_mul-eq-mul_right}
use native.Mathlib.Decide.{dec_le, dec_lt}
use native.Mathlib.Omega.{arith}
use lib.IntN.{ℤ}
use lib.Dec.{T, ltb, lit≤, lit<}
use lib.Pow.{pow-add, pow_pos, pow_mono, pow-lt, shl_lt}
use lib.Ieee.{Float, nan, inf, fin, Format, binary64, prec, emax, low, up, down, round, neg, sum, add, sub, lt, le, eq, fits, of_bits}
use lib.Ieee.Fits.{two, two-le_pos, down_pos, round-fits}
use lib.Ieee.Exact.{HasValue, round_exact}
use lib.Ieee.Order.{round_mono}
use lib.Ieee.Scale.{finite}
use lib.Ieee.Positive.{first_pos}
use Rattle.float.specs.Ops.{◌⊖◌, ◌⊘◌, half, plus_zero}
use Rattle.float.proofs.Compared.{le→value}
use Rattle.float.proofs.Signs.{Signed, round_signed}
use Rattle.float.proofs.Exactly.{fits_parts, exponent, neg_round}
use Rattle.float.proofs.Sums.{neg_value, add_over, sub_over, sum_plus, sum_less}
use Rattle.float.proofs.Meaning.{digits, multiple, in_units}
use Rattle.float.proofs.Within.{AtLeast}
use Rattle.float.proofs.Bounds.{Under, Bounded, div_bounded}

pub record Grain (f : Format) (k : ℕ) (x : Float) : Type 0 where
  pub sign : Bool
  pub count : ℕ
  pub value : HasValue x sign (count * 2 ^ k) (2 ^ low f)

pub grain_neg : {f : Format} {k : ℕ} {x : Float} → Grain f k x → Grain f k (neg x)
grain_neg {f} {k} {x} g = record { sign = not g.sign; count = g.count; value = neg_value x g.sign (g.count * 2 ^ k) (2 ^ low f) g.value }

finite_neg : (x : Float) → T (finite (neg x)) → T (finite x)
unfolding neg
finite_neg nan h = h
finite_neg (inf s) h = h
finite_neg (fin s m e) h = tt

-- ---- what a fraction rounds to

-- it reaches b smallest values
record Reaches (f : Format) (b : ℕ) (x : Float) : Type 0 where
  count : ℕ
  value : HasValue x false count (2 ^ low f)
  far : b ≤ count

reaches : (f : Format) (x y : Float) (b : ℕ) → Signed false x → T (fits f x) → T (finite x) → HasValue y false b (2 ^ low f) → T (le y x) → Reaches f b x
reaches f nan y b s F h v l = absurd h
reaches f (inf t) y b s F h v l = absurd h
reaches f (fin true m e) y b s F h v l = absurd (true≢false s)
reaches f (fin false m e) y b s F h v l =
    let j = exponent f m e (fits_parts f false m e F).1 in
    let w : HasValue (fin false m e) false (m * 2 ^ j.0) (2 ^ low f) = (refl, j.1) in
    let cross = le→value y (fin false m e) b (2 ^ low f) (m * 2 ^ j.0) (2 ^ low f) (pow_pos (low f)) (pow_pos (low f)) v w l in
    record { count = m * 2 ^ j.0; value = w; far = le_of_mul-le-mul_right cross (pow_pos (low f)) }

-- where all digits are in use above 2 ^ k smallest values, it has the grain k
large_plus : (f : Format) (k n d : ℕ) → 0 < d → prec f - 1 + k < low f + suc (emax f) → T (finite (round f false n d)) → 2 ^ (prec f - 1) * 2 ^ k * d ≤ n * 2 ^ low f
    → Grain f k (round f false n d)
large_plus f k n d D r h l =
    let b = 2 ^ (prec f - 1) * 2 ^ k in
    let p : prec f - 1 < prec f = omega (arith, two f) in
    let small : b < 2 ^ (low f + suc (emax f)) = subst (λ (x : ℕ). x < 2 ^ (low f + suc (emax f))) (pow-add 2 (prec f - 1) k) (pow-lt r) in
    let v : HasValue (round f false b (2 ^ low f)) false b (2 ^ low f) =
    round_exact f false b (2 ^ low f) (2 ^ (prec f - 1)) k (pow_pos (low f)) (pow-lt p) small refl in
    let w = reaches f (round f false n d) (round f false b (2 ^ low f)) b (round_signed f false n d) (round-fits f false n d) h v (round_mono f b (2 ^ low f) n d (pow_pos (low f)) D l) in
    let g = multiple (prec f) k w.count (two-le_pos (prec f) (two f)) (digits f (round f false n d) false w.count (round-fits f false n d) w.value) w.far in
    record { sign = false; count = g.0; value = subst (λ (a : ℕ). HasValue (round f false n d) false a (2 ^ low f)) g.1 w.value }

large : (f : Format) (k : ℕ) (s : Bool) (n d : ℕ) → 0 < d → prec f - 1 + k < low f + suc (emax f) → T (finite (round f s n d)) → 2 ^ (prec f - 1) * 2 ^ k * d ≤ n * 2 ^ low f
    → Grain f k (round f s n d)
large f k false n d D r h l = large_plus f k n d D r h l
large f k true n d D r h l =
    let less : T (finite (round f false n d)) = finite_neg (round f false n d) (subst (λ (x : Float). T (finite x)) (sym (neg_round f false n d)) h) in
    subst (Grain f k) (neg_round f false n d) (grain_neg (large_plus f k n d D r less l))

-- a number of times 2 ^ k smallest values keeps that grain
round_grain : (f : Format) (k q : ℕ) (s : Bool) → prec f + k ≤ low f + suc (emax f) → T (finite (round f s (q * 2 ^ k) (2 ^ low f))) → Grain f k (round f s (q * 2 ^ k) (2 ^ low f))
round_grain f k q s r h = go (dec_lt q (2 ^ prec f))
  where
    upto : (q < 2 ^ prec f → ⊥) → 2 ^ prec f ≤ q
    upto n = le_of_suc-le-suc (lt_of_not-le n)

    go : Dec (q < 2 ^ prec f) → Grain f k (round f s (q * 2 ^ k) (2 ^ low f))
    go (yes l) =
        record {
          sign = s;
          count = q;
          value = round_exact f s (q * 2 ^ k) (2 ^ low f) q k (pow_pos (low f)) l (lt_of_lt_of_le (shl_lt (prec f) k l) (pow_mono {i = prec f + k} {j = low f + suc (emax f)} r)) refl;
        }
    go (no l) =
        let fewer : prec f - 1 ≤ prec f = omega arith in
        let room : prec f - 1 + k < low f + suc (emax f) = omega (arith, two f) in
        let most : 2 ^ (prec f - 1) ≤ q = le_trans (pow_mono {i = prec f - 1} {j = prec f} fewer) (upto l) in
        large f k s (q * 2 ^ k) (2 ^ low f) (pow_pos (low f)) room h (mul-le-mul_right (2 ^ low f) (mul-le-mul_right (2 ^ k) most))

-- ---- sums

less : (p q c : ℕ) → p * c - q * c ≡ (p - q) * c
less p q c = rw (mul_comm p c, mul_comm q c, mul_comm (p - q) c) (sym (mul-sub c p q))

sum_grain : (f : Format) (k p q : ℕ) (s t : Bool) → prec f + k ≤ low f + suc (emax f) → T (finite (sum f s (p * 2 ^ k) t (q * 2 ^ k) (2 ^ low f)))
    → Grain f k (sum f s (p * 2 ^ k) t (q * 2 ^ k) (2 ^ low f))
unfolding sum
sum_grain f k p q s t r h = go (beq s t) (ltb (p * 2 ^ k) (q * 2 ^ k)) h
  where
    one : (u : Bool) (a c : ℕ) → a ≡ c * 2 ^ k → T (finite (round f u a (2 ^ low f))) → Grain f k (round f u a (2 ^ low f))
    one u a c e w = subst (λ (x : ℕ). Grain f k (round f u x (2 ^ low f))) (sym e) (round_grain f k c u r (subst (λ (x : ℕ). T (finite (round f u x (2 ^ low f)))) e w))

    go : (a b : Bool)
        → T (finite (cond a (round f s (p * 2 ^ k + q * 2 ^ k) (2 ^ low f)) (cond b (round f t (q * 2 ^ k - p * 2 ^ k) (2 ^ low f)) (round f (s && ltb (q * 2 ^ k) (p * 2 ^ k)) (p * 2 ^ k - q * 2 ^ k) (2 ^ low f)))))
        → Grain f k (cond a (round f s (p * 2 ^ k + q * 2 ^ k) (2 ^ low f)) (cond b (round f t (q * 2 ^ k - p * 2 ^ k) (2 ^ low f)) (round f (s && ltb (q * 2 ^ k) (p * 2 ^ k)) (p * 2 ^ k - q * 2 ^ k) (2 ^ low f))))
    go true b w = one s (p * 2 ^ k + q * 2 ^ k) (p + q) (sym (add-mul p q (2 ^ k))) w
    go false true w = one t (q * 2 ^ k - p * 2 ^ k) (q - p) (less q p (2 ^ k)) w
    go false false w = one (s && ltb (q * 2 ^ k) (p * 2 ^ k)) (p * 2 ^ k - q * 2 ^ k) (p - q) (less p q (2 ^ k)) w

pub grain_add : (f : Format) (k : ℕ) (x y : Float) → prec f + k ≤ low f + suc (emax f) → Grain f k x → Grain f k y → T (finite (add f x y)) → Grain f k (add f x y)
grain_add f k x y r a b h =
    let e = add_over f x y a.sign b.sign (a.count * 2 ^ k) (b.count * 2 ^ k) (2 ^ low f) (pow_pos (low f)) a.value b.value in
    subst (Grain f k) (sym e) (sum_grain f k a.count b.count a.sign b.sign r (subst (λ (z : Float). T (finite z)) e h))

-- ---- 0.5 − z: where z is 0.25 or more in size, both have the grain; where it is less, the difference is 0.25 or more

half_value : HasValue half false (2 ^ 53 * 2 ^ 1020) (2 ^ 1074)
unfolding of_bits
half_value = (refl, refl)

above : (a b c : ℕ) → a ≡ b + b → b ≤ a + c
above a b c e = omega arith

under : (a b c : ℕ) → a ≡ b + b → c < b → c ≤ a
under a b c e h = omega arith

beside : (a b c : ℕ) → a ≡ b + b → c < b → b ≤ a - c
beside a b c e h = omega arith

twice : 2 ^ 53 * 2 ^ 1020 ≡ 2 ^ 52 * 2 ^ 1020 + 2 ^ 52 * 2 ^ 1020
twice = refl

pub half_less : (z : Float) → T (fits binary64 z) → T (finite z) → T (finite (half ⊖ z)) → Grain binary64 1020 (half ⊖ z)
unfolding sub
half_less z F h w = let u = in_units binary64 z F h in go u.sign u.count u.value (dec_le (2 ^ 52 * 2 ^ 1020) u.count)
  where
    far : (t : Bool) (a : ℕ) → HasValue z t a (2 ^ 1074) → a < 2 ^ 52 * 2 ^ 1020 → Grain binary64 1020 (half ⊖ z)
    far true a v l =
        let e = sub_over binary64 half z false true (2 ^ 53 * 2 ^ 1020) a (2 ^ 1074) (pow_pos 1074) half_value v ∙ sum_plus binary64 false (2 ^ 53 * 2 ^ 1020) a (2 ^ 1074) in
        subst (Grain binary64 1020) (sym e)
        (large binary64 1020 false (2 ^ 53 * 2 ^ 1020 + a) (2 ^ 1074) (pow_pos 1074) (lit< tt) (subst (λ (x : Float). T (finite x)) e w)
        (mul-le-mul_right (2 ^ 1074) (above (2 ^ 53 * 2 ^ 1020) (2 ^ 52 * 2 ^ 1020) a twice)))
    far false a v l =
        let e = sub_over binary64 half z false false (2 ^ 53 * 2 ^ 1020) a (2 ^ 1074) (pow_pos 1074) half_value v
        ∙ sum_less binary64 (2 ^ 53 * 2 ^ 1020) a (2 ^ 1074) (under (2 ^ 53 * 2 ^ 1020) (2 ^ 52 * 2 ^ 1020) a twice l) in
        subst (Grain binary64 1020) (sym e)
        (large binary64 1020 false (2 ^ 53 * 2 ^ 1020 - a) (2 ^ 1074) (pow_pos 1074) (lit< tt) (subst (λ (x : Float). T (finite x)) e w)
        (mul-le-mul_right (2 ^ 1074) (beside (2 ^ 53 * 2 ^ 1020) (2 ^ 52 * 2 ^ 1020) a twice l)))

    near : (t : Bool) (a : ℕ) → HasValue z t a (2 ^ 1074) → 2 ^ 52 * 2 ^ 1020 ≤ a → Grain binary64 1020 (half ⊖ z)
    near t a v l =
        let g = multiple 53 1020 a (lit< tt) (digits binary64 z t a F v) l in
        let of-z : Grain binary64 1020 z = record { sign = t; count = g.0; value = subst (λ (x : ℕ). HasValue z t x (2 ^ 1074)) g.1 v } in
        let of-half : Grain binary64 1020 half = record { sign = false; count = 2 ^ 53; value = half_value } in
        grain_add binary64 1020 half (neg z) (lit≤ tt) of-half (grain_neg of-z) w

    go : (t : Bool) (a : ℕ) → HasValue z t a (2 ^ 1074) → Dec (2 ^ 52 * 2 ^ 1020 ≤ a) → Grain binary64 1020 (half ⊖ z)
    go t a v (yes l) = near t a v l
    go t a v (no l) = far t a v (lt_of_not-le l)

-- ---- above zero it is 2 ^ -54 at least

none_is_zero : (s : Bool) (m : ℕ) (e : ℤ) → m * up e ≡ 0 → le (fin s m e) plus_zero ≡ true
unfolding le lt eq of_bits
none_is_zero true m e q = let a : m * up e * 1 ≡ 0 = omega (arith, mul-one (m * up e)) in rw (a, zero-mul (down e))
none_is_zero false m e q = let a : m * up e * 1 ≡ 0 = omega (arith, mul-one (m * up e)) in rw (a, zero-mul (down e))

pub grain_least : (x : Float) → Grain binary64 1020 x → le x plus_zero ≡ false → AtLeast 54 x
grain_least nan g h = g.value
grain_least (inf s) g h = g.value
grain_least (fin s m e) g h = go g.count g.value.1
  where
    go : (c : ℕ) → m * up e * 2 ^ 1074 ≡ c * 2 ^ 1020 * down e → down e ≤ m * up e * 2 ^ 54
    go zero q =
        let nothing : m * up e ≡ 0 =
        eq_of_mul-eq-mul_right (2 ^ 1074) (pow_pos 1074) (m * up e) 0 (q ∙ ap (λ (x : ℕ). x * down e) (zero-mul (2 ^ 1020)) ∙ zero-mul (down e) ∙ sym (zero-mul (2 ^ 1074))) in
        absurd (false≢true (sym h ∙ none_is_zero s m e nothing))
    go (suc c) q =
        let first : 2 ^ 1020 * down e ≤ suc c * 2 ^ 1020 * down e = mul-le-mul_right (down e) (le_trans (le_of_eq (sym (one-mul (2 ^ 1020)))) (mul-le-mul_right (2 ^ 1020) (one_le c))) in
        let split : m * up e * 2 ^ 1074 ≡ m * up e * 2 ^ 54 * 2 ^ 1020 = ap (λ (x : ℕ). m * up e * x) (pow-add 2 54 1020) ∙ sym (mul_assoc (m * up e) (2 ^ 54) (2 ^ 1020)) in
        le_of_mul-le-mul_right (le_trans (le_of_eq (mul_comm (down e) (2 ^ 1020))) (le_trans first (le_of_eq (sym q ∙ split)))) (pow_pos 1020)
      where
        one_le : (c : ℕ) → 1 ≤ suc c
        one_le c = omega arith

-- ---- a quotient by what is 2 ^ -j at least

pub bounded_quotient : {k a : ℕ} {x : Float} (j : ℕ) (y : Float) → Bounded k a x → AtLeast j y → a ≤ 2 ^ 53 → k + j ≤ 970 → Bounded (k + j) a (x ⊘ y)
bounded_quotient {k} {a} {x} j y p q h g = go x y p.bound q
  where
    order : (d n : ℕ) → a * 2 ^ k * d * (n * 2 ^ j) ≡ a * 2 ^ (k + j) * (n * d)
    order d n = simp (mul_assoc, mul_comm, mul_left_comm, pow-add)

    go : (x y : Float) → Under (a * 2 ^ k) x → AtLeast j y → Bounded (k + j) a (x ⊘ y)
    go nan y u v = absurd u
    go (inf s) y u v = absurd u
    go (fin s m e) nan u v = absurd v
    go (fin s m e) (inf t) u v = absurd v
    go (fin s m e) (fin t n d) u v =
        div_bounded (k + j) a (fin s m e) (fin t n d) tt tt (first_pos (n * up d) (2 ^ j) (lt_of_lt_of_le (down_pos d) v)) h g
        (le_trans (mul-le-mul u v) (le_of_eq (order (down e) (n * up d))))
