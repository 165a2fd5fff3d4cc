-- What `sqrt_of` means, in either format (`sqrt_nearest`): at a value above zero it is a value of the format, and no
-- other is as near to the root (`RootRounded` of specs/Nearest.antt). Assumes nothing.
use Rattle.std.proofs.Common.{◌≡◌, ℕ, zero, suc, ◌+◌, ◌-◌, ◌*◌, ◌/◌, ◌%◌, ◌^◌, ◌<◌, ◌≤◌, Bool, true, false, T, ◌⊎◌, sym, refl, ap, ◌∙◌, subst, inl, inr, le_trans, le_of_eq, le_refl, lt_of_lt_of_le, le_of_suc-le-suc, lt_of_le_of_lt, le_of_lt, lt_irrefl, mul-le-mul_right, zero-lt-suc, mul_assoc, mul_comm, add-mul, mul-le-mul, le_antisymm, lt_of_mul-lt-mul_right, eq-or-lt_of_le, mul-lt-mul_of_pos_right, mul-pos, one-mul, pow-suc, lt_of_not-le, mul_right_comm, arith, lit≤, ltb→lt, pow_pos, pow_mono, pow-add, shl_lt}
use native.Mathlib.Nat.{mul-mul-mul_comm, eq_of_mul-eq-mul_right}
use native.Mathlib.Decide.{dec_le}
use lib.Pow.{pow-lt}
use lib.Ieee.{Float, nan, inf, fin, Format, binary32, binary64, prec, emax, low, up, down, size, units, lt, fits}
use lib.Ieee.Digits.{size-lt, size-le, size_reaches}
use lib.Ieee.Fits.{two, down_pos}
use lib.Ieee.Positive.{first_pos}
use lib.Ieee.Exact.{HasValue, units_val}
use lib.Ieee.Scale.{finite}
use Rattle.float.specs.Root.{isqrt, root_of, sqrt_of}
use Rattle.float.specs.Nearest.{Nearest, RootRounded}
use Rattle.float.proofs.Digits.{pow_lt→lt, halves}
use Rattle.float.proofs.Exactly.{fits_parts, exponent}
use Rattle.float.proofs.Compared.{nought}
use Rattle.float.proofs.Squares.{NearRoot, square_lt_back, near_under}
use Rattle.float.proofs.Roots.{IsRoot, isqrt_is, root_at}
use Rattle.float.proofs.Value.{sqrt_of_value}
use Rattle.float.proofs.Narrowing.{units_fits}
use Rattle.std.proofs.lemmas.Nat.{mul-lt}

-- ---- a value of the format is a number of its digits, and zeros

pub record Digits (p a : ℕ) : Type 0 where
  pub m : ℕ
  pub j : ℕ
  pub is : a ≡ m * 2 ^ j
  pub few : m < 2 ^ p

pub digits : (f : Format) (y : Float) (t : Bool) (a : ℕ) → T (fits f y) → HasValue y t a (2 ^ low f) → Digits (prec f) a
digits f nan t a h v = absurd v
digits f (inf s) t a h v = absurd v
digits f (fin s m e) t a h v =
    let w = fits_parts f s m e h in
    let x = exponent f m e w.1 in
    record { m = m; j = x.0; is = eq_of_mul-eq-mul_right (down e) (down_pos e) a (m * 2 ^ x.0) (sym v.1 ∙ x.1); few = w.0 }

-- it lies below 2 ^ (emax + 1)
pub under_top : (f : Format) (y : Float) (a : ℕ) → T (fits f y) → HasValue y false a (2 ^ low f) → a < 2 ^ suc (emax f) * 2 ^ low f
under_top f nan a h v = absurd v
under_top f (inf s) a h v = absurd v
under_top f (fin s m e) a h v =
    lt_of_mul-lt-mul_right (down e)
    (subst (λ (x : ℕ). x < 2 ^ suc (emax f) * 2 ^ low f * down e) v.1
    (subst (λ (x : ℕ). m * up e * 2 ^ low f < x) (mul_right_comm (2 ^ suc (emax f)) (down e) (2 ^ low f)) (mul-lt-mul_of_pos_right (fits_parts f s m e h).2 (pow_pos (low f)))))

-- ---- zeros after a number of at most p digits make it one of p digits

record Full (p m : ℕ) : Type 0 where
  s : ℕ
  short : s < p
  least : 2 ^ (p - 1) ≤ m * 2 ^ s
  most : m * 2 ^ s < 2 ^ p

full : (p m : ℕ) → 0 < m → m < 2 ^ p → Full p m
full p m h k =
    let d = size m in
    let d-le : d ≤ p = size-le m p k in
    let d-pos : 0 < d = some d (size-lt m) in
    let up : p ≡ d + (p - d) = omega arith in
    let dn : p - 1 ≡ d - 1 + (p - d) = omega arith in
    record {
      s = p - d;
      short = omega arith;
      least = subst (λ (x : ℕ). x ≤ m * 2 ^ (p - d)) (sym (ap (λ (i : ℕ). 2 ^ i) dn ∙ pow-add 2 (d - 1) (p - d))) (mul-le-mul_right (2 ^ (p - d)) (size_reaches m (d - 1) (omega arith)));
      most = subst (λ (i : ℕ). m * 2 ^ (p - d) < 2 ^ i) (sym up) (shl_lt d (p - d) (size-lt m));
    }
  where
    some : (d : ℕ) → m < 2 ^ d → 0 < d
    some zero l = absurd (omega (arith, h, l))
    some (suc d) l = zero-lt-suc d

-- ---- every number above 0 has a whole number nearest to its root

near_from : (n q : ℕ) → 0 < n → IsRoot n q → (c : ℕ) × NearRoot n c
near_from n zero h r = absurd (omega (arith, r.most))
near_from n (suc q) h r = go (dec_le n (suc q * suc q + suc q))
  where
    go : Dec (n ≤ suc q * suc q + suc q) → (c : ℕ) × NearRoot n c
    go (yes l) = (suc q, record { above = omega (arith, r.least); below = l })
    go (no l) = let g = lt_of_not-le l in (suc q + 1, record { above = omega arith; below = omega (arith, r.most) })

near_exists : (n : ℕ) → 0 < n → (c : ℕ) × NearRoot n c
near_exists n h = near_from n (isqrt n) h (isqrt_is n)

near_at_least : (n b c : ℕ) → b * b ≤ n → NearRoot n c → b ≤ c
near_at_least n b c h k = le_of_suc-le-suc (subst (λ (x : ℕ). b < x) (omega arith) (square_lt_back b (c + 1) (omega (arith, k.below))))

near_at_most : (n b c : ℕ) → n < b * b → NearRoot n c → c ≤ b
near_at_most n b c h k = le_of_suc-le-suc (subst (λ (x : ℕ). c < x) (omega arith) (near_under n (b + 1) c (omega arith) (omega arith) k.above))

-- ---- a value of the format that is no less than 2 ^ (p - 1) times 2 ^ k is a multiple of 2 ^ k

pub multiple : (p k a : ℕ) → 0 < p → Digits p a → 2 ^ (p - 1) * 2 ^ k ≤ a → (g : ℕ) × (a ≡ g * 2 ^ k)
multiple p k a h d l = go (dec_le k d.j)
  where
    go : Dec (k ≤ d.j) → (g : ℕ) × (a ≡ g * 2 ^ k)
    go (yes m) =
        let s : d.j ≡ d.j - k + k = omega arith in
        (d.m * 2 ^ (d.j - k), d.is ∙ ap (λ (i : ℕ). d.m * 2 ^ i) s ∙ ap (λ (x : ℕ). d.m * x) (pow-add 2 (d.j - k) k) ∙ sym (mul_assoc d.m (2 ^ (d.j - k)) (2 ^ k)))
    go (no m) =
        let w : p + d.j ≤ p - 1 + k = omega (arith, lt_of_not-le m) in
        absurd (lt_irrefl a (lt_of_lt_of_le (subst (λ (x : ℕ). x < 2 ^ (p + d.j)) (sym d.is) (shl_lt p d.j d.few)) (le_trans (pow_mono {i = p + d.j} {j = p - 1 + k} w) (le_trans (le_of_eq (pow-add 2 (p - 1) k)) l))))

-- ---- nearest

square_lt : (a b : ℕ) → a < b → a * a < b * b
square_lt a b h = mul-lt a a b b h h

module _ (p k c n : ℕ) (h : 0 < p) (lo : 2 ^ (p - 1) * 2 ^ (p - 1) ≤ n) (near : NearRoot n c) where
  above_half : (b : ℕ) → Digits p b → c * 2 ^ k < b → 4 * (n * (2 ^ k * 2 ^ k)) < (c * 2 ^ k + b) * (c * 2 ^ k + b)
  above_half b d l =
      let u = 2 ^ k in
      let at : 2 ^ (p - 1) * u ≤ b = le_trans (mul-le-mul_right u (near_at_least n (2 ^ (p - 1)) c lo near)) (le_of_lt l) in
      let g = multiple p k b h d at in
      let more : c < g.0 = lt_of_mul-lt-mul_right u (subst (λ (x : ℕ). c * u < x) g.1 l) in
      let sum : (2 * c + 1) * u ≤ c * u + b = le_trans (mul-le-mul_right u (omega (arith, more))) (le_of_eq (add-mul c g.0 u ∙ ap (λ (x : ℕ). c * u + x) (sym g.1))) in
      let sq : 4 * n < (2 * c + 1) * (2 * c + 1) = omega (arith, near.below) in
      lt_of_lt_of_le (lt_of_le_of_lt (le_of_eq (sym (mul_assoc 4 n (u * u)))) (mul-lt-mul_of_pos_right sq (mul-pos (pow_pos k) (pow_pos k))))
      (le_trans (le_of_eq (mul-mul-mul_comm (2 * c + 1) (2 * c + 1) u u)) (mul-le-mul sum sum))

  below_half : (b : ℕ) → Digits p b → b < c * 2 ^ k → (c * 2 ^ k + b) * (c * 2 ^ k + b) < 4 * (n * (2 ^ k * 2 ^ k))
  below_half b d l = go (eq-or-lt_of_le (near_at_least n (2 ^ (p - 1)) c lo near))
    where
      u_pos : 0 < 2 ^ k * 2 ^ k
      u_pos = mul-pos (pow_pos k) (pow_pos k)

      four : 4 * n * (2 ^ k * 2 ^ k) ≡ 4 * (n * (2 ^ k * 2 ^ k))
      four = mul_assoc 4 n (2 ^ k * 2 ^ k)

      -- b is at most the value below c
      next : 2 ^ (p - 1) < c → Dec (2 ^ (p - 1) * 2 ^ k ≤ b) → b ≤ (c - 1) * 2 ^ k
      next m (yes a) =
          let g = multiple p k b h d a in
          let less : g.0 < c = lt_of_mul-lt-mul_right (2 ^ k) (subst (λ (x : ℕ). x < c * 2 ^ k) g.1 l) in
          le_trans (le_of_eq g.1) (mul-le-mul_right (2 ^ k) (omega (arith, less)))
      next m (no a) = le_trans (le_of_lt (lt_of_not-le a)) (mul-le-mul_right (2 ^ k) (omega (arith, m)))

      go : (2 ^ (p - 1) ≡ c) ⊎ (2 ^ (p - 1) < c) → (c * 2 ^ k + b) * (c * 2 ^ k + b) < 4 * (n * (2 ^ k * 2 ^ k))
      go (inl e) =
          let u = 2 ^ k in
          let cc : c * c ≤ n = subst (λ (x : ℕ). x * x ≤ n) e lo in
          let sum : c * u + b < 2 * c * u = lt_of_lt_of_le (omega (arith, l)) (le_of_eq (sym (mul_assoc 2 c u))) in
          let sq : 2 * c * (2 * c) ≤ 4 * n = omega (arith, cc) in
          lt_of_lt_of_le (square_lt (c * u + b) (2 * c * u) sum)
          (le_trans (le_of_eq (sym (mul-mul-mul_comm (2 * c) (2 * c) u u))) (le_trans (mul-le-mul_right (u * u) sq) (le_of_eq four)))
      go (inr m) =
          let u = 2 ^ k in
          let sum : c * u + b ≤ (2 * c - 1) * u = le_trans (omega (arith, next m (dec_le (2 ^ (p - 1) * u) b))) (le_of_eq (sym (add-mul c (c - 1) u) ∙ ap (λ (x : ℕ). x * u) (omega (arith, m)))) in
          let sq : (2 * c - 1) * (2 * c - 1) < 4 * n = odd_square c (2 ^ (p - 1)) m near.above in
          lt_of_le_of_lt (mul-le-mul sum sum)
          (lt_of_le_of_lt (le_of_eq (sym (mul-mul-mul_comm (2 * c - 1) (2 * c - 1) u u))) (lt_of_lt_of_le (mul-lt-mul_of_pos_right sq u_pos) (le_of_eq four)))
        where
          odd_square : (c a : ℕ) → a < c → c * c < n + c → (2 * c - 1) * (2 * c - 1) < 4 * n
          odd_square c a l s =
              let e : c ≡ c - 1 + 1 = omega arith in
              let g : 2 * (c - 1) + 1 ≡ 2 * c - 1 = omega arith in
              subst (λ (x : ℕ). x * x < 4 * n) g (omega (arith, subst (λ (x : ℕ). x * x < n + x) e s))

-- ---- the theorem

-- the formats have room for what follows
room : (f : Format) → 2 * (prec f - 1) ≤ low f
room binary32 = lit≤ tt
room binary64 = lit≤ tt

pub wide : (f : Format) → 2 ≤ suc (emax f)
wide binary32 = lit≤ tt
wide binary64 = lit≤ tt

-- of a number of units
pub root_of_units : (f : Format) (x : Float) (a : ℕ) → T (fits f x) → 0 < a → HasValue x false a (2 ^ low f) → RootRounded f a (sqrt_of f x)
root_of_units f x a F A v =
    let p = prec f in
    let l = low f in
    let p-pos : 0 < p = lt_of_lt_of_le (lit≤ tt) (two f) in
    let d = digits f x false a F v in
    let m-pos : 0 < d.m = first_pos d.m (2 ^ d.j) (subst (λ (y : ℕ). 0 < y) d.is A) in
    let w = full p d.m m-pos d.few in
    let M = d.m * 2 ^ w.s in
    let E = d.j + l - w.s in
    let rm : 2 * (p - 1) ≤ l = room f in
    let E-ge : p - 1 ≤ E = omega (arith, p-pos, rm, w.short) in
    let sum : w.s + E ≡ d.j + l = omega (arith, rm, w.short, two f) in
    let o = (E - (p - 1)) % 2 in
    let k = (E - (p - 1)) / 2 in
    let P = M * ((1 + o) * 2 ^ (p - 1)) in
    let n-is : a * 2 ^ l ≡ P * (2 ^ k * 2 ^ k) =
    ap (λ (y : ℕ). y * 2 ^ l) d.is
    ∙ mul_assoc d.m (2 ^ d.j) (2 ^ l)
    ∙ ap (λ (y : ℕ). d.m * y) (sym (pow-add 2 d.j l) ∙ ap (λ (i : ℕ). 2 ^ i) (sym sum) ∙ pow-add 2 w.s E)
    ∙ sym (mul_assoc d.m (2 ^ w.s) (2 ^ E))
    ∙ ap (λ (y : ℕ). M * y) (halves (p - 1) E E-ge)
    ∙ sym (mul_assoc M ((1 + o) * 2 ^ (p - 1)) (2 ^ k * 2 ^ k)) in
    let lo : 2 ^ (p - 1) * 2 ^ (p - 1) ≤ P = mul-le-mul w.least (le_trans (le_of_eq (sym (one-mul (2 ^ (p - 1))))) (mul-le-mul_right (2 ^ (p - 1)) (omega arith))) in
    let hi : P < 2 ^ p * 2 ^ p =
    lt_of_le_of_lt (mul-le-mul (le_refl M) (le_trans (mul-le-mul_right (2 ^ (p - 1)) (omega arith)) (le_of_eq (double p p-pos)))) (mul-lt-mul_of_pos_right w.most (pow_pos p)) in
    let ex = near_exists P (lt_of_lt_of_le (mul-pos (pow_pos (p - 1)) (pow_pos (p - 1))) lo) in
    let c = ex.0 in
    let is : sqrt_of f x ≡ units f false c k = sqrt_of_value f x a A v ∙ ap (root_of f) n-is ∙ root_at f P k c lo hi ex.1 in
    let c-le : c ≤ 2 ^ p = near_at_most P (2 ^ p) c hi ex.1 in
    let n-lt : a * 2 ^ l < 2 ^ (suc (emax f) + l + l) =
    subst (λ (y : ℕ). a * 2 ^ l < y) (sym (pow-add 2 (suc (emax f) + l) l ∙ ap (λ (y : ℕ). y * 2 ^ l) (pow-add 2 (suc (emax f)) l))) (mul-lt-mul_of_pos_right (under_top f x a F v) (pow_pos l)) in
    let n-ge : 2 ^ (p - 1 + (p - 1) + (k + k)) ≤ a * 2 ^ l =
    le_trans (le_of_eq (pow-add 2 (p - 1 + (p - 1)) (k + k) ∙ ap (λ (y : ℕ). y * 2 ^ (k + k)) (pow-add 2 (p - 1) (p - 1)) ∙ ap (λ (y : ℕ). 2 ^ (p - 1) * 2 ^ (p - 1) * y) (pow-add 2 k k)))
    (le_trans (mul-le-mul_right (2 ^ k * 2 ^ k) lo) (le_of_eq (sym n-is))) in
    let exps : p - 1 + (p - 1) + (k + k) < suc (emax f) + l + l = pow_lt→lt (p - 1 + (p - 1) + (k + k)) (suc (emax f) + l + l) (lt_of_le_of_lt n-ge n-lt) in
    let in-range : c * 2 ^ k < 2 ^ (l + suc (emax f)) =
    lt_of_le_of_lt (le_trans (mul-le-mul_right (2 ^ k) c-le) (le_of_eq (sym (pow-add 2 p k)))) (pow-lt (below p k l (suc (emax f)) (wide f) exps)) in
    record {
      r = c * 2 ^ k;
      held = subst (λ (y : Float). T (fits f y)) (sym is) (units_fits f false c k c-le);
      value = subst (λ (y : Float). HasValue y false (c * 2 ^ k) (2 ^ l)) (sym is) (units_val f false c k in-range);
      nearest = subst (λ (y : ℕ). Nearest f y (c * 2 ^ k)) (sym n-is)
          (record {
            above = λ y b G u g. above_half p k c P p-pos lo ex.1 b (digits f y false b G u) g;
            below = λ y b G u g. below_half p k c P p-pos lo ex.1 b (digits f y false b G u) g;
          });
    }
  where
    double : (p : ℕ) → 0 < p → 2 * 2 ^ (p - 1) ≡ 2 ^ p
    double p h = mul_comm 2 (2 ^ (p - 1)) ∙ sym (pow-suc 2 (p - 1)) ∙ ap (λ (i : ℕ). 2 ^ i) (omega (arith, h))

    below : (p k l e : ℕ) → 2 ≤ e → p - 1 + (p - 1) + (k + k) < e + l + l → p + k < l + e
    below p k l e h g = omega arith

-- every finite value is a number of units
pub record InUnits (f : Format) (x : Float) : Type 0 where
  pub sign : Bool
  pub count : ℕ
  pub value : HasValue x sign count (2 ^ low f)

pub in_units : (f : Format) (x : Float) → T (fits f x) → T (finite x) → InUnits f x
in_units f nan F h = absurd h
in_units f (inf s) F h = absurd h
in_units f (fin s m e) F h = let j = exponent f m e (fits_parts f s m e F).1 in record { sign = s; count = m * 2 ^ j.0; value = (refl, j.1) }

-- of every value above zero
pub sqrt_nearest : (f : Format) (x : Float) → T (fits f x) → T (finite x) → T (lt nought x) → (a : ℕ) × HasValue x false a (2 ^ low f) × RootRounded f a (sqrt_of f x)
unfolding lt in_units
sqrt_nearest f nan F h l = absurd h
sqrt_nearest f (inf s) F h l = absurd h
sqrt_nearest f (fin true m e) F h l = absurd l
sqrt_nearest f (fin false zero e) F h l = absurd (omega (arith, ltb→lt (0 * 1 * down e) (0 * up e * 1) l))
sqrt_nearest f (fin false (suc m) e) F h l =
    let u = in_units f (fin false (suc m) e) F tt in
    (u.count, u.value, root_of_units f (fin false (suc m) e) u.count F (mul-pos (zero-lt-suc m) (pow_pos (exponent f (suc m) e (fits_parts f false (suc m) e F).1).0)) u.value)

-- two values of the format that are each nearest to one root are the same
pub nearest_unique : (f : Format) (n r s : ℕ) (x y : Float) → T (fits f x) → T (fits f y) → HasValue x false r (2 ^ low f) → HasValue y false s (2 ^ low f) → Nearest f n r → Nearest f n s → r ≡ s
nearest_unique f n r s x y F G v w a b = le_antisymm (not_above r s (λ (g : s < r). apart s r (b.above x r F v g) (a.below y s G w g))) (not_above s r (λ (g : r < s). apart r s (a.above y s G w g) (b.below x r F v g)))
  where
    apart : (r s : ℕ) → 4 * n < (r + s) * (r + s) → (s + r) * (s + r) < 4 * n → ⊥
    apart r s g h = omega arith

    not_above : (c d : ℕ) → (d < c → ⊥) → c ≤ d
    not_above c d f = omega arith
