-- The logic's own square root (`sqrt` of `lib.Ieee`), which std's method promises, is `sqrt_of`: `sqrt_is`. Assumes
-- nothing.
use Rattle.std.proofs.Common.{◌≡◌, ℕ, zero, suc, ◌+◌, ◌-◌, ◌*◌, ◌/◌, ◌^◌, ◌<◌, ◌≤◌, Bool, true, false, cond, T, eqb, sym, refl, ap, ◌∙◌, subst, inl, inr, le_trans, le_of_eq, lt_of_lt_of_le, lt_of_le_of_lt, mul-le-mul, mul-le-mul_right, mul-lt-mul_of_pos_right, mul_assoc, mul-pos, zero-lt-suc, lit<, lit≤, le_of_mul-le-mul_right, le_antisymm, mul_right_comm, mul-div_cancel, arith, pow_pos, pow-add, pow-suc}
use Rattle.std.proofs.lemmas.Bool.{eqb-true}
use native.Mathlib.Nat.{mul-mul-mul_comm}
use lib.Ieee.{Float, nan, inf, fin, Format, binary32, binary64, prec, emax, low, up, down, size, round, root_below, root_twice, sqrt, fits}
use lib.Ieee.Fits.{down_pos, reach, up_pos}
use lib.Ieee.Exact.{HasValue}
use lib.Ieee.Root.{Root, whole_part}
use Rattle.float.specs.Root.{sqrt_of}
use Rattle.float.specs.Nearest.{apart, Closer, Near, RootRounded}
use Rattle.float.proofs.Compared.{nought, cross→lt}
use Rattle.float.proofs.Digits.{pow_lt→lt}
use Rattle.float.proofs.Exactly.{unique, zero_exp}
use Rattle.float.proofs.Meaning.{sqrt_nearest, under_top, wide}
use Rattle.float.proofs.Rounding.{round_rounded}

-- ---- `root_twice n` lies to either side of an even number as the root does to that of its half

under_by : (r n h : ℕ) (b : Bool) → eqb (r * r) n ≡ b → Root r n → 2 * r + cond b 0 1 ≤ 2 * h → n ≤ h * h
under_by r n h true e w k =
    let l : r ≤ h = omega arith in
    subst (λ (x : ℕ). x ≤ h * h) (eqb-true (r * r) n e) (mul-le-mul l l)
under_by r n h false e w k =
    let l : r + 1 ≤ h = omega arith in
    let m : (r + 1) * (r + 1) ≤ h * h = mul-le-mul l l in
    omega (arith, w.1)

over_by : (r n h : ℕ) (b : Bool) → Root r n → 2 * h ≤ 2 * r + cond b 0 1 → h * h ≤ n
over_by r n h true w k = let l : h ≤ r = omega arith in le_trans (mul-le-mul l l) w.0
over_by r n h false w k = let l : h ≤ r = omega arith in le_trans (mul-le-mul l l) w.0

under : (n h : ℕ) → root_twice n ≤ 2 * h → n ≤ h * h
unfolding root_twice
under n h k = under_by (root_below (size n) n) n h _ refl (whole_part n) k

over : (n h : ℕ) → 2 * h ≤ root_twice n → h * h ≤ n
unfolding root_twice
over n h k = over_by (root_below (size n) n) n h _ (whole_part n) k

-- ---- what is rounded: t / d, with t the root of 4 * n * u ^ 2, twice, and d = 4 * u * w; so t / d * w is the root of
-- n

closer_le : (f : Format) (r b l g : ℕ) → Closer f r b l g → l ≤ g
closer_le f r b l g h = elim h [ inl k ↦ omega arith | inr k ↦ omega (arith, k.0) ]

module _ (n u w d : ℕ) (W : 0 < w) (U : 0 < u) (e : d ≡ 4 * u * w) where
  both : (r b : ℕ) → r * d + b * d ≡ 2 * (2 * ((r + b) * u) * w)
  both r b = omega (arith, ap (λ (x : ℕ). r * x) e, ap (λ (x : ℕ). b * x) e)

  square : (c : ℕ) → c * u * (c * u) ≡ c * c * (u * u)
  square c = mul-mul-mul_comm c u c u

  some : 0 < d
  some = subst (λ (x : ℕ). 0 < x) (sym e) (mul-pos (mul-pos (lit< tt) U) W)

  at_most : (r b : ℕ) → r < b → root_twice (4 * n * (u * u)) * w - r * d + (r * d - root_twice (4 * n * (u * u)) * w) ≤ root_twice (4 * n * (u * u)) * w - b * d + (b * d - root_twice (4 * n * (u * u)) * w) → 4 * n ≤ (r + b) * (r + b)
  at_most r b l h =
      let t = root_twice (4 * n * (u * u)) in
      let k : 2 * (t * w) ≤ r * d + b * d = omega (arith, mul-lt-mul_of_pos_right l some, h) in
      let m : t ≤ 2 * ((r + b) * u) = le_of_mul-le-mul_right {k = w} (omega (arith, both r b)) W in
      le_of_mul-le-mul_right (le_trans (under (4 * n * (u * u)) ((r + b) * u) m) (le_of_eq (square (r + b)))) (mul-pos U U)

  at_least : (r b : ℕ) → b < r → root_twice (4 * n * (u * u)) * w - r * d + (r * d - root_twice (4 * n * (u * u)) * w) ≤ root_twice (4 * n * (u * u)) * w - b * d + (b * d - root_twice (4 * n * (u * u)) * w) → (r + b) * (r + b) ≤ 4 * n
  at_least r b l h =
      let t = root_twice (4 * n * (u * u)) in
      let k : r * d + b * d ≤ 2 * (t * w) = omega (arith, mul-lt-mul_of_pos_right l some, h) in
      let m : 2 * ((r + b) * u) ≤ t = le_of_mul-le-mul_right {k = w} (omega (arith, both r b)) W in
      le_of_mul-le-mul_right (le_trans (le_of_eq (sym (square (r + b)))) (over (4 * n * (u * u)) ((r + b) * u) m)) (mul-pos U U)

-- ---- in either format, of a value above zero

low_most : (f : Format) → low f ≤ 1074
low_most binary32 = lit≤ tt
low_most binary64 = lit≤ tt

-- a units, with q - l places of the root more, and twice
places : (a l q : ℕ) → l ≤ q → 4 * (a * 2 ^ l) * (2 ^ (q - l) * 2 ^ (q - l)) ≡ a * 2 ^ (2 + q + q - l)
places a l q h =
    let e : 2 + q + q - l ≡ 2 + l + (q - l + (q - l)) = omega arith in
    let k : 2 ^ (2 + q + q - l) ≡ 2 ^ 2 * 2 ^ l * (2 ^ (q - l) * 2 ^ (q - l)) =
    ap (λ (i : ℕ). 2 ^ i) e ∙ pow-add 2 (2 + l) (q - l + (q - l)) ∙ ap (λ (x : ℕ). x * 2 ^ (q - l + (q - l))) (pow-add 2 2 l) ∙ ap (λ (x : ℕ). 2 ^ 2 * 2 ^ l * x) (pow-add 2 (q - l) (q - l)) in
    (omega arith) ∙ ap (λ (x : ℕ). a * x) (sym k)

divisor : (l q : ℕ) → l ≤ q → 2 ^ (2 + q) ≡ 4 * 2 ^ (q - l) * 2 ^ l
divisor l q h =
    let e : 2 + q ≡ 2 + (q - l) + l = omega arith in
    ap (λ (i : ℕ). 2 ^ i) e ∙ pow-add 2 (2 + (q - l)) l ∙ ap (λ (x : ℕ). x * 2 ^ l) (pow-add 2 2 (q - l))

finite_places : (a l e q : ℕ) → l ≤ q → a < 2 ^ e * 2 ^ l → 4 * (a * 2 ^ l) * (2 ^ (q - l) * 2 ^ (q - l)) < 2 ^ (e + (2 + q + q))
finite_places a l e q h k =
    let s : e + (2 + q + q) ≡ e + l + (2 + q + q - l) = omega arith in
    lt_of_le_of_lt (le_of_eq (places a l q h))
    (lt_of_lt_of_le (mul-lt-mul_of_pos_right k (pow_pos (2 + q + q - l)))
    (le_of_eq (ap (λ (x : ℕ). x * 2 ^ (2 + q + q - l)) (sym (pow-add 2 e l)) ∙ sym (pow-add 2 (e + l) (2 + q + q - l)) ∙ ap (λ (i : ℕ). 2 ^ i) (sym s))))

-- the root of a finite number is not too large
no_overflow : (n p e q : ℕ) → p ≤ e → 2 ≤ e → n < 2 ^ (e + (2 + q + q)) → (2 ^ suc p - 1) * 2 ^ (e - p) * 2 ^ (2 + q) ≤ 2 * root_twice n → ⊥
no_overflow n p e q h l k o =
    let b : p + (e - p) ≡ e = omega arith in
    let s : 2 ^ p ≤ 2 ^ suc p - 1 = omega (arith, pow-suc 2 p, pow_pos p) in
    let m : 2 ^ p * 2 ^ (e - p) * 2 ^ (2 + q) ≤ 2 * root_twice n = le_trans (mul-le-mul_right (2 ^ (2 + q)) (mul-le-mul_right (2 ^ (e - p)) s)) o in
    let c : 2 ^ p * 2 ^ (e - p) * 2 ^ (2 + q) ≡ 4 * 2 ^ (e + q) =
    ap (λ (x : ℕ). x * 2 ^ (2 + q)) (sym (pow-add 2 p (e - p)) ∙ ap (λ (i : ℕ). 2 ^ i) b) ∙ ap (λ (x : ℕ). 2 ^ e * x) (pow-add 2 2 q) ∙ (omega arith) ∙ ap (λ (x : ℕ). 4 * x) (sym (pow-add 2 e q)) in
    let w : 2 ^ (e + q) * 2 ^ (e + q) ≤ n = over n (2 ^ (e + q)) (omega arith) in
    let z : e + q + (e + q) < e + (2 + q + q) = pow_lt→lt (e + q + (e + q)) (e + (2 + q + q)) (lt_of_le_of_lt (le_trans (le_of_eq (pow-add 2 (e + q) (e + q))) w) k) in
    omega arith

abbrev twice_root : Format → ℕ → ℕ
twice_root f a = root_twice (4 * (a * 2 ^ low f) * (2 ^ (2270 - low f) * 2 ^ (2270 - low f)))

-- a value of the format that is nearest to the fraction is the one that is nearest to the root
one_value : (f : Format) (a : ℕ) (y z : Float) → low f ≤ 2270 → T (fits f y) → Near f false (twice_root f a) (2 ^ 2272) y → RootRounded f a z → y ≡ z
one_value f a y z h F w k =
    unique f y z false k.r (2 ^ low f) (pow_pos (low f)) F k.held (subst (λ (x : ℕ). HasValue y false x (2 ^ low f)) same w.value) k.value
  where
    near : 0 < apart false w.r false k.r → apart false (twice_root f a * 2 ^ low f) false (w.r * 2 ^ 2272) ≤ apart false (twice_root f a * 2 ^ low f) false (k.r * 2 ^ 2272)
    near g = closer_le f w.r k.r (apart false (twice_root f a * 2 ^ low f) false (w.r * 2 ^ 2272)) (apart false (twice_root f a * 2 ^ low f) false (k.r * 2 ^ 2272)) (w.nearest z false k.r k.held k.value g)

    not_less : (b c : ℕ) → (b < c → ⊥) → c ≤ b
    not_less b c h = omega arith

    same : w.r ≡ k.r
    same =
        let d = divisor (low f) 2270 h in
        le_antisymm
        (not_less k.r w.r (λ (g : k.r < w.r).
        let m = at_least (a * 2 ^ low f) (2 ^ (2270 - low f)) (2 ^ low f) (2 ^ 2272) (pow_pos (low f)) (pow_pos (2270 - low f)) d w.r k.r g (near (omega arith)) in
        omega (arith, k.nearest.above y w.r F w.value g)))
        (not_less w.r k.r (λ (g : w.r < k.r).
        let m = at_most (a * 2 ^ low f) (2 ^ (2270 - low f)) (2 ^ low f) (2 ^ 2272) (pow_pos (low f)) (pow_pos (2270 - low f)) d w.r k.r g (near (omega arith)) in
        omega (arith, k.nearest.below y w.r F w.value g)))

rounded_same : (f : Format) (a : ℕ) (z : Float) → a < 2 ^ suc (emax f) * 2 ^ low f → RootRounded f a z → round f false (root_twice (a * 2 ^ (4542 - low f))) (2 ^ 2272) ≡ z
rounded_same f a z A k =
    let h : low f ≤ 2270 = le_trans (low_most f) (lit≤ tt) in
    let w = round_rounded f false (twice_root f a) (2 ^ 2272) (pow_pos 2272) in
    ap (λ (x : ℕ). round f false (root_twice x) (2 ^ 2272)) (sym (places a (low f) 2270 h))
    ∙ one_value f a (round f false (twice_root f a) (2 ^ 2272)) z h w.held (w.near (no_overflow (4 * (a * 2 ^ low f) * (2 ^ (2270 - low f) * 2 ^ (2270 - low f))) (prec f) (suc (emax f)) 2270 (reach f) (wide f) (finite_places a (low f) (suc (emax f)) 2270 h A))) k

-- ---- every value

scaled : (p a d l q : ℕ) → 0 < d → l ≤ q → p * 2 ^ l ≡ a * d → p * 2 ^ q / d ≡ a * 2 ^ (q - l)
scaled p a d l q D h v =
    let e : q ≡ l + (q - l) = omega arith in
    ap (λ (x : ℕ). x / d)
    (ap (λ (i : ℕ). p * 2 ^ i) e ∙ ap (λ (x : ℕ). p * x) (pow-add 2 l (q - l)) ∙ sym (mul_assoc p (2 ^ l) (2 ^ (q - l))) ∙ ap (λ (x : ℕ). x * 2 ^ (q - l)) v ∙ mul_right_comm a d (2 ^ (q - l)))
    ∙ mul-div_cancel (a * 2 ^ (q - l)) D

pub sqrt_is : (f : Format) (x : Float) → T (fits f x) → sqrt f x ≡ sqrt_of f x
unfolding sqrt sqrt_of
sqrt_is f nan F = refl
sqrt_is f (inf false) F = refl
sqrt_is f (inf true) F = refl
sqrt_is f (fin s zero e) F = ap (fin s 0) (sym (zero_exp f s e F))
sqrt_is f (fin true (suc m) e) F = refl
sqrt_is f (fin false (suc m) e) F =
    let x = fin false (suc m) e in
    let w = sqrt_nearest f x F tt (cross→lt nought x 0 1 (suc m * up e) (down e) (lit< tt) (down_pos e) (refl, refl) (refl, refl) (omega (arith, mul-pos (zero-lt-suc m) (up_pos e)))) in
    ap (λ (n : ℕ). round f false (root_twice n) (2 ^ 2272)) (scaled (suc m * up e) w.0 (down e) (low f) 4542 (down_pos e) (le_trans (low_most f) (lit≤ tt)) w.1.1) ∙ rounded_same f w.0 (sqrt_of f x) (under_top f x w.0 F w.1) w.2
