-- The order of the values is the order of their bit patterns, with the sign apart: `lt_pattern`, `eq_pattern`,
-- `zero_pattern`. Assumes nothing.
use mathlib.Core.Path.{◌≡◌, refl, sym, ap, ◌∙◌, subst}
use mathlib.Core.Logic.{inl, inr}
use mathlib.Core.Bool.{Bool, true, false, not, ◌&&◌, ◌||◌, beq}
use Prim.Native.Nat.{ℕ, zero, suc, ◌+◌, ◌-◌, ◌*◌, ◌/◌, ◌%◌, ◌^◌, ◌≤◌, ◌<◌, zero-le}
use native.Mathlib.Nat.{lt_trans, le_of_suc-le-suc, eq-or-lt_of_le, mul_comm, mul_assoc, add-mul, mul-pos, mul-lt-mul_of_pos_right, two-pow-succ, zero-lt-suc, zero-mul}
use native.Mathlib.Decide.{dec_lt}
use native.Mathlib.Omega.{arith}
use borrow.Author.Tests.{eq-eqb, ne_eqb}
use native.Mathlib.Numerals.{add-one}
use Rattle.std.proofs.Math.Bool.{and-true, and-false}
use Rattle.std.proofs.lemmas.Bool.Decides.{nat_tests}
use lib.Dec.{ltb, eqb, lit<}
use lib.Pow.{pow_pos}
use lib.IntN.{ℤ}
use lib.Ieee.{Float, nan, inf, fin, up, down, lt, eq, below, level}
use lib.Ieee.Fits.{up_pos, down_pos}
use Rattle.float.specs.Inner.{counted}
use Rattle.rank.specs.Order.{is_minus_zero}
use Rattle.float.proofs.Modulo.{counted_low, counted_high}

-- ---- a function that grows strictly keeps `<` and `=`
module _ (f : ℕ → ℕ) (grows : (a b : ℕ) → a < b → f a < f b) where
  pub keeps_ltb : (a b : ℕ) → ltb (f a) (f b) ≡ ltb a b
  keeps_ltb a b = let h = grows a b in let k = grows b a in grind (arith, nat_tests)

  pub keeps_eqb : (a b : ℕ) → eqb (f a) (f b) ≡ eqb a b
  keeps_eqb a b = let h = grows a b in let k = grows b a in grind (arith, nat_tests)

times : (k : ℕ) → 0 < k → (a b : ℕ) → a < b → a * k < b * k
times k K a b h = mul-lt-mul_of_pos_right h K

-- ---- two fractions with one denominator, each written another way
module _ (c k x y a b : ℕ) (C : 0 < c) (K : 0 < k) (p : x * c ≡ a * k) (q : y * c ≡ b * k) where
  same_ltb : ltb x y ≡ ltb a b
  same_ltb = sym (keeps_ltb (λ z. z * c) (times c C) x y) ∙ ap (λ (z : ℕ). ltb z (y * c)) p ∙ ap (λ (z : ℕ). ltb (a * k) z) q ∙ keeps_ltb (λ z. z * k) (times k K) a b

  same_eqb : eqb x y ≡ eqb a b
  same_eqb = sym (keeps_eqb (λ z. z * c) (times c C) x y) ∙ ap (λ (z : ℕ). eqb z (y * c)) p ∙ ap (λ (z : ℕ). eqb (a * k) z) q ∙ keeps_eqb (λ z. z * k) (times k K) a b

-- ---- `lt`, `eq` and the sign of a zero, of values that are known as fractions
cross : (x c a de dd : ℕ) → x * c ≡ a * de → x * dd * c ≡ a * (de * dd)
cross x c a de dd p = simp (mul_assoc, mul_comm) (simp mul_assoc at (ap (λ (z : ℕ). z * dd) p))

cross' : (y c b de dd : ℕ) → y * c ≡ b * dd → y * de * c ≡ b * (de * dd)
cross' y c b de dd p = simp (mul_assoc, mul_comm) (simp (mul_assoc, mul_comm) at (ap (λ (z : ℕ). z * de) p))

both : (x y c a b k : ℕ) → x * c ≡ a * k → y * c ≡ b * k → (x + y) * c ≡ (a + b) * k
both x y c a b k p q = rw (add-mul x y c, p, q, ← add-mul)

nought : (a u d c : ℕ) → 0 < d → 0 * u * c ≡ a * d → a ≡ 0
nought zero u d c D p = refl
nought (suc a) u d c D p = let l : 0 < suc a * d = mul-pos (zero-lt-suc a) D in let z : 0 * u * c ≡ 0 = rw (zero-mul, zero-mul) in omega arith

some : (a m u d c : ℕ) → 0 < u → 0 < c → suc m * u * c ≡ a * d → a ≡ 0 → ⊥
some a m u d c U C p e = let l : 0 < suc m * u * c = mul-pos (mul-pos (zero-lt-suc m) U) C in let z : a * d ≡ 0 = rw e (omega arith) in omega arith

module _ (c : ℕ) (C : 0 < c) (a b : ℕ) where
  lt_fin : (s : Bool) (m : ℕ) (e : ℤ) (t : Bool) (n : ℕ) (d : ℤ) → m * up e * c ≡ a * down e → n * up d * c ≡ b * down d → lt (fin s m e) (fin t n d) ≡ below s a t b
  unfolding lt
  lt_fin false m e false n d p q = same_ltb c (down e * down d) (m * up e * down d) (n * up d * down e) a b C (mul-pos (down_pos e) (down_pos d)) (cross (m * up e) c a (down e) (down d) p) (cross' (n * up d) c b (down e) (down d) q)
  lt_fin false m e true n d p q = refl
  lt_fin true m e false n d p q =
      same_ltb c (down e * down d) 0 (m * up e * down d + n * up d * down e) 0 (a + b) C (mul-pos (down_pos e) (down_pos d)) (omega arith)
      (both (m * up e * down d) (n * up d * down e) c a b (down e * down d) (cross (m * up e) c a (down e) (down d) p) (cross' (n * up d) c b (down e) (down d) q))
  lt_fin true m e true n d p q = same_ltb c (down e * down d) (n * up d * down e) (m * up e * down d) b a C (mul-pos (down_pos e) (down_pos d)) (cross' (n * up d) c b (down e) (down d) q) (cross (m * up e) c a (down e) (down d) p)

  eq_fin : (s : Bool) (m : ℕ) (e : ℤ) (t : Bool) (n : ℕ) (d : ℤ) → m * up e * c ≡ a * down e → n * up d * c ≡ b * down d → eq (fin s m e) (fin t n d) ≡ level s a t b
  unfolding eq
  eq_fin s m e t n d p q =
      let k = down e * down d in
      let K : 0 < k = mul-pos (down_pos e) (down_pos d) in
      let l = cross (m * up e) c a (down e) (down d) p in
      ap (λ (z : Bool). z && (beq s t || eqb (m * up e * down d) 0)) (same_eqb c k (m * up e * down d) (n * up d * down e) a b C K l (cross' (n * up d) c b (down e) (down d) q))
      ∙ ap (λ (z : Bool). eqb a b && (beq s t || z)) (same_eqb c k (m * up e * down d) 0 a 0 C K l (omega arith))

  zero_fin : (s : Bool) (m : ℕ) (e : ℤ) → m * up e * c ≡ a * down e → is_minus_zero (fin s m e) ≡ s && eqb a 0
  unfolding is_minus_zero
  zero_fin s zero e p = let z : eqb a 0 ≡ true = eq-eqb a 0 (nought a (up e) (down e) c (down_pos e) p) in rw z (sym (and-true s))
  zero_fin s (suc m) e p = let z : eqb a 0 ≡ false = ne_eqb a 0 (some a m (up e) (down e) c (up_pos e) C p) in rw z (sym (and-false s))

-- ---- a pattern without its sign stands for more smallest values than the one before it
last : counted (2 ^ 52 - 1) < counted (2 ^ 52 - 1 + 1)
unfolding counted
last = lit< tt

carry : (x : ℕ) → (2 ^ 52 + (2 ^ 52 - 1)) * 2 ^ x < (2 ^ 52 + 0) * 2 ^ suc x
carry x = omega (arith, two-pow-succ x, pow_pos x)

next : (p : ℕ) → counted p < counted (p + 1)
next p = go (dec_lt p (2 ^ 52 - 1)) (dec_lt p (2 ^ 52)) (dec_lt (p % 2 ^ 52) (2 ^ 52 - 1))
  where
    go : Dec (p < 2 ^ 52 - 1) → Dec (p < 2 ^ 52) → Dec (p % 2 ^ 52 < 2 ^ 52 - 1) → counted p < counted (p + 1)
    go (yes h) k t = rw (counted_low p (omega arith), counted_low (p + 1) (omega arith)) (omega arith)
    go (no h) (yes k) t = subst (λ (x : ℕ). counted x < counted (x + 1)) (omega arith) last
    go (no h) (no k) (yes t) =
        let r : (p + 1) % 2 ^ 52 ≡ p % 2 ^ 52 + 1 = omega arith in
        let q : (p + 1) / 2 ^ 52 - 1 ≡ p / 2 ^ 52 - 1 = omega arith in
        rw (counted_high p (omega arith), counted_high (p + 1) (omega arith), r, q) (mul-lt-mul_of_pos_right (omega arith) (pow_pos (p / 2 ^ 52 - 1)))
    go (no h) (no k) (no t) =
        let r : (p + 1) % 2 ^ 52 ≡ 0 = omega arith in
        let o : p % 2 ^ 52 ≡ 2 ^ 52 - 1 = omega arith in
        let q : (p + 1) / 2 ^ 52 - 1 ≡ suc (p / 2 ^ 52 - 1) = omega arith in
        rw (counted_high p (omega arith), counted_high (p + 1) (omega arith), r, q, o) (carry (p / 2 ^ 52 - 1))

pub counted_grows : (p q : ℕ) → p < q → counted p < counted q
counted_grows p zero h = absurd (omega arith)
counted_grows p (suc q) h = elim (eq-or-lt_of_le (le_of_suc-le-suc h)) [ inl e ↦ subst (λ (x : ℕ). counted x < counted (suc q)) (sym e) (after q) | inr l ↦ lt_trans (counted_grows p q l) (after q) ]
  where
    after : (q : ℕ) → counted q < counted (suc q)
    after q = subst (λ (x : ℕ). counted q < counted x) (add-one q) (next q)

-- ---- a value by its sign and its pattern without the sign, +∞'s pattern for an infinity
abbrev pub top : ℕ
top = 0x7ff0_0000_0000_0000

abbrev pub Pattern : Float → Bool → ℕ → Type 0
Pattern nan s p = ⊥
Pattern (inf t) s p = (t ≡ s) × (p ≡ top)
Pattern (fin t m e) s p = (t ≡ s) × (p < top) × (m * up e * 2 ^ 1074 ≡ counted p * down e)

-- an infinity and a finite value, a finite value and an infinity
over_top : (s t : Bool) (p : ℕ) → p < top → s ≡ below s top t p
over_top s t p h = grind (arith, nat_tests)

under_top : (s t : Bool) (p : ℕ) → p < top → not t ≡ below s p t top
under_top s t p h = grind (arith, nat_tests)

tops : (s t : Bool) → (s && not t) ≡ below s top t top
tops s t = grind (arith, nat_tests)

same_tops : (s t : Bool) → beq s t ≡ level s top t top
same_tops s t = grind (arith, nat_tests)

counted_none : counted 0 ≡ 0
counted_none = counted_low 0 (lit< tt)

counted_zero : (p : ℕ) → eqb (counted p) 0 ≡ eqb p 0
counted_zero p = ap (λ (z : ℕ). eqb (counted p) z) (sym counted_none) ∙ keeps_eqb counted counted_grows p 0

least : (p : ℕ) → p ≤ counted p
least zero = zero-le
least (suc p) = let h : counted p < counted (suc p) = counted_grows p (suc p) (omega arith) in omega (arith, least p)

counted_below : (s : Bool) (p : ℕ) (t : Bool) (q : ℕ) → below s (counted p) t (counted q) ≡ below s p t q
counted_below s p t q =
    let a = least p in
    let b = least q in
    let g = counted_grows p q in
    let h = counted_grows q p in
    let z = counted_none in
    grind (arith, nat_tests)

counted_level : (s : Bool) (p : ℕ) (t : Bool) (q : ℕ) → level s (counted p) t (counted q) ≡ level s p t q
counted_level s p t q =
    let a = least p in
    let g = counted_grows p q in
    let h = counted_grows q p in
    let z = counted_none in
    grind (arith, nat_tests)

pub lt_pattern : (x y : Float) (s t : Bool) (p q : ℕ) → Pattern x s p → Pattern y t q → lt x y ≡ below s p t q
unfolding lt
lt_pattern nan y s t p q h k = absurd h
lt_pattern (inf s') nan s t p q h k = absurd k
lt_pattern (fin s' m e) nan s t p q h k = absurd k
lt_pattern (inf s') (inf t') s t p q h k = rw (h.0, k.0, h.1, k.1) (tops s t)
lt_pattern (inf s') (fin t' n d) s t p q h k = rw (h.0, h.1) (over_top s t q k.1)
lt_pattern (fin s' m e) (inf t') s t p q h k = rw (k.0, k.1) (under_top s t p h.1)
lt_pattern (fin s' m e) (fin t' n d) s t p q h k =
    rw (h.0, k.0) (lt_fin (2 ^ 1074) (pow_pos 1074) (counted p) (counted q) s m e t n d h.2 k.2 ∙ counted_below s p t q)

pub eq_pattern : (x y : Float) (s t : Bool) (p q : ℕ) → Pattern x s p → Pattern y t q → eq x y ≡ level s p t q
unfolding eq
eq_pattern nan y s t p q h k = absurd h
eq_pattern (inf s') nan s t p q h k = absurd k
eq_pattern (fin s' m e) nan s t p q h k = absurd k
eq_pattern (inf s') (inf t') s t p q h k = rw (h.0, k.0, h.1, k.1) (same_tops s t)
eq_pattern (inf s') (fin t' n d) s t p q h k = sym (ap (λ (z : Bool). z && (beq s t || eqb p 0)) (ne_eqb p q (omega (arith, h.1, k.1))))
eq_pattern (fin s' m e) (inf t') s t p q h k = sym (ap (λ (z : Bool). z && (beq s t || eqb p 0)) (ne_eqb p q (omega (arith, h.1, k.1))))
eq_pattern (fin s' m e) (fin t' n d) s t p q h k =
    rw (h.0, k.0) (eq_fin (2 ^ 1074) (pow_pos 1074) (counted p) (counted q) s m e t n d h.2 k.2 ∙ counted_level s p t q)

pub zero_pattern : (x : Float) (s : Bool) (p : ℕ) → Pattern x s p → is_minus_zero x ≡ s && eqb p 0
unfolding is_minus_zero
zero_pattern nan s p h = absurd h
zero_pattern (inf s') s p h = rw h.1 (sym (and-false s))
zero_pattern (fin s' m e) s p h = zero_fin (2 ^ 1074) (pow_pos 1074) (counted p) 0 s' m e h.2 ∙ rw (h.0, counted_zero p)
