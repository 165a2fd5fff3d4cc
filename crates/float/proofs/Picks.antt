-- A fraction a / c to a whole number, toward zero (`cut`), away from zero (`lifted`) and to the nearest (`half_up`).
-- `Steps`: a larger fraction gives no smaller number, and a whole number stays. With q and r the quotient and the
-- remainder of a by c: which of q and q + 1 each gives. floor, ceil and round are each a way for either sign
-- (`wholly`, `floor_is`, `ceil_is`, `round_is`). Assumes nothing.
use Rattle.std.proofs.Common.{◌≡◌, ℕ, zero, suc, ◌+◌, ◌-◌, ◌*◌, ◌/◌, ◌%◌, ◌<◌, ◌≤◌, Bool, true, false, sym, refl, ap, ◌∙◌, inl, inr, zero-le, le_trans, le_of_eq, lt_of_lt_of_le, lt_of_le_of_lt, lt_irrefl, mod-lt, suc-mul, eq-zero-or-pos, lt_of_mul-lt-mul_right, mul-lt-mul_of_pos_right, mul-pos, div-add-mod', le-div_iff_mul-le, mul-one, mul_right_comm, div-mul-le_self, mul-div_cancel, mul_left_comm, add-one, arith, lit<}
use native.Mathlib.Nat.{div-eq_of_lt-le}
use lib.Ieee.{Float, nan, inf, fin, binary64, up, down, round}
use lib.Ieee.Nearest.{div_mono}
use Rattle.float.specs.Whole.{cut, lifted, half_up, floor_of, ceil_of, round_of}

-- a larger fraction gives no smaller number, and a whole number stays
pub record Steps (pick : ℕ → ℕ → ℕ) : Type 0 where
  pub mono : (a c b d : ℕ) → 0 < c → 0 < d → a * d ≤ b * c → pick a c ≤ pick b d
  pub keeps : (n c : ℕ) → 0 < c → pick (n * c) c ≡ n

pub cut_steps : Steps cut
cut_steps = record { mono = λ a c b d C D h. div_mono a c b d C D h; keeps = λ n c C. mul-div_cancel n C }

lifted_mono : (a c b d : ℕ) → 0 < c → 0 < d → a * d ≤ b * c → lifted a c ≤ lifted b d
lifted_mono a c b d C D h =
    elim (eq-zero-or-pos (lifted a c)) [
      | inl z ↦ le_trans (le_of_eq z) zero-le
      | inr p ↦ up_to_lem (lifted a c) p refl
    ]
  where
    below_a : (q : ℕ) → suc q ≡ lifted a c → q * c < a
    below_a q e =
        let l : suc q * c ≤ a + (c - 1) = le_trans (le_of_eq (ap (λ (z : ℕ). z * c) e)) (div-mul-le_self (a + (c - 1)) c) in
        let s : suc q * c ≡ q * c + c = suc-mul q c in
        omega arith

    next : (q : ℕ) → q * d < b → suc q ≤ lifted b d
    next q l = let s : suc q * d ≡ q * d + d = suc-mul q d in (le-div_iff_mul-le D).1 (omega arith)

    up_to_lem : (q : ℕ) → 0 < q → q ≡ lifted a c → q ≤ lifted b d
    up_to_lem zero p e = absurd (lt_irrefl 0 p)
    up_to_lem (suc q) p e =
        next q (lt_of_mul-lt-mul_right c (lt_of_le_of_lt (le_of_eq (mul_right_comm q d c)) (lt_of_lt_of_le (mul-lt-mul_of_pos_right (below_a q e) D) h)))

pub lifted_steps : Steps lifted
lifted_steps = record { mono = lifted_mono; keeps = stays }
  where
    stays : (n c : ℕ) → 0 < c → lifted (n * c) c ≡ n
    stays n c C = let s : suc n * c ≡ n * c + c = suc-mul n c in let t : (n + 1) * c ≡ suc n * c = ap (λ (z : ℕ). z * c) (add-one n) in div-eq_of_lt-le c (omega arith) (omega arith)

pub half_steps : Steps half_up
half_steps = record { mono = mono; keeps = stays }
  where
    mono : (a c b d : ℕ) → 0 < c → 0 < d → a * d ≤ b * c → half_up a c ≤ half_up b d
    mono a c b d C D h = div_mono (2 * a + c) (2 * c) (2 * b + d) (2 * d) (mul-pos (lit< tt) C) (mul-pos (lit< tt) D) (omega arith)

    stays : (n c : ℕ) → 0 < c → half_up (n * c) c ≡ n
    stays n c C = div-eq_of_lt-le (2 * c) (omega arith) (omega arith)

pub stays : (pick : ℕ → ℕ → ℕ) → Steps pick → (n : ℕ) → pick n 1 ≡ n
stays pick i n = ap (λ (z : ℕ). pick z 1) (sym (mul-one n)) ∙ i.keeps n 1 (lit< tt)

-- ---- with a = q * c + r: what a / c is away from zero, and to the nearest
module _ (a c : ℕ) (C : 0 < c) where
  pub split : (a / c * c + a % c ≡ a) × (a % c < c) × (suc (a / c) * c ≡ a / c * c + c)
  split = (div-add-mod' a c, mod-lt a C, suc-mul (a / c) c)

  pub lifted_next : 0 < a % c → lifted a c ≡ suc (a / c)
  lifted_next h =
      let s = split in
      let t : (suc (a / c) + 1) * c ≡ suc (a / c) * c + c = ap (λ (z : ℕ). z * c) (add-one (suc (a / c))) ∙ suc-mul (suc (a / c)) c in
      div-eq_of_lt-le c (omega arith) (omega arith)

  pub lifted_same : a % c ≡ 0 → lifted a c ≡ a / c
  lifted_same h =
      let s = split in
      let t : (a / c + 1) * c ≡ suc (a / c) * c = ap (λ (z : ℕ). z * c) (add-one (a / c)) in
      div-eq_of_lt-le c (omega arith) (omega arith)

  pub half_next : c ≤ a % c * 2 → half_up a c ≡ suc (a / c)
  half_next h =
      let s = split in
      let t : suc (a / c) * (2 * c) ≡ 2 * (suc (a / c) * c) = mul_left_comm (suc (a / c)) 2 c in
      let u : (suc (a / c) + 1) * (2 * c) ≡ suc (a / c) * (2 * c) + 2 * c = ap (λ (z : ℕ). z * (2 * c)) (add-one (suc (a / c))) ∙ suc-mul (suc (a / c)) (2 * c) in
      div-eq_of_lt-le (2 * c) (omega arith) (omega arith)

  pub half_same : a % c * 2 < c → half_up a c ≡ a / c
  half_same h =
      let s = split in
      let t : a / c * (2 * c) ≡ 2 * (a / c * c) = mul_left_comm (a / c) 2 c in
      let u : (a / c + 1) * (2 * c) ≡ a / c * (2 * c) + 2 * c = ap (λ (z : ℕ). z * (2 * c)) (add-one (a / c)) ∙ suc-mul (a / c) (2 * c) in
      div-eq_of_lt-le (2 * c) (omega arith) (omega arith)

-- ---- to a whole number, each sign its own way
unfoldable pub wholly : (Bool → ℕ → ℕ → ℕ) → Float → Float
wholly pick nan = nan
wholly pick (inf s) = inf s
wholly pick (fin s m e) = round binary64 s (pick s (m * up e) (down e)) 1

abbrev pub floor_pick : Bool → ℕ → ℕ → ℕ
floor_pick true = lifted
floor_pick false = cut

abbrev pub ceil_pick : Bool → ℕ → ℕ → ℕ
ceil_pick true = cut
ceil_pick false = lifted

abbrev pub round_pick : Bool → ℕ → ℕ → ℕ
round_pick s = half_up

pub floor_steps : (s : Bool) → Steps (floor_pick s)
floor_steps true = lifted_steps
floor_steps false = cut_steps

pub ceil_steps : (s : Bool) → Steps (ceil_pick s)
ceil_steps true = cut_steps
ceil_steps false = lifted_steps

pub round_steps : (s : Bool) → Steps (round_pick s)
round_steps s = half_steps

pub floor_is : (x : Float) → floor_of x ≡ wholly floor_pick x
unfolding floor_of wholly
floor_is nan = refl
floor_is (inf s) = refl
floor_is (fin true m e) = refl
floor_is (fin false m e) = refl

pub ceil_is : (x : Float) → ceil_of x ≡ wholly ceil_pick x
unfolding ceil_of wholly
ceil_is nan = refl
ceil_is (inf s) = refl
ceil_is (fin true m e) = refl
ceil_is (fin false m e) = refl

pub round_is : (x : Float) → round_of x ≡ wholly round_pick x
unfolding round_of wholly
round_is nan = refl
round_is (inf s) = refl
round_is (fin s m e) = refl
