-- Powers of two and numbers of digits: `size_gt` (a number of 2 ^ j at least has more than j digits), `size_exact`,
-- `pow_le→le`, `pow_lt→lt`, `pow_split`, `halves`. And what `compare` says (`cmp`). Assumes nothing.
use Rattle.std.proofs.Common.{◌≡◌, ℕ, zero, suc, ◌+◌, ◌-◌, ◌*◌, ◌/◌, ◌%◌, ◌^◌, ◌<◌, ◌≤◌, not, T, eqb, sym, refl, ap, ◌∙◌, subst, lt_of_lt_of_le, le_of_suc-le-suc, lt_of_le_of_lt, lt_irrefl, mul_assoc, le_antisymm, lt_of_not-le, not-le_of_lt, arith, eqb→eq, leb→le, pow_mono, pow-add}
use Prim.Native.Nat.{compare, Ordering}
use lib.Dec.{is_le, compare_is_eq, nleb→lt, eqb_refl}
use lib.Arith.{lt_of_le-ne}
use lib.Pow.{pow-lt}
use lib.Ieee.{size}
use lib.Ieee.Digits.{size-lt, size-le}

pub pow_le→le : (i j : ℕ) → 2 ^ i ≤ 2 ^ j → i ≤ j
pow_le→le i j h = le_of_suc-le-suc (lt_of_not-le (λ (g : suc j ≤ i). not-le_of_lt (pow-lt g) h))

pub pow_lt→lt : (i j : ℕ) → 2 ^ i < 2 ^ j → i < j
pow_lt→lt i j h = lt_of_not-le (λ (g : j ≤ i). lt_irrefl (2 ^ i) (lt_of_lt_of_le h (pow_mono g)))

pub pow_split : (n a b : ℕ) → n * 2 ^ a * 2 ^ b ≡ n * 2 ^ (a + b)
pow_split n a b = mul_assoc n (2 ^ a) (2 ^ b) ∙ ap (λ (x : ℕ). n * x) (sym (pow-add 2 a b))

pub size_gt : (n j : ℕ) → 2 ^ j ≤ n → j < size n
size_gt n j h = pow_lt→lt j (size n) (lt_of_le_of_lt h (size-lt n))

pub size_exact : (a n : ℕ) → 2 ^ a ≤ n → n < 2 ^ suc a → size n ≡ suc a
size_exact a n lo hi = le_antisymm (size-le n (suc a) hi) (size_gt n a lo)

-- ---- a power of two as a power, an odd 2 if there is one, and a square

pub halves : (p e : ℕ) → p ≤ e → 2 ^ e ≡ (1 + (e - p) % 2) * 2 ^ p * (2 ^ ((e - p) / 2) * 2 ^ ((e - p) / 2))
halves p e h =
    let k = (e - p) / 2 in
    let o = (e - p) % 2 in
    let s : e ≡ o + p + (k + k) = omega arith in
    ap (λ (i : ℕ). 2 ^ i) s
    ∙ pow-add 2 (o + p) (k + k)
    ∙ ap (λ (x : ℕ). x * 2 ^ (k + k)) (pow-add 2 o p)
    ∙ ap (λ (x : ℕ). 2 ^ o * 2 ^ p * x) (pow-add 2 k k)
    ∙ ap (λ (x : ℕ). x * 2 ^ p * (2 ^ k * 2 ^ k)) (bit o (omega arith))
  where
    bit : (o : ℕ) → o < 2 → 2 ^ o ≡ 1 + o
    bit zero h = refl
    bit (suc zero) h = refl
    bit (suc (suc o)) h = absurd (omega (arith, h))

-- ---- what `compare` says
abbrev pub Cmp : Ordering → ℕ → ℕ → Type 0
Cmp Ordering.lt a b = a < b
Cmp Ordering.eq a b = a ≡ b
Cmp Ordering.gt a b = b < a

pub cmp : (a b : ℕ) → Cmp (compare a b) a b
cmp a b = go (compare a b) (leb→le a b) (nleb→lt a b) (eqb→eq a b) (λ (e : a ≡ b). subst (λ (x : ℕ). T (eqb a x)) e (eqb_refl a))
  where
    go : (o : Ordering) → (T (is_le o) → a ≤ b) → (T (not (is_le o)) → b < a) → (T (compare_is_eq o) → a ≡ b) → (a ≡ b → T (compare_is_eq o)) → Cmp o a b
    go Ordering.lt h k e n = lt_of_le-ne (h tt) n
    go Ordering.eq h k e n = e tt
    go Ordering.gt h k e n = k tt
