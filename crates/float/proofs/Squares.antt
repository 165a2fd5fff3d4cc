-- Squares of whole numbers, and the whole number nearest to a root. Assumes nothing.
use Rattle.std.proofs.Common.{◌≡◌, ℕ, zero, suc, ◌+◌, ◌*◌, ◌<◌, ◌≤◌, le_of_suc-le-suc, lt_of_lt_of_le, lt_irrefl, mul-le-mul, le_antisymm, lt_of_not-le, zero-lt-suc, arith}

pub square_lt_back : (a b : ℕ) → a * a < b * b → a < b
square_lt_back a b h = lt_of_not-le (λ (g : b ≤ a). lt_irrefl (a * a) (lt_of_lt_of_le h (mul-le-mul g g)))

-- c is the whole number nearest to the root of p: (2 * c - 1) ^ 2 < 4 * p < (2 * c + 1) ^ 2. (No root is half-way
-- between two whole numbers.)
pub record NearRoot (p c : ℕ) : Type 0 where
  pub above : c * c < p + c
  pub below : p ≤ c * c + c

-- it is below b where the root is below b by a half
pub near_under : (p b c : ℕ) → 0 < b → p + b ≤ b * b → c * c < p + c → c < b
near_under p zero c h k l = absurd (omega arith)
near_under p (suc b) zero h k l = zero-lt-suc b
near_under p (suc b) (suc c) h k l = lt_of_not-le (λ (g : suc b ≤ suc c). let m : b * suc b ≤ c * suc c = mul-le-mul (le_of_suc-le-suc g) g in omega arith)

-- there is one
pub near_unique : (n c d : ℕ) → NearRoot n c → NearRoot n d → c ≡ d
near_unique n c d h k = le_antisymm (not_above d c k h) (not_above c d h k)
  where
    not_above : (c d : ℕ) → NearRoot n c → NearRoot n d → d ≤ c
    not_above c d h k = le_of_suc-le-suc (near_under n (suc c) d (zero-lt-suc c) (omega (arith, h.below)) k.above)
