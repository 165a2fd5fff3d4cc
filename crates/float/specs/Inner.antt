-- Not needed to read a public promise: what the functions that `narrow` and `rem_euclid` are made of ensure, in bit
-- patterns and whole numbers. Definitions only.
use Rattle.std.specs.Prelude.{◌≡◌, ℕ, ◌+◌, ◌-◌, ◌*◌, ◌/◌, ◌%◌, ◌^◌, ◌<◌, ◌≤◌, Bool, cond, from_bits, nat_lt}
use Rattle.std.specs.Float.{binary32, binary64}
use Rattle.float.specs.Single.{narrow_of}

-- ---- narrow

-- r is the pattern, without its sign, of the `f64` with the pattern a made an `f32`, whatever the sign
pub record Narrowed (a r : ℕ) : Type 0 where
  pub small : r ≤ 0x7f80_0000
  pub is : (s : Bool) → narrow_of (from_bits binary64 (cond s (2 ^ 63) 0 + a)) ≡ from_bits binary32 (cond s (2 ^ 31) 0 + r)

-- ---- a % b

-- the number of smallest values that a bit pattern with the sign clear stands for, below the infinity's
unfoldable pub counted : ℕ → ℕ
counted b = cond (nat_lt b (2 ^ 52)) b ((2 ^ 52 + b % 2 ^ 52) * 2 ^ (b / 2 ^ 52 - 1))

-- a bit pattern with the sign clear, below the infinity's, stands for m * 2 ^ e smallest values; m has 53 digits where
-- e is above 0
pub record InUnits (b m e : ℕ) : Type 0 where
  pub value : m * 2 ^ e ≡ counted b
  pub most : m < 2 ^ 53
  pub least : 0 < e → 2 ^ 52 ≤ m
  pub ceil : e ≤ 2045
