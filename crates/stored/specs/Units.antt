-- A record's numbers (crates/replay/README.md): 32-bit units, the least byte first, and numbers of two units, the lower
-- one first. Definitions only.
use Rattle.std.specs.Prelude.{ℕ, ◌+◌, ◌*◌, ◌/◌, ◌^◌, cond, List, length, from_bits, nat_lt, Float}
use Rattle.std.specs.Float.{binary64}
use Rattle.format.specs.Bytes.{pattern_at}

-- unit i; one that the record does not have is 0
unfoldable pub unit_in : List ℕ → ℕ → ℕ
unit_in bytes i = cond (nat_lt i (length bytes / 4)) (pattern_at bytes i) 0

-- the number of units i and i + 1
unfoldable pub long_at : List ℕ → ℕ → ℕ
long_at bytes i = unit_in bytes i + 2 ^ 32 * unit_in bytes (i + 1)

-- the f64 of units i and i + 1. Every NaN's pattern is the one NaN.
unfoldable pub double_at : List ℕ → ℕ → Float
double_at bytes i = from_bits binary64 (long_at bytes i)
