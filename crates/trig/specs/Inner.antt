-- Not needed to read a public promise: where the table has a sine. Definitions only.
use Rattle.std.specs.Prelude.{ℕ, ◌-◌, ◌%◌, cond, nat_le}

-- the place in the first quarter that has the sine of p/4096 turn, but for the sign
abbrev pub folded : ℕ → ℕ
folded p = cond (nat_le (p % 2048) 1024) (p % 2048) (2048 - p % 2048)
