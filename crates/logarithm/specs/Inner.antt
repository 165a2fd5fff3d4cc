-- Not needed to read a public promise: what `log10` reads off a bit pattern. Definitions only.
use Rattle.std.specs.Prelude.{ℕ, ◌+◌, ◌-◌, ◌*◌, ◌/◌, ◌%◌, ◌^◌, Float}
use Rattle.float.specs.Ops.{bits}

-- Of the bit pattern b of a normal number, y = m·2^e: m, and e with the bias of the exponent's field. The digits alone
-- are a number from 1 up to 2; from 1.5 on, where the first of them is 1, m is half of that.
abbrev pub digits_of : ℕ → Float
digits_of b = bits ((1023 - b % 2 ^ 52 / 2 ^ 51) * 2 ^ 52 + b % 2 ^ 52)

abbrev pub field_of : ℕ → ℕ
field_of b = b / 2 ^ 52 + b % 2 ^ 52 / 2 ^ 51
