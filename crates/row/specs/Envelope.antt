-- The amplitude row (01, part 2): B − 7 amplitudes, by the Rust's running sum from left to right; none if n < window.
-- Definitions only.
use Rattle.std.specs.Prelude.{ℕ, zero, suc, ◌+◌, ◌-◌, List, Float}
use Rattle.float.specs.Ops.{◌⊘◌, eight}
use Rattle.complex.specs.declared.value.Complex.{Complex}
use Rattle.complex.specs.Value.{c_add, c_sub, c_div, c_norm}
use Rattle.complex.specs.Rows.{c_sum}
use Rattle.row.specs.Window.{step_of, step_blocks}
use Rattle.row.specs.Blocks.{block_mean}

-- the running sum of eight neighbours: what comes in is added, less what goes out
unfoldable pub running_sum : (ℕ → Complex) → ℕ → Complex
running_sum z zero = c_sum z 0 8
running_sum z (suc i) = c_add (running_sum z i) (c_sub (z (8 + i)) (z i))

-- the size of its mean
abbrev pub amplitude : (ℕ → Complex) → ℕ → Float
amplitude z i = c_norm (c_div (running_sum z i) eight)

-- number i of the row of a recording at a rate and a carrier
unfoldable pub row_of : List Float → Float → Float → ℕ → Float
row_of iq fs carrier = amplitude (block_mean iq (carrier ⊘ fs) (step_of fs))

-- how many the row holds: B − 7, which is none for n < window, as B is then at most 7
abbrev pub row_length : List Float → Float → ℕ
row_length iq fs = step_blocks iq fs - 7
