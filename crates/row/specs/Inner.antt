-- Not needed to read a public promise: a step of the running sum, and means at carrier 0, as the code makes them.
-- Definitions only.
use Rattle.std.specs.Prelude.{◌≡◌, ℕ, ◌+◌, ◌<◌, List, Float}
use Rattle.float.specs.Ops.{of}
use Rattle.complex.specs.declared.value.Complex.{Complex}
use Rattle.complex.specs.Value.{c_new, c_add, c_sub, c_mul, c_conj, c_div}
use Rattle.complex.specs.Rows.{z_at, c_sum}

-- the running sum one further: what comes in is added, less what goes out
abbrev pub moved_by : (ℕ → Complex) → ℕ → Complex → Complex
moved_by z i run = c_add run (c_sub (z (8 + i)) (z i))

-- the conjugate of the rotor at carrier 0
abbrev pub still_turn : Complex
still_turn = c_conj (c_new (of 1) (of 0))

-- sample k times z, and the mean of len of these from sample a
abbrev pub times : List Float → Complex → ℕ → Complex
times iq z k = c_mul (z_at iq k) z

unfoldable pub mean_times : List Float → Complex → ℕ → ℕ → Complex
mean_times iq z a len = c_div (c_sum (times iq z) a len) (of len)

-- the mean of len complex numbers of a row from number a
unfoldable pub mean_of : (ℕ → Complex) → ℕ → ℕ → Complex
mean_of f a len = c_div (c_sum f a len) (of len)

-- what a closure answers at each number below e is what f is there
abbrev pub Gives : (ℕ → Complex → Type 0) → ℕ → (ℕ → Complex) → Type 0
Gives post e f = (k : ℕ) (z : Complex) → k < e → post k z → z ≡ f k
