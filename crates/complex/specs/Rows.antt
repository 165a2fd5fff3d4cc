-- A flat list of floats as a row of complex numbers, re at 2 k and im at 2 k + 1; sums and stores of such a row.
-- Definitions only.
use Rattle.std.specs.Prelude.{ℕ, zero, suc, ◌+◌, ◌*◌, List, get_or, set, Float}
use Rattle.std.specs.Float.{nan}
use Rattle.complex.specs.declared.value.Complex.{Complex}
use Rattle.complex.specs.Value.{c_new, c_zero, c_add}

-- number k of the row, and the row with z stored there
abbrev pub z_at : List Float → ℕ → Complex
z_at l k = c_new (get_or l (2 * k) nan) (get_or l (2 * k + 1) nan)

abbrev pub z_set : List Float → ℕ → Complex → List Float
z_set l k z = set (set l (2 * k) z.re) (2 * k + 1) z.im

-- f a + f (a + 1) + .., n terms from the left
unfoldable pub c_sum : (ℕ → Complex) → ℕ → ℕ → Complex
c_sum f a zero = c_zero
c_sum f a (suc n) = c_add (c_sum f a n) (f (a + n))

-- f 0, .., f (n - 1) stored at numbers at, .., at + n - 1
unfoldable pub z_fill : List Float → ℕ → (ℕ → Complex) → ℕ → List Float
z_fill l at f zero = l
z_fill l at f (suc n) = z_set (z_fill l at f n) (at + n) (f n)
