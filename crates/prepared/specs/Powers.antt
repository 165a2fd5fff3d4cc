-- The powers of a recording's blocks, by class (01, part 6: `residual_check`, `second_carrier_evidence`). Definitions
-- only.
use Rattle.std.specs.Prelude.{ℕ, List, Float}
use Rattle.lists.specs.Those.{picked}
use Rattle.complex.specs.declared.value.Complex.{Complex}
use Rattle.complex.specs.Value.{c_norm_sqr}
use Rattle.classes.specs.declared.class.BlockClass.{BlockClass}
use Rattle.classes.specs.Class.{is_class}

-- the power of block b, by the blocks' means
abbrev pub block_power : (ℕ → Complex) → ℕ → Float
block_power z b = c_norm_sqr (z b)

-- the powers of the blocks of class c, in order
abbrev pub powers_of : BlockClass → (ℕ → BlockClass) → (ℕ → Complex) → ℕ → List Float
powers_of c class z blocks = picked (λ b. is_class c (class b)) (block_power z) blocks
