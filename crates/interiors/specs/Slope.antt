-- The phase slope of an interior (01, part 4: `fit_elements`): its block means, their unwrapped phase, and the line
-- through the points. Definitions only.
use Rattle.std.specs.Prelude.{ℕ, zero, suc, ◌+◌, ◌*◌, ◌/◌, List, Float}
use Rattle.float.specs.Ops.{◌⊕◌}
use Rattle.complex.specs.declared.value.Complex.{Complex}
use Rattle.complex.specs.Value.{c_mul, c_conj, c_norm, c_arg}
use Rattle.row.specs.Blocks.{mean_from}
use Rattle.interiors.specs.Line.{time_of, line_slope}

-- the mean of the derotated samples of block b of an interior that begins at i0
unfoldable pub slope_mean : List Float → Float → ℕ → ℕ → ℕ → Complex
slope_mean iq cyc i0 block b = mean_from iq cyc (i0 + b * block) block

-- the phase one block further: added is the angle from the block mean before to the next one
abbrev pub phase_on : Float → Complex → Complex → Float
phase_on phase before next = phase ⊕ c_arg (c_mul next (c_conj before))

-- the unwrapped phase of a row of block means
unfoldable pub phase_of : (ℕ → Complex) → ℕ → Float
phase_of z zero = c_arg (z 0)
phase_of z (suc b) = phase_on (phase_of z b) (z b) (z (suc b))

-- `slope`, in radians a sample, of the len samples from i0 on
unfoldable pub slope_of : List Float → Float → ℕ → ℕ → ℕ → Float
slope_of iq cyc i0 len block =
    let z = slope_mean iq cyc i0 block in
    line_slope (λ b. c_norm (z b)) (time_of i0 block) (phase_of z) (len / block)
