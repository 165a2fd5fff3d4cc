-- The gain of an interior (01, part 4: `fit_elements`): the Hann-weighted mean of the derotated samples with the
-- slope removed. Definitions only.
use Rattle.std.specs.Prelude.{ℕ, ◌+◌, ◌-◌, List, Float}
use Rattle.std.specs.Float.Ieee.{neg}
use Rattle.float.specs.Ops.{◌⊕◌, ◌⊖◌, ◌⊗◌, ◌⊘◌, of, plus_zero, half, two}
use Rattle.float.specs.Remainder.{rem_euclid_of}
use Rattle.trig.specs.Circle.{cos_of}
use Rattle.complex.specs.declared.value.Complex.{Complex}
use Rattle.complex.specs.Value.{c_mul, c_polar}
use Rattle.complex.specs.Rows.{c_sum}
use Rattle.trig.specs.Consts.{TAU}
use Rattle.row.specs.Blocks.{derot}
use Rattle.lists.specs.Sums.{f_sum}

-- `ref_sample`: the middle of the samples from i0 up to, not including, i1
unfoldable pub ref_sample_of : ℕ → ℕ → Float
ref_sample_of i0 i1 = of (i0 + i1 - 1) ⊘ two

-- `w`: the Hann weight of sample j of len
unfoldable pub hann : ℕ → ℕ → Float
hann len j = half ⊖ half ⊗ cos_of (TAU ⊗ (of j ⊕ half) ⊘ of len)

-- `tilt`: the angle that takes the slope out of sample k, none at the reference sample
unfoldable pub tilt_of : Float → Float → ℕ → Float
tilt_of slope ref k = rem_euclid_of (neg slope ⊗ (of k ⊖ ref)) TAU

-- the term of sample j of the interior, which is sample k = i0 + j of the recording
abbrev pub leveled : List Float → Float → ℕ → ℕ → Float → Float → ℕ → Complex
leveled iq cyc i0 len slope ref j = let k = i0 + j in c_mul (derot iq cyc k) (c_polar (hann len j) (tilt_of slope ref k))

-- `acc` and `wacc`: the sums over the interior, of the terms and of their weights
unfoldable pub gain_sum : List Float → Float → ℕ → ℕ → Float → Float → Complex
gain_sum iq cyc i0 len slope ref = c_sum (leveled iq cyc i0 len slope ref) 0 len

unfoldable pub hann_sum : ℕ → Float
hann_sum len = f_sum plus_zero (hann len) len
