-- The recording derotated by a carrier, and its means over blocks (01, part 2: `derotated`, `block_means` as in the
-- Rust). Definitions only.
-- A carrier enters as cycles per sample, cyc = carrier_hz / fs.
use Rattle.std.specs.Prelude.{ℕ, ◌*◌, List, Float}
use Rattle.float.specs.Ops.{◌⊗◌, of, one}
use Rattle.float.specs.Remainder.{rem_euclid_of}
use Rattle.trig.specs.Circle.{sin_of, cos_of}
use Rattle.complex.specs.declared.value.Complex.{Complex}
use Rattle.complex.specs.Value.{c_new, c_mul, c_conj, c_div}
use Rattle.complex.specs.Rows.{z_at, c_sum}
use Rattle.trig.specs.Consts.{TAU}

-- `rotor`: (cyc × k).rem_euclid(1) × TAU, its cosine and its sine
unfoldable pub rotor_of : Float → ℕ → Complex
rotor_of cyc k = let ph = rem_euclid_of (cyc ⊗ of k) one ⊗ TAU in c_new (cos_of ph) (sin_of ph)

-- `derotated`: sample k times the conjugate of the rotor
unfoldable pub derot : List Float → Float → ℕ → Complex
derot iq cyc k = c_mul (z_at iq k) (c_conj (rotor_of cyc k))

-- the mean of the len derotated samples from sample a
unfoldable pub mean_from : List Float → Float → ℕ → ℕ → Complex
mean_from iq cyc a len = c_div (c_sum (derot iq cyc) a len) (of len)

-- `block_means`: number b is the mean of the len derotated samples from b × len
unfoldable pub block_mean : List Float → Float → ℕ → ℕ → Complex
block_mean iq cyc len b = mean_from iq cyc (b * len) len
