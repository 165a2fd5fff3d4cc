-- Not needed to read a public promise: what the functions behind a fit require and ensure. Definitions only.
use Rattle.std.specs.Prelude.{ℕ, ◌+◌, ◌*◌, ◌≤◌, ◌<◌, ◌≡◌, List, length, Float}
use Rattle.complex.specs.declared.value.Complex.{Complex}
use Rattle.complex.specs.Value.{c_new, c_mul, c_norm, c_polar}
use Rattle.complex.specs.Rows.{z_at}
use Rattle.row.specs.Blocks.{derot}
use Rattle.interiors.specs.Slope.{phase_of}
use Rattle.interiors.specs.Gain.{tilt_of}

-- ---- the points of the slope fit, in the work slice

-- a block's phase, and its weight: how large its mean is
abbrev pub point_of : (ℕ → Complex) → ℕ → Complex
point_of z b = c_new (phase_of z b) (c_norm (z b))

-- point b as a list holds it, a pair where a row of complex numbers has its number b
abbrev pub phase_in : List Float → ℕ → Float
phase_in l b = (z_at l b).re

abbrev pub weight_in : List Float → ℕ → Float
weight_in l b = (z_at l b).im

-- ---- the derotated samples of an interior that begins at i0, in the work slice

-- m of them, the first at complex number `at`
pub record Derotated (iq : List Float) (cyc : Float) (i0 at m : ℕ) (l : List Float) : Type 0 where
  pub each : (j : ℕ) → j < m → z_at l (at + j) ≡ derot iq cyc (i0 + j)
  pub room : 2 * (at + m) ≤ length l

-- ---- the term of sample k of the gain, whose derotated value is z, with the weight w
abbrev pub leveled_by : Float → Float → ℕ → Float → Complex → Complex
leveled_by slope ref k w z = c_mul z (c_polar w (tilt_of slope ref k))
