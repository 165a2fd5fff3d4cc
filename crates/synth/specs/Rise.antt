-- The raised-cosine step (the Rust's `rc`): from 0 to 1 over RISE_S seconds, half-way at t = 0. A NaN passes neither
-- test. Definitions only.
use Rattle.std.specs.Prelude.{cond, Float}
use Rattle.std.specs.Float.Ieee.{neg, le}
use Rattle.float.specs.Ops.{◌⊕◌, ◌⊗◌, ◌⊘◌, plus_zero, half, one, two}
use Rattle.trig.specs.Consts.{PI}
use Rattle.trig.specs.Circle.{sin_of}
use Rattle.constants.specs.Constants.{RISE_S}

unfoldable pub rc_of : Float → Float
rc_of t =
    cond (le t (neg RISE_S ⊘ two)) plus_zero
    (cond (le (RISE_S ⊘ two) t) one (half ⊕ half ⊗ sin_of (PI ⊗ t ⊘ RISE_S)))
