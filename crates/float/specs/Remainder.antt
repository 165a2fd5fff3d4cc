-- Rust's `rem_euclid` (01, part 1). Definitions only.
use Rattle.std.specs.Prelude.{cond, Float}
use Rattle.std.specs.Float.{binary64}
use Rattle.std.specs.Float.Ieee.{rem, lt}
use Rattle.float.specs.Ops.{◌⊕◌, plus_zero}
use Rattle.float.specs.Compare.{abs_of}

-- r, plus |b| if r is negative
abbrev pub raised : Float → Float → Float
raised b r = cond (lt r plus_zero) (r ⊕ abs_of b) r

-- `rem_euclid(a, b)`: a % b, plus |b| if that is negative
unfoldable pub rem_euclid_of : Float → Float → Float
rem_euclid_of a b = raised b (rem binary64 a b)
