-- The size of a number, and the larger of two. Definitions only.
use Rattle.std.specs.Prelude.{false, cond, is_nan, Float}
use Rattle.std.specs.Float.{nan, inf, fin}
use Rattle.std.specs.Float.Ieee.{lt}

-- |x|: the sign is dropped
unfoldable pub abs_of : Float → Float
abs_of nan = nan
abs_of (inf s) = inf false
abs_of (fin s m e) = fin false m e

-- Rust's `a.max(b)`: the other one where one is a NaN
unfoldable pub max_of : Float → Float → Float
max_of a b = cond (is_nan a) b (cond (lt a b) b a)
