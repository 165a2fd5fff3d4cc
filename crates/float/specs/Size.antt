-- How large a number is: finite, and of size at most 2^200 (01, questions 3, 4 and 7). Definitions only.
use Rattle.std.specs.Prelude.{ℕ, Bool, false, pos, Float}
use Rattle.std.specs.Float.{fin}
use Rattle.std.specs.Float.Ieee.{le}
use Rattle.std.specs.Float.Ieee.Scale.{finite}
use Rattle.float.specs.Compare.{abs_of}

-- neither a NaN nor an infinity
unfoldable pub finite_f : Float → Bool
finite_f x = finite x

-- 2 ^ k
abbrev pub 2^ : ℕ → Float
2^ k = fin false 1 (pos k)

-- of size at most 2^200; a NaN is not
unfoldable pub sized : Float → Bool
sized x = le (abs_of x) (2^ 200)
