-- The cosine and the sine of an angle as a complex number. Definitions only.
use Rattle.std.specs.Prelude.{ℕ, List, get_or, Float}
use Rattle.std.specs.Float.{nan}
use Rattle.trig.specs.Circle.{sin_of, cos_of}
use Rattle.complex.specs.declared.value.Complex.{Complex}
use Rattle.complex.specs.Value.{c_new}

unfoldable pub unit_of : Float → Complex
unit_of x = c_new (cos_of x) (sin_of x)

-- of angle k of a list
unfoldable pub unit_at : List Float → ℕ → Complex
unit_at angles k = unit_of (get_or angles k nan)
