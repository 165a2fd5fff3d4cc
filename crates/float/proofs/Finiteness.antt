-- Finite numbers: such a number is no NaN, and std's word for them is that of this library.
use Rattle.std.proofs.Common.{◌≡◌, true, not, T, refl}
use mathlib.Core.Bool.{false≢true}
use lib.Ieee.{Float, nan, inf, fin, is_nan}
use Rattle.std.specs.Float.{float_is_finite}
use Rattle.float.specs.Size.{finite_f}

pub finite_not_nan : (x : Float) → finite_f x ≡ true → T (not (is_nan x))
unfolding finite_f is_nan
finite_not_nan nan e = absurd (false≢true e)
finite_not_nan (inf s) e = tt
finite_not_nan (fin s m e') e = tt

-- std's word
pub finite_is : (x : Float) → float_is_finite x ≡ finite_f x
unfolding float_is_finite finite_f
finite_is nan = refl
finite_is (inf s) = refl
finite_is (fin s m e) = refl
