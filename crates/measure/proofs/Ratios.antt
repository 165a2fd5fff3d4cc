-- The ways out of `ratio_db`, the floor under its lower side, and `clean`, and what the residual check answers where a
-- class has no block.
use Rattle.std.proofs.Common.{Some, None}
use Rattle.std.specs.declared.option.Option.{Option}
use mathlib.Core.Path.{◌≡◌, refl}
use mathlib.Core.Bool.{true, false}
use lib.Ieee.{Float, inf, lt, of_bits, of_int}
use Rattle.float.specs.Ops.{◌⊗◌, ◌⊘◌, bits, of, plus_zero}
use Rattle.float.specs.Compare.{max_of}
use Rattle.logarithm.specs.Logarithm.{log10_of}
use Rattle.constants.proofs.Bits.{min_positive_bits}
use Rattle.measure.specs.Residual.{ratio_db, floored}

-- f64::INFINITY of the code, and its 10.0
infinity_is : bits 0x7ff0_0000_0000_0000 ≡ inf false
unfolding of_bits
infinity_is = refl

ten_is : of 10 ≡ bits 0x4024_0000_0000_0000
unfolding of_bits of_int
ten_is = refl

module _ (num den : Option Float) where
  pub no_upper : num ≡ None → bits 0x7ff0_0000_0000_0000 ≡ ratio_db num den
  unfolding ratio_db
  no_upper e = rw (e, infinity_is)

  pub no_lower : (n : Float) → num ≡ Some n → den ≡ None → bits 0x7ff0_0000_0000_0000 ≡ ratio_db num den
  unfolding ratio_db
  no_lower n e f = rw (e, f, infinity_is)

  module _ (n d : Float) (e : num ≡ Some n) (f : den ≡ Some d) where
    pub lower_not_above : lt plus_zero d ≡ false → bits 0x7ff0_0000_0000_0000 ≡ ratio_db num den
    unfolding ratio_db
    lower_not_above h = rw (e, f, h, infinity_is)

    pub ratio_is : (m l : Float) → lt plus_zero d ≡ true → m ≡ max_of n (bits 0x0010_0000_0000_0000) → l ≡ log10_of (m ⊘ d) → bits 0x4024_0000_0000_0000 ⊗ l ≡ ratio_db num den
    unfolding ratio_db
    ratio_is m l h p q = rw (e, f, h, q, p, ten_is, min_positive_bits)

module _ (level : Option Float) where
  pub floored_none : level ≡ None → floored level ≡ None
  unfolding floored
  floored_none e = rw e

  pub floored_some : (v m : Float) → level ≡ Some v → m ≡ max_of v (bits 0x0010_0000_0000_0000) → floored level ≡ Some m
  unfolding floored
  floored_some v m e p = rw (e, p, min_positive_bits)
