-- A yes or no as a figure, and a number that may be absent: what std answers is 1 or 0, and in the number's place 0.
use Rattle.std.proofs.Common.{◌≡◌, refl, Bool, true, false, Some, None}
use Rattle.std.specs.declared.option.Option.{Option}
use Rattle.std.specs.Int.{from_bool}
use Rattle.std.specs.Option.{unwrap_or, is_some}
use Rattle.std.specs.Prelude.{pos}
use lib.Ieee.{Float, binary64, of_bits, of_int}
use Rattle.figures.specs.Flag.{flag_of}
use Rattle.figures.specs.Optional.{present_of, value_of}

pub flag_is : (yes : Bool) → of_int binary64 (pos (from_bool yes)) ≡ flag_of yes
unfolding of_bits of_int
flag_is true = refl
flag_is false = refl

pub present_is : (x : Option Float) → flag_of (is_some x) ≡ present_of x
present_is (Some x) = refl
present_is None = refl

pub value_is : (x : Option Float) → unwrap_or x (of_bits binary64 0) ≡ value_of x
unfolding of_bits of_int
value_is (Some x) = refl
value_is None = refl
