-- `float::single::narrow` meets its contract, by its bit pattern.
use Rattle.std.proofs.Common.{◌^◌, ◌<◌, not, T, sym, ap, ◌∙◌, arith}
use lib.Ieee.{binary64, is_nan, of_bits, to_bits}
use lib.Ieee.Bits.{of_bits-to_bits, to_bits-lt}
use Rattle.float.specs.Single.{narrow_of}
use Rattle.float.proofs.Compared.{yes, no}
use Rattle.float.proofs.Narrowing.{with_sign, magnitude_le, pattern_ok, narrow_nan}
use Rattle.float.proofs.single.narrow.Goals as goal

b_lt : (c : goal.Else-is_nan) → to_bits binary64 c.args.x < 2 ^ 64
b_lt c = to_bits-lt binary64 c.args.x (yes c.well_formed.0.1)

number : (c : goal.Else-is_nan) → T (not (is_nan c.args.x))
number c = no (sym c.is_nan.ensures.value ∙ c.if-is_nan.false)

pub returns-then-is_nan : goal.returns-then-is_nan
unfolding of_bits
returns-then-is_nan c = narrow_nan c.args.x (sym c.is_nan.ensures.value ∙ c.if-is_nan.true)

pub float_to_bits-b : goal.float_to_bits-b
float_to_bits-b c = number c

pub narrow_bits-r-requires : goal.narrow_bits-r-requires
narrow_bits-r-requires c = magnitude_le c.args.x (yes c.well_formed.0.1) (number c)

pub overflow_mul-result : goal.overflow_mul-result
overflow_mul-result c = omega (arith, b_lt c.before)

pub overflow_add-result : goal.overflow_add-result
overflow_add-result c = omega (arith, b_lt c.before)

pub overflow_cast-result : goal.overflow_cast-result
overflow_cast-result c = omega (arith, b_lt c.before)

pub float_from_bits-result : goal.float_from_bits-result
float_from_bits-result c = pattern_ok (to_bits binary64 c.args.x) c.narrow_bits-r.result (b_lt c.before) c.narrow_bits-r.ensures.small

pub returns-else-is_nan : goal.returns-else-is_nan
returns-else-is_nan c =
    let x = c.args.x in
    with_sign (to_bits binary64 x) c.narrow_bits-r.result (b_lt c.before) c.narrow_bits-r.ensures
    ∙ ap narrow_of (of_bits-to_bits binary64 x (yes c.well_formed.0.1))
