use Rattle.std.proofs.Common.{◌∙◌, ap, arith}
use lib.Ieee.{binary64, mul, of_bits}
use Rattle.float.proofs.Modulo.{exponents, rem_units}
use Rattle.std.proofs.lemmas.Float.{not_nan_f64_bits}
use Rattle.float.proofs.remainder.rem_bits.Goals as goal

pub overflow_sub-a : goal.overflow_sub-a
overflow_sub-a c = exponents _ _ _ _ _ _ c.in_units-a.ensures c.in_units-b.ensures c.requires.order

pub float_from_bits-result : goal.float_from_bits-result
float_from_bits-result c = not_nan_f64_bits _ (omega (arith, c.power_bits-p.ensures.0))

pub returns : goal.returns
returns c =
    ap (λ z. mul binary64 z (of_bits binary64 c.power_bits-p.result)) c.exact.ensures
    ∙ rem_units _ _ _ _ _ _ _ _ c.requires.x_bound c.requires.y_bound c.power_bits-p.ensures.0 c.requires.y_nonzero c.requires.order c.in_units-a.ensures c.in_units-b.ensures c.shifted-r.ensures c.power_bits-p.ensures.1
