-- `float::remainder::rem` meets its contract.
use Rattle.std.proofs.Common.{◌∙◌, sym, ap}
use lib.Ieee.{binary64, lt, of_bits}
use Rattle.float.specs.Compare.{abs_of}
use Rattle.float.specs.Size.{finite_f}
use Rattle.float.proofs.Compared.{nought, yes, no}
use Rattle.float.proofs.Remainders.{rem_small}
use Rattle.float.proofs.Divided.{Sizes, divided, divided_plus, divided_minus, not_finite, no_divisor}
use Rattle.float.proofs.remainder.rem.Goals as goal

-- |a| and |b| where there is something to divide
known : (c : goal.Then-by) → Sizes c.abs-size.result c.abs-by.result
unfolding of_bits
known c =
    divided c.args.a c.args.b _ _ _ c.abs-size.ensures c.abs-by.ensures (yes c.well_formed.0.1) (yes c.well_formed.1.0.1) c.finite.ensures c.if-not-finite.false c.if-by.true c.if-size-by.false

pub returns-then-size-by : goal.returns-then-size-by
returns-then-size-by c =
    rem_small binary64 c.args.a c.args.b (yes c.well_formed.0.1) (yes (rw (c.abs-by.ensures, c.abs-size.ensures) at c.if-size-by.true))

pub returns-then-not-finite : goal.returns-then-not-finite
unfolding of_bits
returns-then-not-finite c = not_finite c.args.a c.args.b (ap finite_f (sym c.abs-size.ensures) ∙ sym c.finite.ensures ∙ c.if-not-finite.true)

pub float_to_bits-size : goal.float_to_bits-size
float_to_bits-size c = (known c).x_number

pub rem_bits-r-requires : goal.rem_bits-r-requires
rem_bits-r-requires c =
    let s = known c in
    record { x_bound = s.x_bound; y_bound = s.y_bound; y_nonzero = s.y_nonzero; order = s.order }

pub returns-then-a : goal.returns-then-a
unfolding of_bits
returns-then-a c =
    divided_minus c.args.a c.args.b _ _ _ c.abs-size.ensures c.abs-by.ensures (yes c.well_formed.0.1) (yes c.well_formed.1.0.1) c.finite.ensures c.if-not-finite.false c.if-by.true c.if-size-by.false _ c.rem_bits-r.ensures c.if-a.true

pub returns-then-by : goal.returns-then-by
unfolding of_bits
returns-then-by c =
    divided_plus c.args.a c.args.b _ _ _ c.abs-size.ensures c.abs-by.ensures (yes c.well_formed.0.1) (yes c.well_formed.1.0.1) c.finite.ensures c.if-not-finite.false c.if-by.true c.if-size-by.false _ c.rem_bits-r.ensures c.if-a.false

pub returns : goal.returns
unfolding of_bits
returns c =
    no_divisor c.args.a c.args.b (no (ap (lt nought) (sym c.abs-by.ensures) ∙ c.if-by.false))
    (no (ap (λ v. lt v (abs_of c.args.b)) (sym c.abs-size.ensures) ∙ ap (lt c.abs-size.result) (sym c.abs-by.ensures) ∙ c.if-size-by.false))
