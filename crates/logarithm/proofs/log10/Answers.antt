-- `logarithm::log10` meets its contract.
use Rattle.std.proofs.Common.{◌∙◌}
use lib.Ieee.{of_bits, of_int}
use Rattle.float.proofs.Compared.{yes, no}
use Rattle.logarithm.proofs.Logs.{log_zero, log_none, log_infinite, log_normal, log_subnormal, raised_number}
use Rattle.logarithm.proofs.log10.Goals as goal

pub returns-then-y : goal.returns-then-y
unfolding of_bits
returns-then-y c = log_zero c.args.y (yes c.if-y.true)

pub float_to_bits-y : goal.float_to_bits-y
unfolding of_bits
float_to_bits-y c = raised_number c.args.y (yes c.well_formed.0.1) (yes c.if-y-2.true) (yes c.if-y-4.true)

pub returns-then-y-4 : goal.returns-then-y-4
unfolding of_bits of_int
returns-then-y-4 c = c.log_bits.ensures ∙ log_subnormal c.args.y (yes c.well_formed.0.1) (yes c.if-y-2.true) (yes c.if-y-4.true)

pub returns-then-y-3 : goal.returns-then-y-3
unfolding of_bits of_int
returns-then-y-3 c = c.log_bits-then-y-3.ensures ∙ log_normal c.args.y (yes c.well_formed.0.1) (yes c.if-y-2.true) (yes c.if-y-3.true) (no c.if-y-4.false)

pub returns-then-y-2 : goal.returns-then-y-2
unfolding of_bits
returns-then-y-2 c = log_infinite c.args.y (yes c.if-y-2.true) (no c.if-y-3.false)

pub returns : goal.returns
unfolding of_bits
returns c = log_none c.args.y (yes c.well_formed.0.1) (no c.if-y.false) (no c.if-y-2.false)
