-- `logarithm::log_parts` meets its contract.
use lib.Ieee.{of_bits, of_int}
use Rattle.trig.specs.Consts.{LN_2, LN_10}
use Rattle.logarithm.specs.Logarithm.{log_of}
use Rattle.logarithm.proofs.log_parts.Goals as goal

pub returns : goal.returns
unfolding log_of LN_2 LN_10 of_bits of_int
returns c = simp c.sum.ensures
