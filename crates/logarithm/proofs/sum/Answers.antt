-- `logarithm::sum` meets its contract.
use mathlib.Core.Path.{refl}
use lib.Ieee.{of_bits, of_int}
use Rattle.logarithm.specs.Logarithm.{series}
use Rattle.logarithm.proofs.sum.Goals as goal

pub returns : goal.returns
unfolding series of_bits of_int
returns c = refl
