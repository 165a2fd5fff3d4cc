use lib.Ieee.{of_bits, of_int}
use Rattle.classes.proofs.class.F64FromBlockClass.from.Goals as goal

pub returns-in-Edge : goal.returns-in-Edge
unfolding of_bits of_int
returns-in-Edge c = rw c.in-Edge.is

pub returns-in-Interior : goal.returns-in-Interior
unfolding of_bits of_int
returns-in-Interior c = rw c.in-Interior.is

pub returns-in-Gap : goal.returns-in-Gap
unfolding of_bits of_int
returns-in-Gap c = rw c.in-Gap.is

pub returns-in-Other : goal.returns-in-Other
unfolding of_bits of_int
returns-in-Other c = rw c.in-Other.is
