-- `trig::circle::Sines::sin_cos` meets its contract.
use Rattle.std.proofs.Common.{◌∙◌}
use lib.Ieee.{of_bits, of_int, neg}
use Rattle.trig.specs.Circle.{sin_of, cos_of}
use Rattle.trig.proofs.Quarters.{two_tests}
use Rattle.trig.proofs.circle.Sines.sin_cos.Goals as goal

pub within_seven-requires : goal.within_seven-requires
unfolding of_bits of_int neg
within_seven-requires c = two_tests c.args.x ∙ rw (c.if-x.true, c.if-x-2.true)

pub returns-else-x-2 : goal.returns-else-x-2
unfolding sin_of cos_of of_bits of_int neg
returns-else-x-2 c = (rw (two_tests c.args.x, c.if-x.true, c.if-x-2.false), rw (two_tests c.args.x, c.if-x.true, c.if-x-2.false))

pub returns-else-x : goal.returns-else-x
unfolding sin_of cos_of of_bits of_int neg
returns-else-x c = (rw (two_tests c.args.x, c.if-x.false), rw (two_tests c.args.x, c.if-x.false))
