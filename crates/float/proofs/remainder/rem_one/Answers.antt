-- `float::remainder::rem_one` meets its contract.
use lib.Ieee.{of_bits}
use Rattle.float.proofs.Compared.{yes, no}
use Rattle.float.proofs.Remainders.{Above, Below, above_is, below_is}
use Rattle.float.proofs.remainder.rem_one.Lts as lts
use Rattle.float.proofs.remainder.rem_one.Reads as reads
use Rattle.float.proofs.remainder.rem_one.Tie as tie
use Rattle.float.proofs.remainder.rem_one.Goals as goal

under : (c : lts.Then2 tie.the-claims reads.Pre reads.Post) → Below c.args.a
unfolding of_bits
under c = below_is c.args.a (yes c.well_formed.0.1) (yes c.if-a.true) (yes c.if-m.true)

over : (c : lts.Then4 tie.the-claims reads.Pre reads.Post) → Above c.args.a
unfolding of_bits
over c = above_is c.args.a (yes c.well_formed.0.1) (no c.if-a.false) (yes c.if-a-2.true)

pub returns-then-over : goal.returns-then-over
unfolding of_bits
returns-then-over c = (under c.before).more (yes c.if-over.true)

pub returns-else-over : goal.returns-else-over
unfolding of_bits
returns-else-over c = (under c.before).same (no c.if-over.false)

pub returns-then-over-2 : goal.returns-then-over-2
unfolding of_bits
returns-then-over-2 c = (over c.before).more (yes c.if-over-2.true)

pub returns-else-over-2 : goal.returns-else-over-2
unfolding of_bits
returns-else-over-2 c = (over c.before).same (no c.if-over-2.false)
