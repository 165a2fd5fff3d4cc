use Rattle.measure.specs.Hypothesis.{hypothesis_between}
use Rattle.measure.proofs.hypothesis.between.Goals as goal

pub returns-in-Some : goal.returns-in-Some
unfolding hypothesis_between
returns-in-Some c = rw (c.in-Some.is, ← c.is_neighbour.ensures, c.if-is_neighbour.true)

pub returns-in_default : goal.returns-in_default
unfolding hypothesis_between
returns-in_default c = rw (c.in-Some.is, ← c.is_neighbour.ensures, c.if-is_neighbour.false)

pub returns-in_default-2 : goal.returns-in_default-2
unfolding hypothesis_between
returns-in_default-2 c = rw c.in_default.is
