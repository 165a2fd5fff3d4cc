use Rattle.gaps.specs.Pairs.{in_pair}
use Rattle.gaps.proofs.pairs.AtLevel.in_pair.Goals as goal

pub returns-then-preceded : goal.returns-then-preceded
unfolding in_pair
returns-then-preceded c = rw (← c.above.ensures, c.if-above.true, ← c.preceded.ensures, c.if-preceded.true)

pub returns-else-preceded : goal.returns-else-preceded
unfolding in_pair
returns-else-preceded c = rw (← c.above.ensures, c.if-above.true, ← c.preceded.ensures, c.if-preceded.false) c.followed.ensures

pub returns-else-above : goal.returns-else-above
unfolding in_pair
returns-else-above c = rw (← c.above.ensures, c.if-above.false)
