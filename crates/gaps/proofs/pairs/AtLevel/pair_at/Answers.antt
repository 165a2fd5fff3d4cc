use Rattle.gaps.specs.Pairs.{pair_at}
use Rattle.gaps.proofs.pairs.AtLevel.pair_at.Goals as goal

pub returns-then-preceded : goal.returns-then-preceded
unfolding pair_at
returns-then-preceded c = rw (← c.preceded.ensures, c.if-preceded.true) c.above.ensures

pub returns-else-preceded : goal.returns-else-preceded
unfolding pair_at
returns-else-preceded c = rw (← c.preceded.ensures, c.if-preceded.false)
