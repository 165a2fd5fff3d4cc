use Rattle.gaps.specs.Pairs.{above}
use Rattle.gaps.proofs.pairs.AtLevel.above.Goals as goal

pub returns-then-is_class : goal.returns-then-is_class
unfolding above
returns-then-is_class c = rw (c.norm_sqr.ensures, c.get.ensures, ← c.is_class.ensures, c.if-is_class.true)

pub returns-else-is_class : goal.returns-else-is_class
unfolding above
returns-else-is_class c = rw (← c.is_class.ensures, c.if-is_class.false)
