use borrow.Author.Tests.{lt-ltb, le-ltb}
use Rattle.gaps.specs.Pairs.{followed}
use Rattle.gaps.proofs.pairs.AtLevel.followed.Goals as goal

pub returns-then-b-self : goal.returns-then-b-self
unfolding followed
returns-then-b-self c = rw (lt-ltb _ _ c.if-b-self.true) c.above.ensures

pub returns-else-b-self : goal.returns-else-b-self
unfolding followed
returns-else-b-self c = rw (le-ltb _ _ c.if-b-self.false)
