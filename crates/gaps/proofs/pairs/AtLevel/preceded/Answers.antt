use mathlib.Core.Path.{◌∙◌}
use borrow.Author.Tests.{le-ltb}
use Rattle.gaps.proofs.Paired.{preceded_none, preceded_some}
use Rattle.gaps.proofs.pairs.AtLevel.preceded.Goals as goal

pub returns-then-b-gt0 : goal.returns-then-b-gt0
returns-then-b-gt0 c = preceded_some _ _ _ c.if-b-gt0.true c.above.ensures

pub returns-else-b-gt0 : goal.returns-else-b-gt0
returns-else-b-gt0 c = le-ltb 0 c.args.b c.if-b-gt0.false ∙ preceded_none _ _ c.if-b-gt0.false
