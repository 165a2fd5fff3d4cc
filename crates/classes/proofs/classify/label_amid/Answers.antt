use mathlib.Core.Bool.{◌&&◌}
use lib.Ieee.{lt}
use Rattle.classes.specs.Inner.{amid}
use borrow.Author.Rules.{rules}
use Rattle.classes.proofs.Labelled.{range_put, range_none}
use Rattle.classes.proofs.Zones.{amid_from}
use Rattle.classes.proofs.classify.label_amid.Goals as goal

pub returns-then-a-e : goal.returns-then-a-e
unfolding amid
returns-then-a-e c =
    let marked = c.label_where.ensures (λ k. lt c.args.lo k && lt k c.args.hi) (λ k t h. search rules) in
    range_put _ _ _ _ _ _ _ c.first_from-a.ensures (rw c.past_last.ensures at c.min-e.ensures) _ _ _ c.if-a-e.true marked (λ b h. amid_from _ _ _ _ b)

pub returns-else-a-e : goal.returns-else-a-e
unfolding amid
returns-else-a-e c = range_none _ _ _ _ _ _ _ c.first_from-a.ensures (rw c.past_last.ensures at c.min-e.ensures) _ c.if-a-e.false
