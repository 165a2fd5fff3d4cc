use Rattle.measure.proofs.offset.stronger.Goals as goal

pub returns-then-next-best : goal.returns-then-next-best
returns-then-next-best c = rw c.if-next-best.true

pub returns-else-next-best : goal.returns-else-next-best
returns-else-next-best c = rw c.if-next-best.false
