use Rattle.measure.specs.Evidence.{coherence_of}
use Rattle.measure.proofs.evidence.coherence.Goals as goal

pub returns-then-p : goal.returns-then-p
unfolding coherence_of
returns-then-p c = rw (c.if-p.true, c.norm.ensures)

pub returns : goal.returns
unfolding coherence_of
returns c = rw c.if-p.false
