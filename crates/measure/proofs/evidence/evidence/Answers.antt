use Rattle.measure.specs.Evidence.{evidence_by}
use Rattle.measure.proofs.evidence.evidence.Goals as goal

pub returns : goal.returns
unfolding evidence_by
returns c = rw c.find_reference-reference.ensures at c.evidence_with.ensures
