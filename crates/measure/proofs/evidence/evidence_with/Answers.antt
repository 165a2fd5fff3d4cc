use Rattle.measure.specs.Evidence.{evidence_with}
use Rattle.measure.proofs.evidence.evidence_with.Goals as goal

pub returns : goal.returns
unfolding evidence_with
returns c =
    rw (c.coherence.ensures, c.hot_fraction.ensures, c.find_offset.ensures, c.sum_pairs-pairs.ensures, c.count_gaps-gaps.ensures, c.args.classed.now.all)
