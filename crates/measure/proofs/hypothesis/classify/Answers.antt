use Rattle.constants.proofs.Bits.{one_signal_max_hot_bits, non_cw_min_hot_bits}
use Rattle.measure.specs.Hypothesis.{hypothesis_of}
use Rattle.measure.proofs.hypothesis.classify.Goals as goal

pub returns-then-e : goal.returns-then-e
unfolding hypothesis_of
returns-then-e c = rw (one_signal_max_hot_bits, c.if-e.true)

pub returns-then-e-2 : goal.returns-then-e-2
unfolding hypothesis_of
returns-then-e-2 c = rw (one_signal_max_hot_bits, non_cw_min_hot_bits, c.if-e.false, c.if-e-2.true)

pub returns : goal.returns
unfolding hypothesis_of
returns c = rw (one_signal_max_hot_bits, non_cw_min_hot_bits, c.if-e.false, c.if-e-2.false, c.between.ensures)
