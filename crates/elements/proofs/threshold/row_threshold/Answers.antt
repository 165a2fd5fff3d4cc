use Rattle.constants.proofs.Bits.{edge_percentile_bits}
use Rattle.elements.proofs.threshold.row_threshold.Goals as goal

pub returns-in_err-percentile : goal.returns-in_err-percentile
returns-in_err-percentile c = rw (c.from_residual.ensures, edge_percentile_bits, ← c.percentile.ensures, c.in_err-percentile.was)

pub returns : goal.returns
returns c = rw (edge_percentile_bits, ← c.percentile.ensures, c.in_ok-percentile.was) c.half_of.ensures
