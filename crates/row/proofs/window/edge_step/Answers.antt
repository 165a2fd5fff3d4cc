use Rattle.row.specs.Window.{step_of}
use Rattle.constants.proofs.Bits.{edge_window_bits}
use Rattle.row.proofs.window.edge_step.Goals as goal

pub returns : goal.returns
unfolding step_of
returns c = rw (c.to_whole.ensures, c.max.ensures, c.round.ensures, edge_window_bits)
