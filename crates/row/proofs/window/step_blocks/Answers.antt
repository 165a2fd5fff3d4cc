-- The step is at least 1.
use Rattle.std.proofs.Common.{arith}
use Rattle.row.proofs.Steps.{step_low}
use Rattle.row.proofs.window.step_blocks.Goals as goal

pub nonzero_div-result-2 : goal.nonzero_div-result-2
nonzero_div-result-2 c = omega (arith, step_low c.args.fs, c.edge_step.ensures)
