-- The window fits: the step of an accepted rate is at most 64.
use Rattle.std.proofs.Common.{arith}
use Rattle.row.proofs.Steps.{step_high}
use Rattle.row.proofs.recording.SampleRate.window.Goals as goal

pub overflow_mul-result : goal.overflow_mul-result
overflow_mul-result c = rw c.edge_step.ensures (omega (arith, step_high _ c.args.self.accepted))
