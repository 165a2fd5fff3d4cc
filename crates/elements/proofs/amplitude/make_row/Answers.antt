-- Where the recording has a window of samples, `Entered` says how many blocks there are.
use Rattle.std.proofs.Common.{rules, arith}
use Rattle.elements.proofs.Amplitudes.{Entered, entered, row_empty, row_read}
use Rattle.elements.proofs.amplitude.make_row.Goals.{After-step-step}
use Rattle.elements.proofs.amplitude.make_row.Goals as goal

passed : (c : After-step-step) → Entered c.args.recording.now.samples.iq.now c.args.recording.now.rate.hz c.count-n.result c.step-step.result
passed c = entered _ _ _ _ c.count-n.ensures c.step-step.ensures (omega arith)

pub returns-then-n-window : goal.returns-then-n-window
returns-then-n-window c = row_empty _ _ _ (omega arith)

pub nonzero_div-b : goal.nonzero_div-b
nonzero_div-b c = (passed (goal.at.nonzero_div-b c).After-step-step).least

pub overflow_sub-to : goal.overflow_sub-to
overflow_sub-to c = let p = passed (goal.at.overflow_sub-to c).After-step-step in search rules

pub amplitudes-requires-clause-step_nonzero : goal.amplitudes-requires-clause-step_nonzero
amplitudes-requires-clause-step_nonzero c = (passed (goal.at.amplitudes-requires-clause-step_nonzero c).After-step-step).least

pub amplitudes-requires-clause-bound : goal.amplitudes-requires-clause-bound
amplitudes-requires-clause-bound c =
    let p = passed (goal.at.amplitudes-requires-clause-bound c).After-step-step in
    rw c.count-n.ensures at p.eight

pub returns : goal.returns
returns c =
    let p = passed (goal.at.returns c).After-step-step in
    let same = rw c.count-n.ensures at p.same in
    rw c.count-n.ensures (row_read _ _ _ _ _ _ c.step-step.ensures c.amplitudes.ensures (omega arith))
