-- `strong::amplitude_row` meets its contract: the first no is the answer, and where there is none, what the work
-- below makes.
use native.Mathlib.Omega.{arith}
use mathlib.Core.Path.{refl, sym}
use Rattle.strong.specs.Amplitude.{row_rule}
use Rattle.questions.proofs.Calls.{hands_on, accepts}
use Rattle.strong.proofs.AmplitudeAccepted.{row_accepted, row_result}
use Rattle.strong.proofs.amplitude.amplitude_row.Goals as goal

pub new-recording-requires : goal.new-recording-requires
new-recording-requires c =
    let known = row_accepted _ _ _ _ _ (sym c.in_ok-accept_row.ensures) in
    record { iq = known.iq_ok; rate = known.rate_ok_lem }

pub amplitude_row-made-requires-clause-row_in_bounds : goal.amplitude_row-made-requires-clause-row_in_bounds
amplitude_row-made-requires-clause-row_in_bounds c =
    let is = c.new-recording.ensures in
    rw (is.0, is.1) (row_accepted _ _ _ _ _ (sym c.in_ok-accept_row.ensures)).places

pub amplitude_row-made-requires-clause-work_in_bounds : goal.amplitude_row-made-requires-clause-work_in_bounds
amplitude_row-made-requires-clause-work_in_bounds c =
    let is = c.new-recording.ensures in
    rw (is.0, is.1) (row_accepted _ _ _ _ _ (sym c.in_ok-accept_row.ensures)).room

pub returns-in_err-accept_row-clause-work_after : goal.returns-in_err-accept_row-clause-work_after
unfolding row_rule
returns-in_err-accept_row-clause-work_after c = hands_on _ _ _ _ _ _ c.from_residual.ensures c.in_err-accept_row.ensures

pub returns-clause-work_after : goal.returns-clause-work_after
unfolding row_rule
returns-clause-work_after c =
    let is = c.new-recording.ensures in
    let now = rw (is.0, is.1) at c.amplitude_row-made.ensures in
    accepts _ _ _ _ _ c.in_ok-accept_row.ensures refl (row_result _ _ _ _ _ _ now.0 now.1 (omega arith))
