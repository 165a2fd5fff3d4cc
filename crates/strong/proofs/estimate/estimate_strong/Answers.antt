-- `strong::estimate_strong` meets its contract: the first no is the answer, and where there is none, what the work
-- below estimates.
use native.Mathlib.Omega.{arith}
use mathlib.Core.Path.{refl, sym}
use Rattle.strong.specs.Estimate.{estimate_rule}
use Rattle.questions.proofs.Calls.{hands_on, accepts}
use Rattle.strong.proofs.EstimateAccepted.{estimate_accepted, estimate_result}
use Rattle.strong.proofs.estimate.estimate_strong.Goals as goal

pub new-recording-requires : goal.new-recording-requires
new-recording-requires c =
    let known = estimate_accepted _ _ _ _ _ _ (sym c.in_ok-accept_estimate.ensures) in
    record { iq = known.iq_ok; rate = known.rate_ok_lem }

pub estimate_strong-estimate-requires-clause-elements_room : goal.estimate_strong-estimate-requires-clause-elements_room
estimate_strong-estimate-requires-clause-elements_room c =
    let is = c.new-recording.ensures in
    rw (is.0, is.1) (estimate_accepted _ _ _ _ _ _ (sym c.in_ok-accept_estimate.ensures)).places

pub estimate_strong-estimate-requires-clause-fits_room : goal.estimate_strong-estimate-requires-clause-fits_room
estimate_strong-estimate-requires-clause-fits_room c =
    let is = c.new-recording.ensures in
    rw (is.0, is.1) (estimate_accepted _ _ _ _ _ _ (sym c.in_ok-accept_estimate.ensures)).fit_room

pub estimate_strong-estimate-requires-clause-work_room : goal.estimate_strong-estimate-requires-clause-work_room
estimate_strong-estimate-requires-clause-work_room c =
    let is = c.new-recording.ensures in
    rw (is.0, is.1) (estimate_accepted _ _ _ _ _ _ (sym c.in_ok-accept_estimate.ensures)).room

pub returns-in_err-accept_estimate-clause-work_after : goal.returns-in_err-accept_estimate-clause-work_after
unfolding estimate_rule
returns-in_err-accept_estimate-clause-work_after c = hands_on _ _ _ _ _ _ c.from_residual.ensures c.in_err-accept_estimate.ensures

pub returns-clause-work_after : goal.returns-clause-work_after
unfolding estimate_rule
returns-clause-work_after c =
    let is = c.new-recording.ensures in
    let now = rw (is.0, is.1) at c.estimate_strong-estimate.ensures in
    accepts _ _ _ _ _ c.in_ok-accept_estimate.ensures refl (estimate_result _ _ _ _ _ _ _ _ now.0 now.1 now.2 (omega arith))
