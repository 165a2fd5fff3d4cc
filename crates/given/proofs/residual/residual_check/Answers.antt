-- `given::residual_check` meets its contract: the first no is the answer, and where there is none, what the work
-- below measures.
use native.Mathlib.Omega.{arith}
use mathlib.Core.Path.{refl, sym}
use Rattle.given.specs.Residual.{residual_rule}
use Rattle.questions.proofs.Calls.{hands_on, accepts}
use Rattle.given.proofs.MeasuresAccepted.{measure_accepted, residual_result}
use Rattle.given.proofs.residual.residual_check.Goals as goal

pub new-recording-requires : goal.new-recording-requires
new-recording-requires c =
    let known = measure_accepted _ _ _ _ _ _ _ _ _ (sym c.in_ok-accept_measure.ensures) in
    record { iq = known.iq_ok; rate = known.rate_ok_lem }

pub sender-requires : goal.sender-requires
sender-requires c =
    let known = measure_accepted _ _ _ _ _ _ _ _ _ (sym c.in_ok-accept_measure.ensures) in
    record { elements_room = known.given.element_room; fits_room = known.given.fit_room }

pub residual_check-check-requires : goal.residual_check-check-requires
residual_check-check-requires c =
    let is = c.new-recording.ensures in
    rw (is.0, is.1) (measure_accepted _ _ _ _ _ _ _ _ _ (sym c.in_ok-accept_measure.ensures)).room

pub returns-in_err-accept_measure-clause-work_after : goal.returns-in_err-accept_measure-clause-work_after
unfolding residual_rule
returns-in_err-accept_measure-clause-work_after c = hands_on _ _ _ _ _ _ c.from_residual.ensures c.in_err-accept_measure.ensures

pub returns-clause-work_after : goal.returns-clause-work_after
unfolding residual_rule
returns-clause-work_after c =
    let is = c.new-recording.ensures in
    let lent = c.sender.ensures in
    let now = rw (is.0, is.1, lent.carrier, lent.elements.0, lent.elements.1, lent.fits.0, lent.fits.1) at c.residual_check-check.ensures in
    accepts _ _ _ _ _ c.in_ok-accept_measure.ensures refl (residual_result _ _ _ _ now (omega arith))
