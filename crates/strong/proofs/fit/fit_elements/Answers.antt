-- `strong::fit_elements` meets its contract: the first no is the answer, and where there is none, what the work
-- below fits.
use native.Mathlib.Omega.{arith}
use mathlib.Core.Path.{refl, sym}
use Rattle.strong.specs.Fit.{fit_rule}
use Rattle.questions.proofs.Calls.{hands_on, accepts}
use Rattle.strong.proofs.FitAccepted.{fit_accepted, fit_result}
use Rattle.strong.proofs.fit.fit_elements.Goals as goal

pub new-recording-requires : goal.new-recording-requires
new-recording-requires c =
    let known = fit_accepted _ _ _ _ _ _ _ (sym c.in_ok-accept_fit.ensures) in
    record { iq = known.iq_ok; rate = known.rate_ok_lem }

pub invariant_of-given : goal.invariant_of-given
invariant_of-given c = record { room = (fit_accepted _ _ _ _ _ _ _ (sym c.in_ok-accept_fit.ensures)).given }

pub fit_elements-fitted-requires-clause-all_timed : goal.fit_elements-fitted-requires-clause-all_timed
fit_elements-fitted-requires-clause-all_timed c =
    (fit_accepted _ _ _ _ _ _ _ (sym c.in_ok-accept_fit.ensures)).timed

pub fit_elements-fitted-requires-clause-fits_room : goal.fit_elements-fitted-requires-clause-fits_room
fit_elements-fitted-requires-clause-fits_room c =
    (fit_accepted _ _ _ _ _ _ _ (sym c.in_ok-accept_fit.ensures)).fit_room

pub fit_elements-fitted-requires-clause-work_room : goal.fit_elements-fitted-requires-clause-work_room
fit_elements-fitted-requires-clause-work_room c =
    let is = c.new-recording.ensures in
    rw (is.0, is.1) (fit_accepted _ _ _ _ _ _ _ (sym c.in_ok-accept_fit.ensures)).room

pub returns-in_err-accept_fit : goal.returns-in_err-accept_fit
unfolding fit_rule
returns-in_err-accept_fit c = hands_on _ _ _ _ _ _ c.from_residual.ensures c.in_err-accept_fit.ensures

pub returns : goal.returns
unfolding fit_rule
returns c =
    let is = c.new-recording.ensures in
    let now = rw (is.0, is.1) at c.fit_elements-fitted.ensures in
    accepts _ _ _ _ _ c.in_ok-accept_fit.ensures refl (fit_result _ _ _ _ _ _ now.0 now.1 (omega arith))
