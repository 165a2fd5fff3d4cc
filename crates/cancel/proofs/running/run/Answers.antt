-- `cancel::run` meets its contract: the first no is the answer, and where there is none, what the run below answers and
-- leaves.
use native.Mathlib.Omega.{arith}
use mathlib.Core.Path.{refl, sym}
use Rattle.cancel.specs.Running.{run_rule}
use Rattle.questions.proofs.Calls.{hands_on, accepts}
use Rattle.strong.proofs.EstimateAccepted.{estimate_accepted}
use Rattle.cancel.proofs.RunAccepted.{run_result}
use Rattle.cancel.proofs.running.run.Goals as goal

pub new-rate-requires : goal.new-rate-requires
new-rate-requires c = (estimate_accepted _ _ _ _ _ _ (sym c.in_ok-accept_estimate.ensures)).rate_ok_lem

pub run-figures-requires-clause-iq : goal.run-figures-requires-clause-iq
run-figures-requires-clause-iq c = (estimate_accepted _ _ _ _ _ _ (sym c.in_ok-accept_estimate.ensures)).iq_ok

pub run-figures-requires-clause-elements_room : goal.run-figures-requires-clause-elements_room
run-figures-requires-clause-elements_room c = rw c.new-rate.ensures (estimate_accepted _ _ _ _ _ _ (sym c.in_ok-accept_estimate.ensures)).places

pub run-figures-requires-clause-fits_room : goal.run-figures-requires-clause-fits_room
run-figures-requires-clause-fits_room c = rw c.new-rate.ensures (estimate_accepted _ _ _ _ _ _ (sym c.in_ok-accept_estimate.ensures)).fit_room

pub run-figures-requires-clause-work_room : goal.run-figures-requires-clause-work_room
run-figures-requires-clause-work_room c = rw c.new-rate.ensures (estimate_accepted _ _ _ _ _ _ (sym c.in_ok-accept_estimate.ensures)).room

pub returns-in_err-accept_estimate-clause-work_after : goal.returns-in_err-accept_estimate-clause-work_after
unfolding run_rule
returns-in_err-accept_estimate-clause-work_after c = hands_on _ _ _ _ _ _ c.from_residual.ensures c.in_err-accept_estimate.ensures

pub returns-clause-work_after : goal.returns-clause-work_after
unfolding run_rule
returns-clause-work_after c =
    let now = rw c.new-rate.ensures at c.run-figures.ensures in
    accepts _ _ _ _ _ c.in_ok-accept_estimate.ensures refl
    (run_result _ _ _ _ _ _ _ _ _ _ now.0 now.1 now.2 now.3 (omega arith))
