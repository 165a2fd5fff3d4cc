-- `strong::find_elements` meets its contract: the first no is the answer, and where there is none, what the work
-- below finds.
use native.Mathlib.Omega.{arith}
use mathlib.Core.Path.{refl, sym}
use Rattle.strong.specs.Find.{find_rule}
use Rattle.questions.proofs.Calls.{hands_on, accepts}
use Rattle.strong.proofs.FindAccepted.{find_accepted, find_result}
use Rattle.strong.proofs.find.find_elements.Goals as goal

pub new-recording-requires : goal.new-recording-requires
new-recording-requires c =
    let known = find_accepted _ _ _ _ _ (sym c.in_ok-accept_find.ensures) in
    record { iq = known.iq_ok; rate = known.rate_ok_lem }

pub find_elements-found-requires-clause-elements_in_bounds : goal.find_elements-found-requires-clause-elements_in_bounds
find_elements-found-requires-clause-elements_in_bounds c =
    let is = c.new-recording.ensures in
    rw (is.0, is.1) (find_accepted _ _ _ _ _ (sym c.in_ok-accept_find.ensures)).places

pub find_elements-found-requires-clause-work_in_bounds : goal.find_elements-found-requires-clause-work_in_bounds
find_elements-found-requires-clause-work_in_bounds c =
    let is = c.new-recording.ensures in
    rw (is.0, is.1) (find_accepted _ _ _ _ _ (sym c.in_ok-accept_find.ensures)).room

pub returns-in_err-accept_find-clause-work_after : goal.returns-in_err-accept_find-clause-work_after
unfolding find_rule
returns-in_err-accept_find-clause-work_after c = hands_on _ _ _ _ _ _ c.from_residual.ensures c.in_err-accept_find.ensures

pub returns-clause-work_after : goal.returns-clause-work_after
unfolding find_rule
returns-clause-work_after c =
    let is = c.new-recording.ensures in
    let now = rw (is.0, is.1) at c.find_elements-found.ensures in
    accepts _ _ _ _ _ c.in_ok-accept_find.ensures refl (find_result _ _ _ _ _ _ now.0 now.1 (omega arith))
