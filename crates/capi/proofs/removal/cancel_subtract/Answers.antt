-- `capi::removal::cancel_subtract` meets its contract.
use Rattle.questions.specs.Answers.{by_number}
use Rattle.given.specs.Removal.{subtract_rule}
use Rattle.capi.proofs.Ways.{refused_way}
use Rattle.capi.proofs.removal.cancel_subtract.Goals as goal

pub returns-in-Ok : goal.returns-in-Ok
unfolding by_number
returns-in-Ok c = c.in-Ok.ensures

pub returns-in-Err : goal.returns-in-Err
unfolding subtract_rule
returns-in-Err c = rw c.from.ensures (refused_way _ _ _ _ _ _ c.in-Err.ensures)
