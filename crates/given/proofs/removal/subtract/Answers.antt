-- `given::subtract` meets its contract: the first no is the answer, and where there is none, what the work below
-- leaves.
use mathlib.Core.Path.{refl, sym}
use Rattle.given.specs.Removal.{subtract_rule}
use Rattle.questions.proofs.Calls.{hands_on, accepts}
use Rattle.given.proofs.SubtractAccepted.{subtract_accepted}
use Rattle.given.proofs.removal.subtract.Goals as goal

pub sender-requires : goal.sender-requires
sender-requires c =
    let known = subtract_accepted _ _ _ _ _ _ _ _ (sym c.in_ok-accept_subtract.ensures) in
    record { elements_room = known.given.element_room; fits_room = known.given.fit_room }

pub subtract-requires : goal.subtract-requires
subtract-requires c = (subtract_accepted _ _ _ _ _ _ _ _ (sym c.in_ok-accept_subtract.ensures)).short

pub returns-in_err-accept_subtract : goal.returns-in_err-accept_subtract
unfolding subtract_rule
returns-in_err-accept_subtract c = hands_on _ _ _ _ _ _ c.from_residual.ensures c.in_err-accept_subtract.ensures

pub returns : goal.returns
unfolding subtract_rule
returns c =
    let lent = c.sender.ensures in
    let left = rw (lent.fits.0, lent.fits.1) at c.subtract.ensures in
    accepts _ _ _ _ _ c.in_ok-accept_subtract.ensures refl left
