use native.Mathlib.Omega.{arith}
use borrow.Author.Rules.{rules}
use Rattle.fits.specs.List.{fits_in}
use Rattle.fits.proofs.Records.{fit_read}
use Rattle.classes.proofs.Turns.{turns_none, turns_next, turns_done}
use Rattle.classes.proofs.classify.label_fits.Goals as goal

pub loop-place-init : goal.loop-place-init
unfolding fits_in
loop-place-init c = turns_none _ _ _

pub loop-place-preserved : goal.loop-place-preserved
unfolding fits_in
loop-place-preserved c =
    let f = fit_read _ _ _ c.loop-place.place-index _ c.each-place-items.ensures.value (omega arith) c.fit_at.ensures in
    turns_next _ _ _ _ _ _ _ c.loop-place.invariant f c.label_fit.ensures

pub returns : goal.returns
unfolding fits_in
returns c = turns_done _ _ _ _ _ _ c.loop-place.invariant (search rules) (search rules)
