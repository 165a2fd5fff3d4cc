-- The invariant: the fits of the elements behind the loop are stored, and counted; they are no more than these.
use native.Mathlib.Omega.{arith}
use Rattle.elements.proofs.Records.{element_read}
use Rattle.fits.proofs.Listing.{fits_none, fits_turn, fits_few, fits_done}
use Rattle.fits.proofs.list.fit_elements.Goals as goal

pub loop-place-init : goal.loop-place-init
loop-place-init c =
    let none = fits_none _ _ _ _ _ in
    record { few = omega arith; counted = none.0; stored = none.1 }

pub fit_one-fit-requires-clause-timed : goal.fit_one-fit-requires-clause-timed
fit_one-fit-requires-clause-timed c =
    let e = element_read _ _ _ c.loop-place.place-index _ c.each-place-items.ensures.value (omega arith) c.element_at.ensures in
    rw e (c.requires.all_timed.each c.loop-place.place-index (omega arith))

pub loop-place-preserved : goal.loop-place-preserved
loop-place-preserved c =
    let inv = c.loop-place.invariant in
    let one = c.keep-fitted.ensures in
    let e = element_read _ _ _ c.loop-place.place-index _ c.each-place-items.ensures.value (omega arith) c.element_at.ensures in
    let more = fits_turn _ _ _ _ _ _ _ _ _ _ _ _ inv.counted inv.stored e c.fit_one-fit.ensures one.0 one.1 in
    record { few = fits_few _ _ _ c.fit_one-fit.result inv.few one.0; counted = more.0; stored = more.1 }

pub returns : goal.returns
returns c =
    let inv = c.loop-place.invariant in
    fits_done _ _ _ _ _ _ _ _ _ c.requires.fits_room inv.counted inv.stored (omega arith) (omega arith)
