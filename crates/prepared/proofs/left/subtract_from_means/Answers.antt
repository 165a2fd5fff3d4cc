use borrow.Author.Rules.{rules}
use native.Mathlib.Omega.{arith}
use Rattle.fits.proofs.Records.{fit_read}
use lib.ListN.{length-take}
use lib.Ieee.{Float}
use mathlib.Core.Path.{◌∙◌}
use Rattle.prepared.proofs.Parts.{z_at_front, z_at_taken}
use Rattle.prepared.proofs.Less.{fits_none, fits_turn, fits_done}
use Rattle.prepared.proofs.left.subtract_from_means.Goals as goal

pub loop-place-init : goal.loop-place-init
loop-place-init c = λ b h. fits_none _ _ _ _ _ _

pub loop-place-preserved : goal.loop-place-preserved
loop-place-preserved c =
    let f = fit_read _ _ _ c.loop-place.place-index _ c.each-place-items.ensures.value (omega arith) c.fit_at.ensures in
    λ b h. fits_turn _ _ _ _ _ _ _ _ _ _ (c.loop-place.invariant b h) f (c.subtract_fit.ensures b h)

pub returns-clause-less : goal.returns-clause-less
returns-clause-less c = λ b h.
    let first = z_at_taken _ _ _ b c.copy.ensures (omega arith) in
    let done = fits_done _ _ _ _ _ _ c.args.fits.now.count _ _ (c.loop-place.invariant b h) (search rules) (search rules) in
    z_at_front _ _ b (omega (arith, length-take {A = Float})) ∙ rw first at done
