-- `given::block_classes` meets its contract: the first no is the answer, and where there is none, the classes that the
-- work below labels.
use native.Mathlib.Omega.{arith}
use mathlib.Core.Path.{refl, sym}
use Rattle.given.specs.Blocks.{classes_rule}
use Rattle.questions.proofs.Calls.{hands_on, accepts}
use Rattle.given.proofs.BlocksAccepted.{classes_accepted, classes_made}
use Rattle.given.proofs.blocks.block_classes.Goals as goal

pub returns-in_err-accept_classes : goal.returns-in_err-accept_classes
unfolding classes_rule
returns-in_err-accept_classes c = hands_on _ _ _ _ _ _ c.from_residual.ensures c.in_err-accept_classes.ensures

pub sender-sender-requires : goal.sender-sender-requires
sender-sender-requires c =
    let known = classes_accepted _ _ _ _ _ _ _ _ _ (sym c.in_ok-accept_classes.ensures) in
    record { elements_room = known.element_room; fits_room = known.fit_room }

pub new-requires : goal.new-requires
new-requires c = (classes_accepted _ _ _ _ _ _ _ _ _ (sym c.in_ok-accept_classes.ensures)).rate_ok_lem

pub classify_blocks-requires-clause-n_bound : goal.classify_blocks-requires-clause-n_bound
classify_blocks-requires-clause-n_bound c = omega (arith, (classes_accepted _ _ _ _ _ _ _ _ _ (sym c.in_ok-accept_classes.ensures)).short)

pub slice_bounds-classify_blocks-end : goal.slice_bounds-classify_blocks-end
slice_bounds-classify_blocks-end c = omega (arith, (classes_accepted _ _ _ _ _ _ _ _ _ (sym c.in_ok-accept_classes.ensures)).room, c.window_blocks-blocks.ensures)

pub returns : goal.returns
unfolding classes_rule
returns c =
    let lent = c.sender-sender.ensures in
    let now = rw (c.new.ensures, lent.elements.0, lent.elements.1, lent.fits.0, lent.fits.1) at c.classify_blocks.ensures in
    accepts _ _ c.args.classes.now _ _ c.in_ok-accept_classes.ensures refl
    (classes_made c.args.iq_len c.args.fs c.args.given.now.elements.now c.args.given.now.element_count c.args.given.now.fits.now c.args.given.now.fit_count _ _ c.args.classes.now _ c.window_blocks-blocks.ensures now c.count_classes-counts.ensures c.classes-1.given.0)
