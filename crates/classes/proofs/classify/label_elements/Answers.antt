use native.Mathlib.Omega.{arith}
use borrow.Author.Rules.{rules}
use Rattle.elements.specs.Element.{elements_in}
use Rattle.elements.proofs.Records.{element_read}
use Rattle.classes.proofs.Turns.{turns_none, turns_next, turns_done}
use Rattle.classes.proofs.classify.label_elements.Goals as goal

pub loop-place-init : goal.loop-place-init
unfolding elements_in
loop-place-init c = turns_none _ _ _

pub loop-place-preserved : goal.loop-place-preserved
unfolding elements_in
loop-place-preserved c =
    let e = element_read _ _ _ c.loop-place.place-index _ c.each-place-items.ensures.value (omega arith) c.element_at.ensures in
    turns_next _ _ _ _ _ _ _ c.loop-place.invariant e c.label_element.ensures

pub returns : goal.returns
unfolding elements_in
returns c = turns_done _ _ _ _ _ _ c.loop-place.invariant (search rules) (search rules)
