-- The first elements have labelled.
use mathlib.Core.Path.{◌≡◌}
use Rattle.elements.specs.Element.{elements_in}
use Rattle.classes.specs.Classify.{in_turn}
use Rattle.classes.specs.Inner.{element_labelled}
use Rattle.classes.proofs.classify.label_elements.Given as goal

abbrev pub invariant-loop-place : goal.invariant-loop-place
invariant-loop-place l = l.class ≡ in_turn (element_labelled l.w.rate.hz) (elements_in l.elements.numbers.now l.place-index) l.initial.class
