-- The lines of the elements behind the loop are put.
use Rattle.elements.specs.Element.{elements_in}
use Rattle.format.specs.Growing.{Grown}
use Rattle.lines.specs.Lines.{key_lines}
use Rattle.lines.proofs.key_lines.Given as goal

abbrev pub invariant-loop-place : goal.invariant-loop-place
invariant-loop-place l = Grown l.initial.out (key_lines (elements_in l.elements.numbers.now l.place-index)) l.out
