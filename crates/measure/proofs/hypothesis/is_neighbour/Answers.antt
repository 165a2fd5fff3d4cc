use mathlib.Core.Path.{sym, ◌∙◌}
use mathlib.Core.Bool.{false≢true}
use Rattle.constants.proofs.Bits.{min_coherence_bits, min_offset_bits, max_offset_bits}
use Rattle.measure.specs.Hypothesis.{is_neighbour}
use Rattle.measure.proofs.hypothesis.is_neighbour.Goals.{then-coherence, else-coherence}
use Rattle.measure.proofs.hypothesis.is_neighbour.Goals as goal

pub returns-then-size : goal.returns-then-size
unfolding is_neighbour
returns-then-size c =
    elim c.if-coherence.branch [
      | then-coherence w ↦
          let above = sym w.value-is ∙ c.if-size.true in
          rw (min_coherence_bits, min_offset_bits, max_offset_bits, ← c.abs-size.ensures, w.if-coherence.true, above)
      | else-coherence w ↦ absurd (false≢true (sym (w.value-is ∙ w.if-coherence.false) ∙ c.if-size.true))
    ]

pub returns-else-size : goal.returns-else-size
unfolding is_neighbour
returns-else-size c =
    elim c.if-coherence.branch [
      | then-coherence w ↦
          let under = sym w.value-is ∙ c.if-size.false in
          rw (min_coherence_bits, min_offset_bits, max_offset_bits, ← c.abs-size.ensures, w.if-coherence.true, under) c.if-size.false
      | else-coherence w ↦ rw (min_coherence_bits, w.if-coherence.false) (w.value-is ∙ w.if-coherence.false)
    ]
