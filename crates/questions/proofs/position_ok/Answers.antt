-- `questions::position_ok` meets its contract.
use mathlib.Core.Path.{sym, ◌∙◌}
use mathlib.Core.Bool.{true≢false}
use lib.Ieee.{of_bits}
use Rattle.questions.specs.Questions.{position_ok}
use Rattle.questions.proofs.position_ok.Goals as goal
use Rattle.questions.proofs.position_ok.Goals.{then-x, else-x}

pub returns-then-x-2 : goal.returns-then-x-2
unfolding position_ok of_bits
returns-then-x-2 c =
    elim c.if-x.branch [
      | then-x w ↦ rw (c.floor.ensures, w.if-x.true, sym w.value-is ∙ c.if-x-2.true)
      | else-x w ↦ absurd (true≢false (sym c.if-x-2.true ∙ w.value-is ∙ w.if-x.false))
    ]

pub returns-else-x-2 : goal.returns-else-x-2
unfolding position_ok of_bits
returns-else-x-2 c =
    elim c.if-x.branch [
      | then-x w ↦ rw (w.if-x.true, sym w.value-is ∙ c.if-x-2.false) c.if-x-2.false
      | else-x w ↦ rw w.if-x.false c.if-x-2.false
    ]
