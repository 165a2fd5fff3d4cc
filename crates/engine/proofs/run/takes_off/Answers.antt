use mathlib.Core.Path.{◌≡◌, sym, ◌∙◌}
use mathlib.Core.Logic.{⊎_elim}
use mathlib.Core.Bool.{true, false, false≢true}
use borrow.Author.Tests.{le-leb, lt-leb}
use lib.Dec.{leb}
use Rattle.constants.proofs.Bits.{max_carrier_step_bits}
use Rattle.engine.specs.Run.{takes}
use Rattle.engine.proofs.run.takes_off.Goals.{then-is_two, else-is_two, then-fitted-ge-MIN_ELEMENTS, else-fitted-ge-MIN_ELEMENTS}
use Rattle.engine.proofs.run.takes_off.Goals as goal

pub returns-then-size : goal.returns-then-size
unfolding takes
returns-then-size c =
    elim c.if-fitted-ge-MIN_ELEMENTS.branch [
      | then-fitted-ge-MIN_ELEMENTS w ↦
          let both = w.if-fitted-ge-MIN_ELEMENTS.true in
          let small = sym w.value-is ∙ c.if-size.true in
          rw (max_carrier_step_bits, ← c.is_two.ensures, both.0, le-leb _ _ both.1, ← c.abs-size.ensures, small) c.clean.ensures
      | else-fitted-ge-MIN_ELEMENTS w ↦
          elim c.if-is_two.branch [
            | then-is_two v ↦
                let many : leb 20 c.args.fitted ≡ true = cc in
                ⊎_elim (λ p. absurd (false≢true (sym (lt-leb _ _ p.1) ∙ many))) (λ q. absurd (false≢true (sym q ∙ v.if-is_two.true))) w.if-fitted-ge-MIN_ELEMENTS.either
            | else-is_two v ↦
                let two : c.is_two.result ≡ true = cc in
                absurd (false≢true (sym v.if-is_two.false ∙ two))
          ]
    ]

pub returns-else-size : goal.returns-else-size
unfolding takes
returns-else-size c =
    elim c.if-fitted-ge-MIN_ELEMENTS.branch [
      | then-fitted-ge-MIN_ELEMENTS w ↦
          let both = w.if-fitted-ge-MIN_ELEMENTS.true in
          let large = sym w.value-is ∙ c.if-size.false in
          rw (max_carrier_step_bits, ← c.is_two.ensures, both.0, le-leb _ _ both.1, ← c.abs-size.ensures, large) c.if-size.false
      | else-fitted-ge-MIN_ELEMENTS w ↦
          ⊎_elim (λ p. rw (← c.is_two.ensures, p.0, lt-leb _ _ p.1) c.if-size.false) (λ (q : c.is_two.result ≡ false). rw (← c.is_two.ensures, q) c.if-size.false) w.if-fitted-ge-MIN_ELEMENTS.either
    ]
