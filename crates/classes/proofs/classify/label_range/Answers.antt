use mathlib.Core.Path.{refl, ◌∙◌}
use mathlib.Core.Bool.{true, and-true}
use Rattle.classes.proofs.Labelled.{labelled_all, labelled_cong, range_put, range_none}
use Rattle.classes.proofs.classify.label_range.Goals as goal

pub returns-then-a-e : goal.returns-then-a-e
returns-then-a-e c =
    let filled = rw c.from.ensures at (c.fill.ensures.after (λ y h. h)) in
    range_put _ _ _ _ _ _ _ c.first_from-a.ensures (rw c.past_last.ensures at c.min-e.ensures) (λ b. true) (λ b. true) _ c.if-a-e.true (labelled_all _ _ _ filled c.fill.ensures.len) (λ b h. refl)
    ∙ labelled_cong _ _ _ _ (λ b h. and-true _)

pub returns-else-a-e : goal.returns-else-a-e
returns-else-a-e c =
    range_none _ _ _ _ _ _ _ c.first_from-a.ensures (rw c.past_last.ensures at c.min-e.ensures) (λ b. true) c.if-a-e.false ∙ labelled_cong _ _ _ _ (λ b h. and-true _)
