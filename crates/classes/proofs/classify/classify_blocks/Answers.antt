use Rattle.classes.proofs.Classes.{class_by_steps}
use Rattle.classes.proofs.Labelled.{labelled_all}
use Rattle.classes.proofs.classify.classify_blocks.Goals as goal

pub returns : goal.returns
returns c =
    let filled = c.fill.ensures.after (λ y h. h) in
    let gap = rw c.from.ensures at (labelled_all _ _ _ filled c.fill.ensures.len) in
    rw (← c.new-w.ensures)
    (class_by_steps _ _ _ _ _ _ _ _ _ _ _ (rw c.new-w.ensures c.requires.class_len) gap c.label_fitted.ensures c.label_elements.ensures c.label_fits.ensures c.label_rim.ensures)
