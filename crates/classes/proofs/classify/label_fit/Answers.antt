use Rattle.classes.proofs.Labelled.{labelled_twice}
use Rattle.classes.proofs.classify.label_fit.Goals as goal

pub returns : goal.returns
returns c =
    rw (c.label_edge-2.ensures, c.label_edge.ensures, c.label_interior.ensures) (labelled_twice _ _ _ _)
