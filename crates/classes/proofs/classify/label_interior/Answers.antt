use Rattle.classes.proofs.Zones.{inside_is, inside_none}
use Rattle.classes.proofs.classify.label_interior.Goals as goal

pub returns-then-e-r : goal.returns-then-e-r
returns-then-e-r c = inside_is _ _ c.args.w.is_window _ _ _ _ c.if-e-r.true c.label_amid.ensures

pub returns-else-e-r : goal.returns-else-e-r
returns-else-e-r c = inside_none _ _ _ _ c.if-e-r.false
