use Rattle.classes.proofs.Zones.{near_is}
use Rattle.classes.proofs.classify.label_element.Goals as goal

pub returns : goal.returns
returns c = near_is _ _ c.args.w.is_window _ _ _ _ c.label_range.ensures
