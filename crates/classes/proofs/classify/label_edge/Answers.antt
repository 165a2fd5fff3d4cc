use Rattle.classes.proofs.Zones.{edge_is}
use Rattle.classes.proofs.classify.label_edge.Goals as goal

pub returns : goal.returns
returns c = edge_is _ _ c.args.w.is_window _ _ _ _ c.label_range.ensures
