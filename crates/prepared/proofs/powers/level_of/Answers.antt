use Rattle.prepared.proofs.Gathered.{level_is}
use Rattle.prepared.proofs.powers.level_of.Goals as goal

pub returns : goal.returns
returns c = level_is _ _ _ _ _ _ _ _ c.gather-count.ensures.kept.0 c.gather-count.ensures.kept.1 c.requires.room c.percentile.ensures
