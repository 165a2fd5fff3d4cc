use mathlib.Core.Path.{refl}
use Rattle.measure.proofs.Offsets.{measured_is}
use Rattle.measure.proofs.offset.measured.Goals as goal

pub returns : goal.returns
returns c = (refl, measured_is _ _ _ _ _ _ _ c.paired_power.ensures c.args.classed.now.grid.window_is)
