-- `figures::optional::present` meets its contract.
use Rattle.std.proofs.Common.{◌∙◌}
use Rattle.figures.proofs.Absent.{present_is}
use Rattle.figures.proofs.optional.present.Goals as goal

pub returns : goal.returns
returns c = c.flag.ensures ∙ (rw c.is_some.ensures (present_is c.args.x))
