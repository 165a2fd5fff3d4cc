-- `figures::optional::value` meets its contract.
use Rattle.std.proofs.Common.{◌∙◌}
use Rattle.figures.proofs.Absent.{value_is}
use Rattle.figures.proofs.optional.value.Goals as goal

pub returns : goal.returns
returns c = c.unwrap_or.ensures ∙ value_is c.args.x
