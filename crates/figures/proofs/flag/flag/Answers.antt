-- `figures::flag::flag` meets its contract.
use Rattle.std.proofs.Common.{◌∙◌}
use Rattle.figures.proofs.Absent.{flag_is}
use Rattle.figures.proofs.flag.flag.Goals as goal

pub returns : goal.returns
returns c = c.from.ensures ∙ flag_is c.args.yes
