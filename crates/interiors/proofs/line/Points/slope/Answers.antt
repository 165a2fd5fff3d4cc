use borrow.Author.Rules.{rules}
use Rattle.interiors.proofs.Laws.{slope_weightless, slope_level, slope_steep}
use Rattle.interiors.proofs.line.Points.slope.Goals as goal

pub returns-then-m : goal.returns-then-m
returns-then-m c = search (rules, slope_steep)

pub returns-else-m : goal.returns-else-m
returns-else-m c = search (rules, slope_level)

pub returns-else-s : goal.returns-else-s
returns-else-s c = search (rules, slope_weightless)
