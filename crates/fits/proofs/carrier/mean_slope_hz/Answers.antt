use borrow.Author.Rules.{rules}
use Rattle.fits.proofs.Carriers.{mean_some, mean_none}
use Rattle.fits.proofs.carrier.mean_slope_hz.Goals as goal

pub returns-then-s : goal.returns-then-s
returns-then-s c = search (rules, mean_some)

pub returns-else-s : goal.returns-else-s
returns-else-s c = search (rules, mean_none)
