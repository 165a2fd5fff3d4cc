-- `stored::tally::Tally::count_broken` meets its contract.
use Rattle.std.proofs.Common.{sym, arith}
use Rattle.stored.proofs.Places.{at_broken}
use Rattle.stored.proofs.tally.Tally.count_broken.Goals as goal

pub returns : goal.returns
returns c = rw c.saturating_add-self.ensures (sym (at_broken c.args.self.now (grind arith) 0 1))
