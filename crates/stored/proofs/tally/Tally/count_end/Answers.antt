-- `stored::tally::Tally::count_end` meets its contract.
use Rattle.std.proofs.Common.{sym, arith}
use Rattle.stored.proofs.Places.{at_ends}
use Rattle.stored.proofs.tally.Tally.count_end.Goals as goal

pub returns : goal.returns
returns c = rw c.saturating_add-self.ensures (sym (at_ends c.args.self.now (grind arith) 0 1))
