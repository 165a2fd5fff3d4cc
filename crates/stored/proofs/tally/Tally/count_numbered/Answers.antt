-- `stored::tally::Tally::count_numbered` meets its contract.
use Rattle.std.proofs.Common.{arith}
use Rattle.stored.proofs.Places.{counted}
use Rattle.stored.proofs.tally.Tally.count_numbered.Goals as goal

pub returns : goal.returns
returns c =
    rw (c.add.ensures.row_is, c.add.ensures.broken_is, ← c.unwrap_or-number.ensures, c.from-more.ensures) (counted c.args.self.now (grind arith) c.args.call c.args.a.equal c.args.meant c.unwrap_or-number.result c.count_in_group.new.self c.count_in_group.ensures)
