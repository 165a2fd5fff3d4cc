-- `stored::tally::Tally::count_run_numbered` meets its contract.
use Rattle.std.proofs.Common.{◌≡◌, cond, arith}
use Rattle.stored.proofs.Places.{ran}
use Rattle.stored.proofs.tally.Tally.count_run_numbered.Goals as goal

pub returns : goal.returns
returns c =
    let samples : c.if-taken.samples ≡ cond c.args.taken c.args.changed 0 = grind arith in
    rw (c.add.ensures.row_is, c.add.ensures.broken_is, c.saturating_add-self.ensures, c.saturating_add-self-2.ensures, c.from-accepted.ensures, c.from.ensures) (ran c.args.self.now (grind arith) c.args.number c.args.hypothesis c.args.taken c.args.changed c.if-taken.samples samples)
