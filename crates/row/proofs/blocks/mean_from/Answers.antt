use Rattle.std.proofs.Common.{arith, ◌∙◌}
use Rattle.row.proofs.Unturned.{mean_still}
use Rattle.row.proofs.blocks.mean_from.Goals as goal

pub returns-then-cyc : goal.returns-then-cyc
returns-then-cyc c =
    let a = c.args in
    let s = a.samples.now in
    c.mean_times.ensures
    ∙ rw c.still_turn.ensures (mean_still s.iq.now a.cyc a.a a.len c.if-cyc.true (omega (arith, s.accepted.short)))
