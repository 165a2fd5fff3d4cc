use Rattle.std.proofs.Common.{rules, ◌*◌, ◌∙◌}
use Rattle.row.specs.Blocks.{block_mean}
use Rattle.row.specs.Inner.{mean_times, still_turn}
use Rattle.row.proofs.Unturned.{means_still}
use Rattle.row.proofs.blocks.block_means.Goals as goal

pub returns-then-cyc : goal.returns-then-cyc
returns-then-cyc c =
    let a = c.args in
    let s = a.samples.now in (
      rw c.count.ensures,
      c.means.ensures (λ b. mean_times s.iq.now still_turn (b * a.len) a.len) (λ b r h p. search rules)
          ∙ rw c.count.ensures (means_still s.iq.now a.out.now a.cyc a.len c.if-cyc.true s.accepted),
    )

pub returns-else-cyc : goal.returns-else-cyc
unfolding block_mean
returns-else-cyc c =
    let a = c.args in
    (rw c.count.ensures, rw (← c.count.ensures) (c.means-else-cyc.ensures (block_mean a.samples.now.iq.now a.cyc a.len) (λ b r h p. search rules)))
