use Rattle.std.proofs.Common.{rules}
use Rattle.row.specs.Inner.{times, mean_times, mean_of}
use Rattle.row.proofs.blocks.mean_times.Goals as goal

pub returns : goal.returns
unfolding mean_times mean_of
returns c = c.mean.ensures (times c.args.samples.now.iq.now c.args.z) (λ k r b p. search rules)
