use Rattle.std.proofs.Common.{rules}
use Rattle.row.specs.Blocks.{derot, mean_from}
use Rattle.row.specs.Inner.{mean_of}
use Rattle.row.proofs.blocks.mean_turned.Goals as goal

pub returns : goal.returns
unfolding mean_from mean_of
returns c = c.mean.ensures (derot c.args.samples.now.iq.now c.args.cyc) (λ k r b p. search rules)
