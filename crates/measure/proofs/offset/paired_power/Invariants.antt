-- The sum so far is that of the blocks in pairs among the first b, and `from` is where block b starts.
use Prim.Native.Nat.{◌*◌}
use mathlib.Core.Path.{◌≡◌}
use Rattle.float.specs.Ops.{minus_zero}
use Rattle.lists.specs.Sums.{sum_over}
use Rattle.lists.specs.Those.{picked}
use Rattle.complex.specs.Rows.{z_at}
use Rattle.row.specs.Blocks.{block_mean}
use Rattle.classes.specs.declared.class.BlockClass.TheVariants.{Gap}
use Rattle.prepared.specs.Inner.{of_class}
use Rattle.prepared.specs.Powers.{block_power}
use Rattle.gaps.specs.Pairs.{above, in_pair}
use Rattle.measure.proofs.offset.paired_power.Given as goal

abbrev pub invariant-loop-b : goal.invariant-loop-b
invariant-loop-b l =
    (l.from ≡ l.b * l.len)
    × (l.sum ≡ sum_over (block_power (block_mean l.samples.iq.now l.cyc l.len)) minus_zero
    (picked (in_pair (above (of_class l.classed.held.codes.now Gap) (z_at l.classed.held.means.now) l.level) l.classed.grid.blocks.count) (λ k. k) l.b))
