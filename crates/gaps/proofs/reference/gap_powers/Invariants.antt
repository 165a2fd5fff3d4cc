-- The powers of the gap blocks among those so far are stored, n of them, and `from` is where the next block starts.
use Prim.Native.Nat.{◌*◌, ◌≤◌}
use mathlib.Core.Path.{◌≡◌}
use Rattle.lists.specs.Count.{count_to}
use Rattle.lists.specs.Those.{keep}
use Rattle.row.specs.Blocks.{block_mean}
use Rattle.classes.specs.declared.class.BlockClass.TheVariants.{Gap}
use Rattle.prepared.specs.Inner.{of_class}
use Rattle.prepared.specs.Powers.{block_power}
use Rattle.gaps.proofs.reference.gap_powers.Given as goal

abbrev pub invariant-loop-x : goal.invariant-loop-x
invariant-loop-x l =
    (l.from ≡ l.x-index * l.len) × (l.n ≤ l.x-index) × (l.n ≡ count_to (of_class l.classed.held.codes.now Gap) l.x-index)
    × (l.out ≡ keep l.initial.out 0 (of_class l.classed.held.codes.now Gap) (block_power (block_mean l.samples.iq.now l.cyc l.len)) l.x-index)
