-- The powers of those of the first b blocks that have the class are stored, n of them.
use Prim.Native.Nat.{◌≤◌}
use mathlib.Core.Path.{◌≡◌}
use Rattle.lists.specs.Count.{count_to}
use Rattle.lists.specs.Those.{keep}
use Rattle.complex.specs.Rows.{z_at}
use Rattle.prepared.specs.Powers.{block_power}
use Rattle.prepared.specs.Inner.{of_class}
use Rattle.prepared.proofs.powers.gather.Given as goal

abbrev pub invariant-loop-b : goal.invariant-loop-b
invariant-loop-b l =
    (l.n ≤ l.b) × (l.n ≡ count_to (of_class l.held.codes.now l.fn.class) l.b)
    × (l.out ≡ keep l.initial.out 0 (of_class l.held.codes.now l.fn.class) (block_power (z_at l.held.means.now)) l.b)
