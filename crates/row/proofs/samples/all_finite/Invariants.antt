use Rattle.std.proofs.Common.{◌≡◌}
use Rattle.row.specs.Samples.{finite_to}
use Rattle.row.proofs.samples.all_finite.Given as goal

abbrev pub invariant-loop-x : goal.invariant-loop-x
invariant-loop-x l = l.ok ≡ finite_to l.iq l.x-index
