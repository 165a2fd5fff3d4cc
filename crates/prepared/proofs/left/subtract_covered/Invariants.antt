-- The terms of the samples before k are taken off.
use Prim.Native.Nat.{◌-◌, ◌≤◌}
use mathlib.Core.Path.{◌≡◌}
use Rattle.prepared.specs.Left.{less_from}
use Rattle.prepared.proofs.left.subtract_covered.Given as goal

abbrev pub invariant-loop-k : goal.invariant-loop-k
invariant-loop-k l = (l.k - l.a ≤ l.e - l.a) × (l.left ≡ less_from l.fs l.len l.f l.initial.left l.a (l.k - l.a))
