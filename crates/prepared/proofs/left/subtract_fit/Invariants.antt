-- The blocks before b are done, and `from` is where block b starts.
use Prim.Native.Nat.{◌*◌}
use mathlib.Core.Path.{◌≡◌}
use Rattle.prepared.proofs.Less.{Turned}
use Rattle.prepared.proofs.left.subtract_fit.Given as goal

abbrev pub invariant-loop-b : goal.invariant-loop-b
invariant-loop-b l = (l.from ≡ l.b * l.len) × Turned l.blocks.fs l.len l.blocks.count l.f l.initial.row l.row l.b
