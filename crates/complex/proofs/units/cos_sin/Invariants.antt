-- k units are stored.
use Rattle.std.proofs.Common.{◌≡◌, length}
use Rattle.complex.specs.Rows.{z_fill}
use Rattle.complex.specs.Units.{unit_at}
use Rattle.complex.proofs.units.cos_sin.Given as goal

abbrev pub invariant-loop-k : goal.invariant-loop-k
invariant-loop-k l = (length l.out ≡ length l.initial.out) × (l.out ≡ z_fill l.initial.out 0 (unit_at l.angles) l.k)
