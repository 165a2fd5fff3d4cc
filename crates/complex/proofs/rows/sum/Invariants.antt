use mathlib.Core.Path.{◌≡◌}
use Rattle.complex.specs.Rows.{z_at, c_sum}
use Rattle.complex.proofs.rows.sum.Given as goal

abbrev pub invariant-loop-re : goal.invariant-loop-re
invariant-loop-re l = l.acc ≡ c_sum (z_at l.row) l.a l.re-index
