use Rattle.std.proofs.Common.{◌≡◌, ℕ, ◌+◌, ◌-◌}
use Rattle.complex.specs.declared.value.Complex.{Complex}
use Rattle.complex.specs.Rows.{c_sum}
use Rattle.row.specs.Inner.{Gives}
use Rattle.row.proofs.blocks.mean.Given as goal

abbrev pub invariant-loop-k : goal.invariant-loop-k
invariant-loop-k g l = (f : ℕ → Complex) → Gives (goal.F-post g l.turned) (l.a + l.len) f → l.sum ≡ c_sum f l.a (l.k - l.a)
