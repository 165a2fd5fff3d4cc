use Rattle.std.proofs.Common.{◌≡◌, ℕ, ◌*◌}
use Rattle.complex.specs.declared.value.Complex.{Complex}
use Rattle.complex.specs.Rows.{z_fill}
use Rattle.row.specs.Inner.{Gives}
use Rattle.row.proofs.blocks.means.Given as goal

abbrev pub invariant-loop-b : goal.invariant-loop-b
invariant-loop-b g l =
    (l.from ≡ l.b * l.len) × ((f : ℕ → Complex) → Gives (λ b z. goal.F-post g l.mean (b * l.len) z) l.n f → l.out ≡ z_fill l.initial.out 0 f l.b)
