use native.Mathlib.Omega.{arith}
use mathlib.Core.Path.{refl, ap, ◌∙◌}
use borrow.Author.Rules.{rules}
use Rattle.lists.specs.Count.{count_to}
use Rattle.lists.specs.Those.{keep}
use Rattle.complex.specs.Value.{c_norm_sqr}
use Rattle.prepared.proofs.Gathered.{gather_yes, gather_no}
use Rattle.prepared.proofs.powers.gather.Goals.{then-x-code, else-x-code}
use Rattle.prepared.proofs.powers.gather.Goals as goal

pub loop-b-init : goal.loop-b-init
unfolding count_to keep
loop-b-init c = (search rules, refl, refl)

pub loop-b-preserved : goal.loop-b-preserved
loop-b-preserved c =
    let inv = c.loop-b.invariant in
    elim c.if-x-code.branch [
      | then-x-code w ↦
          let next = gather_yes _ _ _ _ _ _ _ _ inv.2 inv.1 (rw (← c.from-code.ensures) w.if-x-code.true) (w.norm_sqr.ensures ∙ ap c_norm_sqr w.get.ensures) w.out-is in
          (omega (arith, w.n-is), w.n-is ∙ next.0, next.1)
      | else-x-code w ↦
          let next = gather_no _ _ _ _ _ _ inv.2 inv.1 (rw (← c.from-code.ensures) w.if-x-code.false) in
          (omega (arith, w.n-is), w.n-is ∙ next.0, w.out-is ∙ next.1)
    ]
