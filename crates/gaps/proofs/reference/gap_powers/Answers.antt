use native.Mathlib.Omega.{arith}
use mathlib.Core.Path.{refl, ap, ◌∙◌}
use borrow.Author.Rules.{rules}
use Rattle.lists.specs.Count.{count_to}
use Rattle.lists.specs.Those.{keep}
use Rattle.row.proofs.Means.{start_next, block_mean_is}
use Rattle.complex.specs.Value.{c_norm_sqr}
use Rattle.prepared.proofs.Gathered.{gather_yes, gather_no}
use Rattle.gaps.proofs.reference.gap_powers.Goals.{then-x-gap, else-x-gap}
use Rattle.gaps.proofs.reference.gap_powers.Goals as goal

pub loop-x-init : goal.loop-x-init
unfolding count_to keep
loop-x-init c = (search rules, search rules, refl, refl)

pub loop-x-preserved : goal.loop-x-preserved
loop-x-preserved c =
    let inv = c.loop-x.invariant in
    elim c.if-x-gap.branch [
      | then-x-gap w ↦
          let power = w.norm_sqr.ensures ∙ ap c_norm_sqr (block_mean_is _ _ _ _ _ _ inv.0 w.mean_from.ensures) in
          let next = gather_yes _ _ _ _ _ _ _ _ inv.3 inv.2 (rw (← c.from-gap.ensures) w.if-x-gap.true) power w.out-is in
          (start_next _ _ _ _ inv.0 refl, omega (arith, w.n-is), w.n-is ∙ next.0, next.1)
      | else-x-gap w ↦
          let next = gather_no _ _ _ _ _ _ inv.3 inv.2 (rw (← c.from-gap.ensures) w.if-x-gap.false) in
          (start_next _ _ _ _ inv.0 refl, omega (arith, w.n-is), w.n-is ∙ next.0, w.out-is ∙ next.1)
    ]
