use mathlib.Core.Path.{refl, ap, ◌∙◌}
use borrow.Author.Rules.{rules}
use Rattle.complex.specs.Value.{c_norm_sqr}
use Rattle.row.proofs.Means.{start_next, block_mean_is}
use Rattle.measure.proofs.Offsets.{over_none, over_yes, over_no, over_done}
use Rattle.measure.proofs.offset.paired_power.Goals.{then-in_pair, else-in_pair}
use Rattle.measure.proofs.offset.paired_power.Goals as goal

pub loop-b-init : goal.loop-b-init
loop-b-init c = (search rules, over_none _ _)

pub loop-b-preserved : goal.loop-b-preserved
loop-b-preserved c =
    let inv = c.loop-b.invariant in
    let paired = rw c.args.classed.now.all at c.in_pair.ensures in
    elim c.if-in_pair.branch [
      | then-in_pair w ↦
          let power = w.norm_sqr-sum.ensures ∙ ap c_norm_sqr (block_mean_is _ _ _ _ _ _ inv.0 w.mean_from.ensures) in
          (start_next _ _ _ _ inv.0 refl, over_yes _ _ _ _ _ _ _ inv.1 paired w.if-in_pair.true power w.sum-is)
      | else-in_pair w ↦ (start_next _ _ _ _ inv.0 refl, over_no _ _ _ _ _ _ inv.1 paired w.if-in_pair.false w.sum-is)
    ]

pub returns : goal.returns
returns c = over_done _ _ _ _ _ c.loop-b.invariant.1 (search rules) (search rules)
