use Rattle.std.proofs.Common.{◌∙◌, ℕ, get_or, refl, rules}
use Rattle.std.specs.Float.{nan}
use Rattle.lists.proofs.Fill.{fill_none, fill_turn0, fill_done, fill_all}
use Rattle.lists.proofs.Firsts.{firsts_all}
use Rattle.row.proofs.copies.copy.Goals as goal

pub loop-i-init : goal.loop-i-init
loop-i-init c = fill_none _ 0 _

pub loop-i-preserved : goal.loop-i-preserved
loop-i-preserved c = fill_turn0 _ _ c.loop-i.i _ _ c.loop-i.invariant (search rules)

pub returns : goal.returns
returns c =
    let from = c.args.from.now in
    let at = λ (k : ℕ). get_or from k nan in
    fill_done _ 0 at _ _ _ c.loop-i.invariant (search rules) (search rules) ∙ fill_all _ at _ nan c.requires ∙ firsts_all at from nan (λ k h. refl)
