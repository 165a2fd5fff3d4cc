-- `stored::equal::same_list` meets its contract: a number is its own value.
use Rattle.std.proofs.Common.{◌∙◌}
use Rattle.stored.proofs.Rows.{own_values}
use Rattle.stored.proofs.equal.same_list.Goals as goal

pub returns : goal.returns
returns c = c.same_firsts.ensures (λ x. x) (λ x y e. e) ∙ own_values c.args.a.now c.args.b.now c.args.n
