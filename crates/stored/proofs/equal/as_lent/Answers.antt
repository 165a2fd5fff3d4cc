-- `stored::equal::as_lent` meets its contract.
use Rattle.std.proofs.Common.{rules, tests, ◌∙◌}
use Rattle.std.proofs.lemmas.Iterator.{YieldsList-from_slice}
use Rattle.std.proofs.lemmas.Iterator.Adapters.{YieldsList-from_skip}
use Rattle.std.proofs.lemmas.Iterator.Consumers.{YieldsList-at}
use Rattle.std.proofs.lemmas.Iterator.Search.{all_from_yields_List}
use Rattle.std.specs.Float.Ieee.{eq}
use Rattle.stored.proofs.Rows.{lent_by_items}
use Rattle.stored.specs.Same.{LENT}
use Rattle.stored.proofs.equal.as_lent.Goals as goal

pub returns : goal.returns
returns c =
    all_from_yields_List (λ x. eq x LENT) c.all.new.self _ _ c.all.ensures.ran (YieldsList-from_skip c.args.from (YieldsList-at c.skip.ensures.source (YieldsList-from_slice c.args.row.now cc)) cc) (λ x b q k. search (rules, tests))
    ∙ lent_by_items c.args.row.now c.args.from
