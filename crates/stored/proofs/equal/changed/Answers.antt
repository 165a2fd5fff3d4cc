-- `stored::equal::changed` meets its contract.
use Rattle.std.proofs.Common.{rules, tests, lit<, ◌∙◌}
use Rattle.std.proofs.lemmas.Iterator.{YieldsList-from_zip}
use Rattle.std.proofs.lemmas.Iterator.Consumers.{YieldsList-from_filter, count_from_yields_List}
use Rattle.stored.proofs.Rows.{differ, changed_by_pairs}
use Rattle.stored.proofs.Chunks.{YieldsList-from_chunks_exact}
use Rattle.stored.proofs.equal.changed.Goals as goal

pub returns : goal.returns
returns c =
    count_from_yields_List c.filter.result _ c.count.ensures.ran (YieldsList-from_filter _ differ (YieldsList-from_zip (YieldsList-from_chunks_exact 2 c.args.a.now (lit< tt) (cc) (cc)) (YieldsList-from_chunks_exact 2 c.args.b.now (lit< tt) (cc) (cc))) c.filter.ensures.closure (λ x r q k. search (rules, tests)))
    ∙ changed_by_pairs _ _
