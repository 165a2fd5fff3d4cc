-- `stored::equal::same_figures` meets its contract.
use Rattle.std.proofs.Common.{rules, tests, lit<, ◌∙◌}
use Rattle.std.proofs.lemmas.Iterator.{YieldsList-from_slice, YieldsList-from_zip}
use Rattle.std.proofs.lemmas.Iterator.Search.{all_from_yields_List}
use Rattle.stored.proofs.Rows.{same_stored, figures_by_pairs}
use Rattle.stored.proofs.Chunks.{YieldsList-from_chunks_exact}
use Rattle.stored.proofs.equal.same_figures.Goals as goal

pub returns-then-stored-figures : goal.returns-then-stored-figures
returns-then-stored-figures c =
    all_from_yields_List same_stored c.all.new.self _ _ c.all.ensures.ran (YieldsList-from_zip (YieldsList-from_slice c.args.figures.now cc) (YieldsList-from_chunks_exact 8 c.args.stored.now (lit< tt) (cc) (cc))) (λ x b q k. search (rules, tests))
    ∙ figures_by_pairs _ _ c.if-stored-figures.true
