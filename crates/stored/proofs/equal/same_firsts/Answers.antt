-- `stored::equal::same_firsts` meets its contract.
use Rattle.std.proofs.Common.{rules, tests, arith, ◌∙◌}
use Rattle.std.proofs.lemmas.Iterator.{YieldsList-from_slice, YieldsList-from_zip, YieldsList-from_take}
use Rattle.std.proofs.lemmas.Iterator.Consumers.{YieldsList-at}
use Rattle.std.proofs.lemmas.Iterator.Search.{all_from_yields_List}
use Rattle.stored.proofs.Rows.{same_values, firsts_by_values}
use Rattle.stored.proofs.equal.same_firsts.Goals as goal

pub returns-then-n-b : goal.returns-then-n-b
returns-then-n-b g c value gives =
    all_from_yields_List (same_values value) c.all.new.self _ _ c.all.ensures.ran (YieldsList-from_take c.args.n (YieldsList-at c.take.ensures.source (YieldsList-from_zip (YieldsList-from_slice c.args.a.now cc) (YieldsList-from_slice c.args.b.now cc))) cc) (λ x b q k. search (rules, tests))
    ∙ firsts_by_values value _ _ _ (omega arith) (omega arith)
