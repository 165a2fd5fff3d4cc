use Prim.Native.Nat.{◌<◌}
use native.Mathlib.Omega.{arith}
use mathlib.Core.Path.{◌∙◌}
use mathlib.Core.Bool.{cond}
use borrow.Author.Rules.{rules}
use lib.ListN.{length}
use lib.Ieee.{Float, eq}
use Rattle.std.proofs.lemmas.Iterator.{YieldsList-from_slice, YieldsList-from_map}
use Rattle.std.proofs.lemmas.Iterator.Consumers.{sum_by_from_yields_List, fits_by_from_yields_list}
use Rattle.std.proofs.lemmas.List.Sums.{count_by-le-length}
use Rattle.classes.specs.Classify.{count_in}
use Rattle.classes.proofs.Counts.{count_listed, as_bit}
use Rattle.classes.proofs.classify.count_class.Goals as goal

pub sum-requires-clause-fits : goal.sum-requires-clause-fits
sum-requires-clause-fits c =
    let is = λ (x : Float). eq x c.from-code.result in
    let row = c.args.class.now in
    let bound : length row < 18446744073709551616 = search rules in
    fits_by_from_yields_list (λ (x : Float). cond (is x) 1 0) row c.map.result 18446744073709551616
    (YieldsList-from_map _ _ (YieldsList-from_slice row cc) c.map.ensures.closure (λ x r q k. (search rules, search rules ∙ as_bit _)))
    (omega (arith, count_by-le-length is row, bound))

pub returns : goal.returns
unfolding count_in
returns c =
    let is = λ (x : Float). eq x c.from-code.result in
    let row = c.args.class.now in
    let counted = sum_by_from_yields_List (λ (x : Float). cond (is x) 1 0) row c.map.result c.sum.result c.sum.ensures.ran
    (YieldsList-from_map _ _ (YieldsList-from_slice row cc) c.map.ensures.closure (λ x r q k. (search rules, search rules ∙ as_bit _))) in
    rw (← c.from-code.ensures) (counted ∙ count_listed is row)
