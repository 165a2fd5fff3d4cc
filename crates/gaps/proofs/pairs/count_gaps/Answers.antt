use Prim.Native.Nat.{ℕ}
use native.Mathlib.Nat.{sub-zero}
use lib.ListN.{length}
use mathlib.Core.Path.{◌≡◌, ◌∙◌}
use borrow.Author.Rules.{rules}
use Rattle.std.specs.List.{filter, range_with_len}
use Rattle.std.proofs.lemmas.Iterator.{YieldsList-from_range}
use Rattle.std.proofs.lemmas.Iterator.Consumers.{YieldsList-from_filter, count_from_yields_List}
use Rattle.classes.specs.Classify.{count_in}
use Rattle.float.specs.Ops.{◌⊗◌, bits}
use Rattle.complex.specs.Rows.{z_at}
use Rattle.classes.specs.declared.class.BlockClass.TheVariants.{Gap}
use Rattle.prepared.specs.Inner.{of_class}
use Rattle.gaps.specs.Pairs.{above}
use Rattle.gaps.proofs.Counted.{filtered}
use Rattle.gaps.proofs.Paired.{gaps_are}
use Rattle.gaps.proofs.pairs.count_gaps.Goals as goal

pub returns : goal.returns
unfolding count_in
returns c =
    let held = c.args.held.now in
    let n = length held.codes.now in
    let hot = λ (b : ℕ). above (of_class held.codes.now Gap) (z_at held.means.now) (bits 0x4010_0000_0000_0000 ⊗ c.args.reference) b in
    let range = YieldsList-from_range 0 n n c.filter.ensures.source (sub-zero n) in
    let counted : c.count.result ≡ length (filter hot (range_with_len 0 n)) =
    count_from_yields_List _ _ c.count.ensures.ran (YieldsList-from_filter _ hot range c.filter.ensures.closure (λ x b q k. search rules)) in
    gaps_are _ _ _ n _ _ c.count_class.ensures (counted ∙ filtered hot n)
