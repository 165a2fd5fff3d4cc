use native.Mathlib.Omega.{arith}
use mathlib.Core.Path.{sym, ◌∙◌}
use borrow.Author.Rules.{rules}
use Rattle.constants.proofs.Bits.{pair_factor_bits}
use Rattle.gaps.proofs.Paired.{pairs_none, pairs_yes, pairs_no, pairs_done, pairs_few, pair_later}
use Rattle.gaps.proofs.pairs.sum_pairs.Goals.{then-pair_at, else-pair_at}
use Rattle.gaps.proofs.pairs.sum_pairs.Goals as goal

pub loop-b-init : goal.loop-b-init
loop-b-init c = sym (pairs_none _ _)

pub lagged-requires-clause-first : goal.lagged-requires-clause-first
lagged-requires-clause-first c = pair_later _ _ (sym c.pair_at.ensures ∙ c.if-pair_at.true)

pub with-found-requires : goal.with-found-requires
with-found-requires c = let few = pairs_few _ _ _ _ c.loop-b.invariant in omega (arith, few)

pub loop-b-preserved : goal.loop-b-preserved
loop-b-preserved c =
    elim c.if-pair_at.branch [
      | then-pair_at w ↦ pairs_yes _ _ _ _ _ _ _ c.loop-b.invariant c.pair_at.ensures w.if-pair_at.true w.lagged.ensures (w.found-is ∙ w.with-found.ensures)
      | else-pair_at w ↦ pairs_no _ _ _ _ _ _ c.loop-b.invariant c.pair_at.ensures w.if-pair_at.false w.found-is
    ]

pub returns : goal.returns
returns c = rw pair_factor_bits (pairs_done _ _ _ _ _ c.loop-b.invariant (search rules) (search rules))
