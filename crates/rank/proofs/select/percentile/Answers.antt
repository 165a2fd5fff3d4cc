-- `rank::select::percentile` meets its contract.
use native.Mathlib.Omega.{arith}
use borrow.Author.Rules.{rules}
use lib.ListN.{length}
use Rattle.rank.proofs.Sorted.{rank_lt, percentile_none, selected_ordinal, percentile_selected}
use Rattle.rank.proofs.select.percentile.Goals as goal

pub returns-then-v-eq0 : goal.returns-then-v-eq0
returns-then-v-eq0 c = percentile_none c.args.v.now c.args.p c.if-v-eq0.true

pub select-k-requires : goal.select-k-requires
select-k-requires c = record { v_len_bound = search rules; rank_in_bounds = omega (arith, rank_lt (length c.args.v.now) c.args.p (omega arith), c.rank-r.ensures) }

pub value-requires : goal.value-requires
value-requires c = selected_ordinal c.select-k.ensures

pub returns : goal.returns
returns c =
    percentile_selected
    c.args.v.now
    c.args.p
    c.rank-r.result
    c.select-k.result
    c.value.result
    (omega arith)
    c.rank-r.ensures
    c.select-k.ensures
    c.value.ensures
