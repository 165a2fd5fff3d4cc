-- The invariant: the sum so far is the specification's sum of the first numbers. Before the loop it is ZERO.
use borrow.Author.Rules.{rules}
use native.Mathlib.Omega.{arith}
use Rattle.complex.proofs.RowLaws.{c_sum_none0, c_sum_turn0, c_sum_done0, pair_read, pairs_number}
use Rattle.complex.proofs.rows.sum.Goals as goal

ruleset laws = (rules, c_sum_none0)

pub loop-re-init : goal.loop-re-init
loop-re-init c = search laws

pub loop-re-preserved : goal.loop-re-preserved
loop-re-preserved c =
    let many = pairs_number c.args.row.now c.args.a c.args.n c.requires _ c.as_chunks.ensures.front_len in
    let read = pair_read c.args.row.now c.args.a c.args.n c.requires _ c.loop-re.re-index c.as_chunks.ensures.front (omega arith) in
    c_sum_turn0 _ c.args.a c.loop-re.re-index _ _ _ c.loop-re.invariant (rw c.new.ensures read) c.add-acc.ensures

pub returns : goal.returns
returns c =
    let many = pairs_number c.args.row.now c.args.a c.args.n c.requires _ c.as_chunks.ensures.front_len in
    c_sum_done0 _ _ _ _ _ c.loop-re.invariant (omega arith) (omega arith)
