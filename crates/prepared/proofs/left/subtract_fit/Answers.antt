use native.Mathlib.Omega.{arith}
use mathlib.Core.Path.{refl}
use Rattle.row.proofs.Means.{start_next}
use Rattle.prepared.proofs.Less.{turned_none, turned_turn, turned_done, first_start, block_inside}
use Rattle.prepared.proofs.left.subtract_fit.Goals as goal

pub loop-b-init : goal.loop-b-init
loop-b-init c = (first_start _ _, turned_none _ _ _ _ _ c.fit_span-s.ensures _ c.args.blocks.some)

pub get-z-requires : goal.get-z-requires
get-z-requires c =
    let here = block_inside _ _ _ _ _ _ _ _ c.args.blocks.some c.fit_span-s.ensures c.div_ceil-b-end.ensures c.loop-b.invariant.0 c.loop-b-test.true in
    omega (arith, here.0)

pub subtract_covered-requires : goal.subtract_covered-requires
subtract_covered-requires c =
    let here = block_inside _ _ _ _ _ _ _ _ c.args.blocks.some c.fit_span-s.ensures c.div_ceil-b-end.ensures c.loop-b.invariant.0 c.loop-b-test.true in
    omega (arith, here.1, c.args.blocks.inside)

pub put-requires : goal.put-requires
put-requires c =
    let here = block_inside _ _ _ _ _ _ _ _ c.args.blocks.some c.fit_span-s.ensures c.div_ceil-b-end.ensures c.loop-b.invariant.0 c.loop-b-test.true in
    omega (arith, here.0)

pub overflow_add-from : goal.overflow_add-from
overflow_add-from c =
    let here = block_inside _ _ _ _ _ _ _ _ c.args.blocks.some c.fit_span-s.ensures c.div_ceil-b-end.ensures c.loop-b.invariant.0 c.loop-b-test.true in
    omega (arith, here.1, c.args.blocks.inside)

pub loop-b-preserved : goal.loop-b-preserved
loop-b-preserved c =
    let inv = c.loop-b.invariant in
    let here = block_inside _ _ _ _ _ _ _ _ c.args.blocks.some c.fit_span-s.ensures c.div_ceil-b-end.ensures inv.0 c.loop-b-test.true in
    (start_next _ _ _ _ inv.0 refl, turned_turn _ _ _ _ _ c.fit_span-s.ensures _ _ _ _ _ _ _ inv.1 inv.0 c.get-z.ensures c.subtract_covered.ensures c.put.ensures (omega (arith, here.0)))

pub returns : goal.returns
returns c = λ b h. turned_done _ _ _ _ _ c.fit_span-s.ensures _ c.args.blocks.some _ _ _ c.loop-b.invariant.1 c.div_ceil-b-end.ensures c.loop-b-test.false b
