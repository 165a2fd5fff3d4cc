-- `lines::key_lines` meets its contract: one line more is put.
use Rattle.std.proofs.Common.{rules, arith}
use Rattle.elements.proofs.Records.{element_read}
use Rattle.lines.proofs.Keys.{keys_none, keys_turn, keys_room}
use Rattle.lines.proofs.key_lines.Goals as goal

pub loop-place-init : goal.loop-place-init
loop-place-init c = keys_none _ _

pub key_line-requires : goal.key_line-requires
key_line-requires c =
    let e = element_read _ _ _ c.loop-place.place-index _ c.each-place-items.ensures.value (omega arith) c.element_at.ensures in
    let room = keys_room c.args.elements.now.numbers.now c.loop-place.place-index c.args.elements.now.count (omega arith) in
    rw e (search rules)

pub loop-place-preserved : goal.loop-place-preserved
loop-place-preserved c =
    let e = element_read _ _ _ c.loop-place.place-index _ c.each-place-items.ensures.value (omega arith) c.element_at.ensures in
    keys_turn _ _ _ _ _ c.loop-place.invariant (rw e at c.key_line.ensures)
