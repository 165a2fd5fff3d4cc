-- Where an upward crossing is pending, `Ending` says what the counts leave room for.
use Rattle.std.proofs.Common.{rules, arith, refl}
use Rattle.elements.specs.Inner.{Ending}
use Rattle.elements.proofs.Walk.{ending, none_ended, one_listed_lem, one_short_lem}
use Rattle.elements.proofs.keying.Walk.close.Goals.{In-Some}
use Rattle.elements.proofs.keying.Walk.close.Goals as goal

ends : (c : In-Some) → Ending c.args.found c.in-Some.up c.args.i
ends c = ending _ _ _ _ _ _ _ _ c.in-Some.is c.requires.rising_value c.requires.found_value (omega arith) (omega arith) (omega arith)

pub returns-in_default : goal.returns-in_default
returns-in_default c = none_ended _ _ _ _ _ _ _ _ c.in_default.is

pub element-e-requires : goal.element-e-requires
element-e-requires c = let k = ends (goal.at.element-e-requires c).In-Some in search rules

pub put_element-requires : goal.put_element-requires
put_element-requires c = let k = ends (goal.at.put_element-requires c).In-Some in search rules

pub overflow_sub-i : goal.overflow_sub-i
overflow_sub-i c = let k = ends (goal.at.overflow_sub-i c).In-Some in search rules

pub with_listed-requires-clause-room : goal.with_listed-requires-clause-room
with_listed-requires-clause-room c = (ends (goal.at.with_listed-requires-clause-room c).In-Some).room

pub with_short-requires : goal.with_short-requires
with_short-requires c = (ends (goal.at.with_short-requires c).In-Some).room

pub returns-then-is_long : goal.returns-then-is_long
returns-then-is_long c =
    rw c.in-Some.is
    (one_listed_lem _ _ _ _ _ _ _ _ _ _ _ c.element-e.ensures c.is_long.ensures c.if-is_long.true c.with_listed.ensures c.put_element.ensures)

pub returns-else-is_long : goal.returns-else-is_long
returns-else-is_long c =
    rw c.in-Some.is
    (one_short_lem _ _ _ _ _ _ _ _ _ _ _ c.element-e.ensures c.is_long.ensures c.if-is_long.false c.with_short.ensures refl)
