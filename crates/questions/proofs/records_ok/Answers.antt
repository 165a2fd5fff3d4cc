-- `questions::records_ok` meets its contract.
use Rattle.std.proofs.Common.{◌≡◌, ◌<◌, ◌∙◌, [], arith, refl}
use Rattle.std.proofs.lemmas.Fn.{says_at}
use Rattle.std.proofs.lemmas.List.{get_or_default}
use Rattle.questions.proofs.Given.{every_turn, ok_over, ok_not, ok_done}
use Rattle.questions.proofs.records_ok.Goals as goal

pub returns-then-count-list : goal.returns-then-count-list
returns-then-count-list g c = λ p d. ok_over p _ _ _ c.if-count-list.true

pub loop-place-init : goal.loop-place-init
loop-place-init g c = λ p d. refl

pub returns-then-not-ok : goal.returns-then-not-ok
returns-then-not-ok g c = λ p d.
    let i = c.loop-place.place-index in
    let places = rw (c.new.ensures.0, c.new.ensures.1) at c.each-place-items.ensures.value in
    let count = c.each-place-items.ensures.len ∙ c.new.ensures.1 in
    let below : i < c.args.count = rw (← count) c.loop-place-test.true in
    let item = c.place-item.is ∙ get_or_default _ i _ [] c.loop-place-test.true in
    let told = rw (item, places) at (d _ _ (says_at g.F.Fn c.ok.ensures refl)) in
    ok_not p _ _ _ i c.if-count-list.false below (rw (← told) c.if-not-ok.true)

pub loop-place-preserved : goal.loop-place-preserved
loop-place-preserved g c = λ p d.
    let i = c.loop-place.place-index in
    let item = c.place-item.is ∙ get_or_default _ i _ [] c.loop-place-test.true in
    let told = rw item at (d _ _ (says_at g.F.Fn c.ok.ensures refl)) in
    every_turn _ i (c.loop-place.invariant p d) (rw (← told) c.if-not-ok.false)

pub returns : goal.returns
returns g c = λ p d.
    let i = c.loop-place.place-index in
    let places = rw (c.new.ensures.0, c.new.ensures.1) at c.each-place-items.ensures.value in
    let count = c.each-place-items.ensures.len ∙ c.new.ensures.1 in
    let all : i ≡ c.args.count = omega (arith, count) in
    ok_done p _ _ _ i c.if-count-list.false (rw places at (c.loop-place.invariant p d)) all
