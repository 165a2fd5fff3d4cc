use Prim.Native.Nat.{◌+◌, ◌*◌}
use native.Mathlib.Nat.{mul-le-mul_right}
use native.Mathlib.Omega.{arith}
use mathlib.Core.Path.{◌≡◌, refl, sym, ◌∙◌}
use mathlib.Core.Bool.{Bool}
use lib.Ieee.{Float}
use borrow.Author.Rules.{rules}
use Rattle.std.proofs.lemmas.List.{set-get_or}
use Rattle.row.specs.Window.{centre_of}
use Rattle.row.proofs.Means.{start_next}
use Rattle.classes.proofs.Labelled.{label_none, label_yes, label_no, label_done}
use Rattle.classes.proofs.Sizes.{centre_is}
use Rattle.classes.proofs.classify.label_where.Goals.{then-passes, else-passes}
use Rattle.classes.proofs.classify.label_where.Goals as goal

pub exact-requires : goal.exact-requires
exact-requires g c = omega (arith, mul-le-mul_right c.args.w.len c.loop-block-test.true)

pub loop-block-init : goal.loop-block-init
loop-block-init g c = (search rules, omega arith, λ p d. label_none _ _ _)

pub loop-block-preserved : goal.loop-block-preserved
loop-block-preserved g c =
    let inv = c.loop-block.invariant in
    let centre = rw inv.1 at (centre_is _ _ _ _ c.to_centre-half.ensures c.exact.ensures) in
    let told : (p : Float → Bool) → ((k : Float) (t : Bool) → goal.F-post g c.args.passes k t → t ≡ p k) → p (centre_of (c.args.first + c.loop-block.block-index * c.args.w.len) c.args.w.len) ≡ c.passes.result
    = λ p d. rw (← centre) (sym (d _ _ c.passes.ensures)) in
    let next = start_next c.loop-block.block-index c.args.w.len _ _ refl refl in
    elim c.if-passes.branch [
      | then-passes w ↦ (inv.0, omega (arith, next), λ p d. w.class-is ∙ label_yes _ _ _ _ _ (inv.2 p d) (search rules) (told p d ∙ w.if-passes.true))
      | else-passes w ↦ (inv.0, omega (arith, next), λ p d. w.class-is ∙ set-get_or _ _ _ ∙ label_no _ _ _ _ _ (inv.2 p d) (told p d ∙ w.if-passes.false))
    ]

pub returns : goal.returns
returns g c = λ p d. rw (← c.from-x.ensures) (label_done _ _ _ _ _ (c.loop-block.invariant.2 p d) (omega arith))
