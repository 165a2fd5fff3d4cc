-- `from` is where the block at hand starts, and x is at those before it that pass, whatever test the closure decides.
use Prim.Native.Nat.{◌+◌, ◌*◌}
use mathlib.Core.Path.{◌≡◌}
use mathlib.Core.Bool.{Bool}
use lib.Ieee.{Float}
use Rattle.row.specs.Window.{centre_of}
use Rattle.classes.specs.Inner.{labelled}
use Rattle.classes.proofs.Labelled.{upto}
use Rattle.classes.proofs.classify.label_where.Given as goal

abbrev pub invariant-loop-block : goal.invariant-loop-block
invariant-loop-block g l =
    goal.F-IsAlwaysCallable g l.passes
    × (l.from ≡ l.first + l.block-index * l.w.len)
    × ((p : Float → Bool) → ((k : Float) (t : Bool) → goal.F-post g l.passes k t → t ≡ p k)
    → l.class ≡ labelled l.initial.class (upto (λ b. p (centre_of (l.first + b * l.w.len) l.w.len)) l.block-index) l.x)
