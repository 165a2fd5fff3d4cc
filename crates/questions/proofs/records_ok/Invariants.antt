-- The records behind the loop are accepted, by whatever test the closure decides.
use Rattle.std.proofs.Common.{◌≡◌, Bool, true, List, [], get_or, Float}
use Rattle.std.specs.Fn.{FnReturnsAt}
use Rattle.lists.specs.Every.{every}
use Rattle.questions.proofs.records_ok.Given as goal

abbrev pub invariant-loop-place : goal.invariant-loop-place
invariant-loop-place g l =
    (p : List Float → Bool) → ((x : List Float) (t : Bool) → FnReturnsAt g.F.Fn l.ok x t → t ≡ p x) → every (λ k. p (get_or l.place-items k [])) l.place-index ≡ true
