-- How a case is counted. Definitions only.
use Rattle.std.specs.Prelude.{Bool, true, false, ◌≡◌, ◌≢◌, ◌⊎◌, is_some, MatchResult}
use Rattle.std.specs.Option.{unwrap_or}
use Rattle.stored.specs.declared.kind.Call.{Call}
use Rattle.stored.specs.declared.kind.Call.TheVariants.{Run}
use Rattle.stored.specs.declared.answer.Answered.{Answered}
use Rattle.stored.specs.declared.answer.Ran.{Ran}
use Rattle.stored.specs.declared.tally.Tally.{Tally}
use Rattle.stored.specs.Answers.{AnsweredBy}
use Rattle.stored.specs.Kinds.{call_number}
use Rattle.stored.specs.Tally.{counted_of, ran_of, counts}

-- what is counted of a run: what it found, where it is accepted
abbrev pub RunCounted : Ran → Tally → Tally → Type 0
RunCounted ran before after =
    MatchResult ran.answer (λ found. counts after ≡ ran_of 0 found.hypothesis (is_some found.taken) (unwrap_or found.taken 0) (counts before)) (λ _. after ≡ before)

-- what is counted beside the case itself: nothing, or of a run that is not meant to differ, which was so answered, that
abbrev pub FindingCounted : Call → Bool → Answered → Tally → Tally → Type 0
FindingCounted call meant answered before after =
    (((call ≢ Run) ⊎ (meant ≡ true)) × (after ≡ before)) ⊎ ((call ≡ Run) × (meant ≡ false) × ((ran : Ran) × AnsweredBy ran answered × RunCounted ran before after))

-- The case is counted once, whatever came of it: as one of its call, in its group.
pub record CaseCounted (call : Call) (meant : Bool) (before after : Tally) : Type 0 where
  pub answered : Answered
  pub between : Tally
  pub finding : FindingCounted call meant answered before between
  pub counted : counts after ≡ counted_of (call_number call) meant answered.equal (unwrap_or answered.refused 0) (counts between)
