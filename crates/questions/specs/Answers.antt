-- What a call answers, and what it leaves in what it was lent (01, the end of "Questions"). Definitions only.
use Rattle.std.specs.Prelude.{ℕ, zero, suc, List, Result, Ok, Err}
use Rattle.questions.specs.declared.refusals.Refusal.{Refusal}
use Rattle.questions.specs.Refusals.{number_of}
use Rattle.questions.specs.Questions.{Asked, first_no}

-- An accepted call has its result, of type A: its values, and what each list that it fills hands out. Two things are
-- free, the work slice and list places past the count; of both the result has the length.
-- A refused call has its number, which is not 0, and what every lent slice then holds, of type L: slices of any kind of
-- number, side by side.
pub data Outcome (L A : Type 0) : Type 0 where
  accepted : A → Outcome L A
  refused : ℕ → L → Outcome L A

-- of what a call answers, with what every lent slice then holds: its result, or its refusal's number
abbrev pub outcome_of : {T L A : Type 0} → Result T Refusal → (T → A) → L → Outcome L A
outcome_of (Ok x) result lent = accepted (result x)
outcome_of (Err r) result lent = refused (number_of r) lent

-- By the number of the first no: 0 accepts, with the result; any other refuses, with the lent slices. A refusal returns
-- nothing further and writes nothing.
unfoldable pub by_number : {L A : Type 0} → ℕ → A → L → Outcome L A
by_number zero result lent = accepted result
by_number (suc n) result lent = refused (suc n) lent

-- What every call that asks first promises, by its questions, its result and what it was lent: the first no is the
-- result, and nothing is written; where every answer is yes, its result.
abbrev pub by_questions : {L A : Type 0} → List Asked → A → L → Outcome L A
by_questions qs result lent = by_number (first_no qs) result lent
