-- `subtract`, open to callers (01, part 7, with questions 1, 2, 3 and 7), of a given estimate. Definitions only.
use Rattle.std.specs.Prelude.{ℕ, List, [], ◌∷◌, ◌++◌, Float, ⊤, Result}
use Rattle.float.specs.Ops.{◌⊘◌}
use Rattle.fits.specs.List.{fits_in}
use Rattle.synth.specs.Removal.{subtracted}
use Rattle.questions.specs.declared.refusals.Refusal.{Refusal}
use Rattle.questions.specs.Answers.{Outcome, outcome_of, by_questions}
use Rattle.questions.specs.Refusals.{REFUSED_GIVEN}
use Rattle.questions.specs.Questions.{Asked, ask, recording_questions, estimate_ok}

-- It asks 1, 2, 3 and 7: of the buffer and the given estimate.
abbrev pub subtract_questions : List Float → Float → Float → Float → List Float → ℕ → List Float → ℕ → List Asked
subtract_questions buf fs hz step elements element_count fits fit_count =
    recording_questions buf fs ++ (ask REFUSED_GIVEN (estimate_ok hz step elements element_count fits fit_count) ∷ [])

-- the number of a refusal, and what the lent buffer then holds
abbrev pub subtract_outcome : Result ⊤ Refusal → List Float → Outcome (List Float) (List Float)
subtract_outcome a buf = outcome_of a (λ u. buf) buf

-- The first no is the result, and nothing is written; else the buffer holds what the fits, in order, leave of it. The
-- carrier step and the elements are asked about and have no part in it.
unfoldable pub subtract_rule : List Float → Float → Float → Float → List Float → ℕ → List Float → ℕ → Outcome (List Float) (List Float)
subtract_rule buf fs hz step elements element_count fits fit_count =
    by_questions (subtract_questions buf fs hz step elements element_count fits fit_count) (subtracted fs (hz ⊘ fs) buf (fits_in fits fit_count))
    buf
