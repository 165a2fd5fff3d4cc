-- What cancel_subtract returns and leaves in the buffer (include/cancel.h). Definitions only.
use Rattle.std.specs.Prelude.{ℕ, List, Float}
use Rattle.questions.specs.Answers.{Outcome, by_number}

-- of the number that is returned, 0 for an accepted call, with what the buffer then holds; there are no figures
abbrev pub subtract_called : ℕ → List Float → Outcome (List Float) (List Float)
subtract_called n buf = by_number n buf buf
