-- What cancel_clean returns and leaves in what it was lent (include/cancel.h). Definitions only.
use Rattle.std.specs.Prelude.{ℕ, List, Float}
use Rattle.measure.specs.Residual.{clean_of}
use Rattle.questions.specs.Answers.{Outcome, accepted, by_number}
use Rattle.figures.specs.Clean.{given_check, clean_figures}

-- of the number that is returned, with the figure that then stands
abbrev pub clean_called : ℕ → List Float → Outcome (List Float) (List Float)
clean_called n figures = by_number n figures figures

-- It refuses nothing, NaN included. Of the five figures of a residual check.
unfoldable pub clean_call : List Float → Outcome (List Float) (List Float)
clean_call check = accepted (clean_figures (clean_of (given_check check)))
