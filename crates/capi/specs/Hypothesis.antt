-- What cancel_classify returns and leaves in what it was lent (include/cancel.h). Definitions only.
use Rattle.std.specs.Prelude.{ℕ, List, Float}
use Rattle.measure.specs.Hypothesis.{hypothesis_of}
use Rattle.questions.specs.Answers.{Outcome, accepted, by_number}
use Rattle.figures.specs.Hypothesis.{hypothesis_figures, given_offset}

-- ---- cancel_classify

-- of the number that is returned, with the figures that then stand
abbrev pub classify_called : ℕ → List Float → Outcome (List Float) (List Float)
classify_called n figures = by_number n figures figures

-- It refuses nothing. Of gap_blocks, hot_fraction, whether the offset is present, offset_hz and coherence.
unfoldable pub classify_call : ℕ → Float → ℕ → Float → Float → Outcome (List Float) (List Float)
classify_call gap_blocks hot present hz coherence =
    accepted
    (hypothesis_figures
    (hypothesis_of (record { gap_blocks = gap_blocks; hot_fraction = hot; offset_hz = given_offset present hz; coherence = coherence })))
