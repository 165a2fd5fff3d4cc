-- The figures of a hypothesis: its number and its offset (include/cancel.h). Definitions only.
use Rattle.std.specs.Prelude.{ℕ, zero, suc, List, [], ◌∷◌, Float, Some, None}
use Rattle.std.specs.declared.option.Option.{Option}
use Rattle.float.specs.Ops.{of}
use Rattle.measure.specs.declared.hypothesis.Hypothesis.{Hypothesis}
use Rattle.measure.specs.declared.hypothesis.Hypothesis.TheVariants.{OneSignal, TwoSignalCw, NonCw, Unresolved}
use Rattle.figures.specs.declared.hypothesis.HypothesisCase.{HypothesisCase}

-- The number of each hypothesis, in the order in which 01, part 7, names them, and the offset of TwoSignalCw; the
-- others have the offset 0. Every call that answers a hypothesis answers these two.
abbrev pub case_of : Hypothesis → HypothesisCase
case_of OneSignal = record { number = of 0; offset_hz = of 0 }
case_of (TwoSignalCw f) = record { number = of 1; offset_hz = f }
case_of NonCw = record { number = of 2; offset_hz = of 0 }
case_of Unresolved = record { number = of 3; offset_hz = of 0 }

-- hypothesis, its offset
abbrev pub hypothesis_figures : Hypothesis → List Float
hypothesis_figures h = (case_of h).number ∷ (case_of h).offset_hz ∷ []

-- an offset that is given as two numbers: 0 says absent, anything else present
abbrev pub given_offset : ℕ → Float → Option Float
given_offset zero f = None
given_offset (suc n) f = Some f
