-- The hypothesis (01, part 7: `classify` answers OneSignal, TwoSignalCw with its offset, NonCw or Unresolved). It
-- refuses nothing, NaN included. Definitions only.
use Rattle.std.specs.Prelude.{Bool, ◌&&◌, cond, Float, Some, None}
use Rattle.std.specs.declared.option.Option.{Option}
use Rattle.std.specs.Float.Ieee.{lt, le}
use Rattle.float.specs.Compare.{abs_of}
use Rattle.constants.specs.Constants.{ONE_SIGNAL_MAX_HOT, NON_CW_MIN_HOT, MIN_COHERENCE, MIN_OFFSET_HZ, MAX_OFFSET_HZ}
use Rattle.measure.specs.declared.evidence.SecondCarrierEvidence.{SecondCarrierEvidence}
use Rattle.measure.specs.declared.hypothesis.Hypothesis.{Hypothesis}
use Rattle.measure.specs.declared.hypothesis.Hypothesis.TheVariants.{OneSignal, TwoSignalCw, NonCw, Unresolved}

-- coherence ≥ MIN_COHERENCE and MIN_OFFSET_HZ ≤ |offset| ≤ MAX_OFFSET_HZ
unfoldable pub is_neighbour : Float → Float → Bool
is_neighbour offset coherence = le MIN_COHERENCE coherence && le MIN_OFFSET_HZ (abs_of offset) && le (abs_of offset) MAX_OFFSET_HZ

-- a coherent offset is a keyed neighbour, anything else is unresolved
unfoldable pub hypothesis_between : Option Float → Float → Hypothesis
hypothesis_between (Some f) coherence = cond (is_neighbour f coherence) (TwoSignalCw f) Unresolved
hypothesis_between None coherence = Unresolved

-- OneSignal below ONE_SIGNAL_MAX_HOT, NonCw above NON_CW_MIN_HOT, between them by the offset
unfoldable pub hypothesis_of : SecondCarrierEvidence → Hypothesis
hypothesis_of e =
    cond (lt e.hot_fraction ONE_SIGNAL_MAX_HOT) OneSignal
    (cond (lt NON_CW_MIN_HOT e.hot_fraction) NonCw (hypothesis_between e.offset_hz e.coherence))
