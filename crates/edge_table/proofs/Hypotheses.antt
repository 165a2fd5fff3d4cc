-- The rows of 01's edge table that speak of hypotheses, computed from the definition. Assumes nothing.
use Rattle.std.proofs.Common.{Some}
use Rattle.std.specs.declared.option.Option.{Option}
use Prim.Native.Nat.{ℕ}
use mathlib.Core.Path.{◌≡◌, refl}
use lib.Ieee.{Float, neg, lt, le, eq, round, of_int}
use Rattle.float.specs.Ops.{of, fraction}
use Rattle.float.specs.Compare.{abs_of}
use Rattle.constants.specs.Constants.{ONE_SIGNAL_MAX_HOT, NON_CW_MIN_HOT, MIN_COHERENCE, MIN_OFFSET_HZ, MAX_OFFSET_HZ}
use Rattle.measure.specs.declared.hypothesis.Hypothesis.TheVariants.{OneSignal, TwoSignalCw, Unresolved}
use Rattle.measure.specs.Hypothesis.{is_neighbour, hypothesis_between, hypothesis_of}
use Rattle.edge_table.specs.Table.{evidence}

module _ (gaps : ℕ) where
  pub two_signals : (hypothesis_of (evidence gaps (fraction 15 100) (Some (of 10)) (fraction 8 10)) ≡ TwoSignalCw (of 10))
      × (hypothesis_of (evidence gaps (fraction 15 100) (Some (neg (of 150))) (fraction 8 10)) ≡ TwoSignalCw (neg (of 150)))
      × (hypothesis_of (evidence gaps (fraction 75 100) (Some (of 10)) (fraction 8 10)) ≡ TwoSignalCw (of 10))
      × (hypothesis_of (evidence gaps (fraction 75 100) (Some (neg (of 150))) (fraction 8 10)) ≡ TwoSignalCw (neg (of 150)))
  unfolding hypothesis_of hypothesis_between is_neighbour ONE_SIGNAL_MAX_HOT NON_CW_MIN_HOT MIN_COHERENCE MIN_OFFSET_HZ MAX_OFFSET_HZ fraction round of_int neg abs_of lt le eq
  two_signals = (refl, refl, refl, refl)

  pub one_signal : (offset : Option Float) (coherence : Float) → hypothesis_of (evidence gaps (fraction 14 100) offset coherence) ≡ OneSignal
  unfolding hypothesis_of ONE_SIGNAL_MAX_HOT fraction round lt
  one_signal offset coherence = refl

  pub unresolved : (hypothesis_of (evidence gaps (fraction 15 100) (Some (of 9)) (fraction 8 10)) ≡ Unresolved)
      × (hypothesis_of (evidence gaps (fraction 75 100) (Some (of 9)) (fraction 8 10)) ≡ Unresolved)
  unfolding hypothesis_of hypothesis_between is_neighbour ONE_SIGNAL_MAX_HOT NON_CW_MIN_HOT MIN_COHERENCE MIN_OFFSET_HZ MAX_OFFSET_HZ fraction round of_int neg abs_of lt le eq
  unresolved = (refl, refl)
