-- The run (01, part 7): estimate, residual, evidence, hypothesis; then it subtracts and says taken exactly when the
-- hypothesis is TwoSignalCw, fits ≥ MIN_ELEMENTS, |carrier step| ≤ MAX_CARRIER_STEP_HZ and `clean` holds. Otherwise
-- kept. Definitions only.
use Rattle.std.specs.Prelude.{ℕ, Bool, true, false, ◌&&◌, cond, List, leb, length, Float}
use Rattle.std.specs.Float.Ieee.{le}
use Rattle.float.specs.Ops.{◌⊘◌}
use Rattle.float.specs.Compare.{abs_of}
use Rattle.constants.specs.Constants.{MIN_ELEMENTS, MAX_CARRIER_STEP_HZ}
use Rattle.row.specs.Window.{samples, window_of}
use Rattle.fits.specs.List.{skipped_of}
use Rattle.fits.specs.Estimate.{carrier_step, refined, strong_elements, strong_fits, strong_estimate}
use Rattle.classes.specs.declared.class.BlockClass.{BlockClass}
use Rattle.classes.specs.Classify.{blocks_of, class_of, counts_of}
use Rattle.synth.specs.Removal.{subtracted}
use Rattle.measure.specs.declared.residual.ResidualCheck.{ResidualCheck}
use Rattle.measure.specs.declared.evidence.SecondCarrierEvidence.{SecondCarrierEvidence}
use Rattle.measure.specs.declared.hypothesis.Hypothesis.{Hypothesis}
use Rattle.measure.specs.declared.hypothesis.Hypothesis.TheVariants.{OneSignal, TwoSignalCw, NonCw, Unresolved}
use Rattle.measure.specs.Residual.{residual_check_of, clean_of}
use Rattle.measure.specs.Evidence.{evidence_check_of}
use Rattle.measure.specs.Hypothesis.{hypothesis_of}
use Rattle.engine.specs.declared.run.RunFigures.{RunFigures}

-- whether a hypothesis is TwoSignalCw
abbrev pub is_two : Hypothesis → Bool
is_two OneSignal = false
is_two (TwoSignalCw f) = true
is_two NonCw = false
is_two Unresolved = false

-- taken exactly when all four hold
unfoldable pub takes : Hypothesis → ℕ → Float → ResidualCheck → Bool
takes h fitted step r = is_two h && leb MIN_ELEMENTS fitted && le (abs_of step) MAX_CARRIER_STEP_HZ && clean_of r

module _ (iq : List Float) (fs hint : Float) where
  -- the class of each block, by the elements and fits of the second pass
  abbrev pub run_class : ℕ → BlockClass
  run_class = class_of fs (samples iq) (strong_fits iq fs hint) (strong_elements iq fs hint)

  abbrev pub run_residual : ResidualCheck
  run_residual = residual_check_of iq fs (refined iq fs hint) (strong_fits iq fs hint) (strong_elements iq fs hint)

  abbrev pub run_evidence : SecondCarrierEvidence
  run_evidence = evidence_check_of iq fs (refined iq fs hint) (strong_fits iq fs hint) (strong_elements iq fs hint)

  unfoldable pub run_taken : Bool
  run_taken = takes (hypothesis_of run_evidence) (length (strong_fits iq fs hint)) (carrier_step iq fs hint) run_residual

  -- every figure, and whether the strong sender was taken off
  unfoldable pub run_figures : RunFigures
  run_figures =
      record {
        samples = samples iq;
        window = window_of fs;
        estimate = strong_estimate iq fs hint;
        skipped = length (skipped_of iq fs (refined iq fs hint) (strong_elements iq fs hint));
        blocks = blocks_of fs (samples iq);
        classes = counts_of run_class (blocks_of fs (samples iq));
        residual = run_residual;
        evidence = run_evidence;
        hypothesis = hypothesis_of run_evidence;
        taken = run_taken;
      }

  -- what the buffer holds afterwards
  unfoldable pub run_buffer : List Float
  run_buffer = cond run_taken (subtracted fs (refined iq fs hint ⊘ fs) iq (strong_fits iq fs hint)) iq
