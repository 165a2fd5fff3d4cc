-- The figures of each call are as many as its constant says, and each group of them starts where it says. Assumes
-- nothing.
use Prim.Native.Nat.{ℕ}
use mathlib.Core.Path.{◌≡◌, refl}
use mathlib.Core.Bool.{Bool}
use lib.ListN.{length, get_or, take, drop}
use lib.Ieee.{nan}
use Rattle.float.specs.Ops.{of}
use Rattle.elements.specs.declared.amplitude.AmplitudeRow.{AmplitudeRow}
use Rattle.elements.specs.declared.keying.Found.{Found}
use Rattle.fits.specs.declared.estimate.Estimate.{Estimate}
use Rattle.given.specs.declared.blocks.BlockClasses.{BlockClasses}
use Rattle.measure.specs.declared.residual.ResidualCheck.{ResidualCheck}
use Rattle.measure.specs.declared.evidence.SecondCarrierEvidence.{SecondCarrierEvidence}
use Rattle.measure.specs.declared.hypothesis.Hypothesis.{Hypothesis}
use Rattle.engine.specs.declared.run.RunFigures.{RunFigures}
use Rattle.figures.specs.Calls.{found_figures, fitted_figures, estimate_figures}
use Rattle.figures.specs.Clean.{clean_figures}
use Rattle.figures.specs.Flag.{flag_of}
use Rattle.figures.specs.Hypothesis.{hypothesis_figures}
use Rattle.figures.specs.Measures.{residual_figures, evidence_figures}
use Rattle.figures.specs.Places.{ROW_FIGURES, FIND_FIGURES, FIT_FIGURES, ESTIMATE_FIGURES, CLASSES_FIGURES, RESIDUAL_FIGURES, EVIDENCE_FIGURES, CLASSIFY_FIGURES, CLEAN_FIGURES, RUN_FIGURES, CHECK_FIGURES, ESTIMATE_COUNTS, RUN_KEY_DOWNS, RUN_BLOCKS, RUN_CARRIER, RUN_RESIDUAL, RUN_EVIDENCE, RUN_HYPOTHESIS, RUN_TAKEN}
use Rattle.figures.specs.Rows.{row_figures, classes_figures}
use Rattle.figures.specs.Running.{ran_figures}

-- ---- how many there are
pub row_figures_lem : (r : AmplitudeRow) → length (row_figures r) ≡ ROW_FIGURES
row_figures_lem r = refl

pub find_figures : (f : Found) → length (found_figures f) ≡ FIND_FIGURES
find_figures f = refl

pub fit_figures : (n : ℕ) → length (fitted_figures n) ≡ FIT_FIGURES
fit_figures n = refl

pub estimate_figures_lem : (e : Estimate) → length (estimate_figures e) ≡ ESTIMATE_FIGURES
estimate_figures_lem e = refl

pub classes_figures_lem : (b : BlockClasses) → length (classes_figures b) ≡ CLASSES_FIGURES
classes_figures_lem b = refl

pub residual_figures_lem : (r : ResidualCheck) → length (residual_figures r) ≡ RESIDUAL_FIGURES
residual_figures_lem r = refl

pub evidence_figures_lem : (e : SecondCarrierEvidence) → length (evidence_figures e) ≡ EVIDENCE_FIGURES
evidence_figures_lem e = refl

pub classify_figures : (h : Hypothesis) → length (hypothesis_figures h) ≡ CLASSIFY_FIGURES
classify_figures h = refl

pub clean_figures_lem : (c : Bool) → length (clean_figures c) ≡ CLEAN_FIGURES
clean_figures_lem c = refl

pub run_figures_lem : (f : RunFigures) → length (ran_figures f) ≡ RUN_FIGURES
run_figures_lem f = refl

-- a check that is given is what residual_check answers first
pub check_figures : (r : ResidualCheck) → length (take CHECK_FIGURES (residual_figures r)) ≡ CHECK_FIGURES
check_figures r = refl

-- ---- where the groups start
pub estimate_found : (e : Estimate) → take FIND_FIGURES (drop ESTIMATE_COUNTS (estimate_figures e)) ≡ found_figures e.found
estimate_found e = refl

module _ (f : RunFigures) where
  pub run_key_downs : get_or (ran_figures f) RUN_KEY_DOWNS nan ≡ of f.estimate.found.key_downs
  run_key_downs = refl

  pub run_blocks : get_or (ran_figures f) RUN_BLOCKS nan ≡ of f.blocks
  run_blocks = refl

  pub run_carrier : get_or (ran_figures f) RUN_CARRIER nan ≡ f.estimate.carrier_hz
  run_carrier = refl

  pub run_residual_lem : take RESIDUAL_FIGURES (drop RUN_RESIDUAL (ran_figures f)) ≡ residual_figures f.residual
  run_residual_lem = refl

  pub run_evidence_lem : take EVIDENCE_FIGURES (drop RUN_EVIDENCE (ran_figures f)) ≡ evidence_figures f.evidence
  run_evidence_lem = refl

  pub run_hypothesis : take CLASSIFY_FIGURES (drop RUN_HYPOTHESIS (ran_figures f)) ≡ hypothesis_figures f.hypothesis
  run_hypothesis = refl

  pub run_taken_lem : get_or (ran_figures f) RUN_TAKEN nan ≡ flag_of f.taken
  run_taken_lem = refl
