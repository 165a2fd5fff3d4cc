-- The counts of a run among the figures that a caller from C reads: each is exact, and the three balances hold of the
-- whole numbers that C's conversion gives (the user's third demand). Assumes nothing.
use Prim.Native.Nat.{◌+◌}
use native.Mathlib.Omega.{arith}
use mathlib.Core.Path.{◌≡◌, sym, subst}
use mathlib.Core.List.{List}
use lib.Ieee.{Float}
use Rattle.row.specs.Samples.{Iq}
use Rattle.row.specs.Window.{Rate, window_of}
use Rattle.row.proofs.Means.{blocks_short}
use Rattle.row.proofs.Steps.{step_high}
use Rattle.fits.specs.Estimate.{refined, strong_elements, strong_fits, strong_estimate}
use Rattle.engine.specs.declared.run.RunFigures.{RunFigures}
use Rattle.engine.specs.Run.{run_figures}
use Rattle.std.specs.Prelude.{Ok}
use Rattle.cancel.specs.Running.{run_outcome, run_rule}
use Rattle.cancel.proofs.RunOfBuffer as ran
use Rattle.cancel.proofs.RunPromises.{iq_ok, rate_ok_lem}
use Rattle.figures.specs.Running.{ran_figures}
use Rattle.figures.specs.Places.{RESIDUAL_COUNTS, RUN_KEY_DOWNS, RUN_LISTED, RUN_SHORT, RUN_FITTED, RUN_SKIPPED, RUN_BLOCKS, RUN_EDGE, RUN_INTERIOR, RUN_GAP, RUN_OTHER, RUN_RESIDUAL}
use Rattle.capi.specs.Counts.{Counts, whole, first_counts, measured_counts}
use Rattle.capi.specs.Running.{run_called, run_call}
use Rattle.capi.proofs.Counts.{count_exact, estimate_counts, residual_counts, evidence_counts}
use Rattle.capi.proofs.RunForC.{run_for_c}

module _ (buf : List Float) (fs hint : Float) (q : Iq buf) (r : Rate fs) where
  abbrev f : RunFigures
  f = run_figures buf fs hint

  pub run_counts : Counts (ran_figures f) 0 (first_counts f) × Counts (ran_figures f) (RUN_RESIDUAL + RESIDUAL_COUNTS) (measured_counts f)
  unfolding run_figures
  run_counts =
      let e = estimate_counts buf fs q r hint in
      let listed = e.1.0.below in
      let fitted = ran.listed_balance buf fs hint in
      let step = step_high fs r in
      let short = blocks_short buf (window_of fs) q.short in
      let all = ran.blocks_balance buf fs hint in
      let residual = residual_counts buf fs q r (refined buf fs hint) (strong_fits buf fs hint) (strong_elements buf fs hint) in
      let evidence = evidence_counts buf fs q r (refined buf fs hint) (strong_fits buf fs hint) (strong_elements buf fs hint) in
      let small = q.short in
      let first = count_exact f.samples (omega arith) in
      let window = count_exact f.window (omega arith) in
      let skipped = count_exact f.skipped (omega arith) in
      let all_blocks = count_exact f.blocks (omega arith) in
      let edge = count_exact f.classes.edge (omega arith) in
      let interior = count_exact f.classes.interior (omega arith) in
      let gap = count_exact f.classes.gap (omega arith) in
      let other = count_exact f.classes.other (omega arith) in (
        (first, (window, (e.0, (e.1.0, (e.1.1.0, (e.1.1.1.1.0, (skipped, (e.1.1.1.0, (all_blocks, (edge, (interior, (gap, (other, tt))))))))))))),
        (residual.0, (residual.1.0, (residual.1.1.0, (evidence.0, tt)))),
      )

-- `promise` is what `cancel_run` ensures where it returns 0
module _ (buf : List Float) (fs hint : Float) (elements fits work figures-before buffer-after elements-after fits_after work-after figures : List Float)
    (promise : run_called 0 (strong_estimate buf fs hint) buffer-after elements-after fits_after work-after figures ≡ run_call buf fs hint elements fits work figures-before) where
  done : (figures ≡ ran_figures (run_figures buf fs hint)) × (run_outcome (Ok (run_figures buf fs hint)) buffer-after elements-after fits_after work-after ≡ run_rule buf fs hint elements fits work)
  done = run_for_c buf fs hint elements fits work figures-before buffer-after elements-after fits_after work-after figures promise

  -- Each count among the figures is the run's, exactly: those that `RunPromises` speaks of.
  pub c_counts : Counts figures 0 (first_counts (run_figures buf fs hint)) × Counts figures (RUN_RESIDUAL + RESIDUAL_COUNTS) (measured_counts (run_figures buf fs hint))
  c_counts =
      subst (λ (l : List Float). Counts l 0 (first_counts (run_figures buf fs hint)) × Counts l (RUN_RESIDUAL + RESIDUAL_COUNTS) (measured_counts (run_figures buf fs hint))) (sym done.0)
      (run_counts buf fs hint (iq_ok buf fs hint elements fits work (run_figures buf fs hint) buffer-after elements-after fits_after work-after done.1) (rate_ok_lem buf fs hint elements fits work (run_figures buf fs hint) buffer-after elements-after fits_after work-after done.1))

  -- The three balances, of the whole numbers that C reads.
  pub c_key_downs_balance : whole figures RUN_KEY_DOWNS ≡ whole figures RUN_LISTED + whole figures RUN_SHORT
  c_key_downs_balance =
      let from = c_counts.0.1.1 in rw (from.0.back, from.1.0.back, from.1.1.0.back) (ran.key_downs_balance buf fs hint)

  pub c_listed_balance : whole figures RUN_LISTED ≡ whole figures RUN_FITTED + whole figures RUN_SKIPPED
  c_listed_balance =
      let from = c_counts.0.1.1.1 in rw (from.0.back, from.1.1.0.back, from.1.1.1.0.back) (ran.listed_balance buf fs hint)

  pub c_blocks_balance : whole figures RUN_BLOCKS ≡ whole figures RUN_EDGE + whole figures RUN_INTERIOR + whole figures RUN_GAP + whole figures RUN_OTHER
  c_blocks_balance =
      let from = c_counts.0.1.1.1.1.1.1.1.1 in
      rw (from.0.back, from.1.0.back, from.1.1.0.back, from.1.1.1.0.back, from.1.1.1.1.0.back) (ran.blocks_balance buf fs hint)
