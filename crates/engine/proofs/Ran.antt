-- The run: from what each of its steps ensures to its definition. Assumes nothing.
use Prim.Native.Nat.{ℕ, ◌-◌}
use mathlib.Core.Path.{◌≡◌, ap, ◌∙◌}
use mathlib.Core.Bool.{Bool, cond}
use mathlib.Core.List.{List}
use lib.ListN.{length}
use lib.Ieee.{Float}
use Rattle.float.specs.Ops.{◌⊘◌}
use Rattle.row.specs.Window.{window_of, samples}
use Rattle.lists.specs.Records.{handed}
use Rattle.elements.specs.Element.{ELEMENT, elements_in, handed_elements}
use Rattle.elements.proofs.Records.{elements_read}
use Rattle.fits.specs.declared.estimate.Estimate.{Estimate}
use Rattle.fits.specs.List.{FIT, fits_in, handed_fits}
use Rattle.fits.specs.Estimate.{refined, carrier_step, strong_elements, strong_fits, strong_estimate}
use Rattle.fits.proofs.Records.{fits_read}
use Rattle.synth.specs.Removal.{subtracted}
use Rattle.measure.specs.declared.both.Measures.{Measures}
use Rattle.measure.specs.declared.hypothesis.Hypothesis.{Hypothesis}
use Rattle.measure.specs.Both.{measures_of}
use Rattle.measure.specs.Hypothesis.{hypothesis_of}
use Rattle.engine.specs.declared.run.RunFigures.{RunFigures}
use Rattle.engine.specs.Run.{takes, run_evidence, run_residual, run_taken, run_figures, run_buffer}
use Rattle.engine.proofs.Counts.{skipped_is}

-- the estimate and the word of what was found out
module _ (iq : List Float) (fs hint : Float) (f : RunFigures) (q : f ≡ run_figures iq fs hint) where
  pub its_estimate : f.estimate ≡ strong_estimate iq fs hint
  unfolding run_figures
  its_estimate = ap (λ (g : RunFigures). g.estimate) q

  pub its_word : f.taken ≡ run_taken iq fs hint
  unfolding run_figures
  its_word = ap (λ (g : RunFigures). g.taken) q

module _ (iq : List Float) (fs hint : Float) (e : Estimate) (q : e ≡ strong_estimate iq fs hint) (els l fits k : List Float)
    (p : handed_elements els e.found.listed ≡ handed ELEMENT (strong_elements iq fs hint) l)
    (g : handed_fits fits e.fitted ≡ handed FIT (strong_fits iq fs hint) k) where
  -- the fits that the list holds
  fits_are : fits_in fits e.fitted ≡ strong_fits iq fs hint
  fits_are = fits_read fits k e.fitted (strong_fits iq fs hint) g

  carrier_is : e.carrier_hz ≡ refined iq fs hint
  unfolding strong_estimate
  carrier_is = rw q

  step_is : e.carrier_step_hz ≡ carrier_step iq fs hint
  unfolding strong_estimate
  step_is = rw q

  fitted_is : e.fitted ≡ length (strong_fits iq fs hint)
  unfolding strong_estimate
  fitted_is = rw q

  -- both measures, at the estimate that the lists hold
  measures_of_lem : (m : Measures) → m ≡ measures_of iq fs e.carrier_hz (fits_in fits e.fitted) (elements_in els e.found.listed)
      → m ≡ measures_of iq fs (refined iq fs hint) (strong_fits iq fs hint) (strong_elements iq fs hint)
  measures_of_lem m h = h ∙ rw (fits_are, elements_read els l e.found.listed (strong_elements iq fs hint) p, carrier_is)

  -- what it finds out
  pub found_out : (n window : ℕ) (m : Measures) (h : Hypothesis) (taken : Bool) → n ≡ samples iq → window ≡ window_of fs
      → m ≡ measures_of iq fs e.carrier_hz (fits_in fits e.fitted) (elements_in els e.found.listed)
      → h ≡ hypothesis_of m.evidence → taken ≡ takes h e.fitted e.carrier_step_hz m.residual
      → ◌≡◌ {A = RunFigures}
      (record {
        samples = n;
        window = window;
        estimate = e;
        skipped = e.found.listed - e.fitted;
        blocks = m.blocks;
        classes = m.classes;
        residual = m.residual;
        evidence = m.evidence;
        hypothesis = h;
        taken = taken;
      })
      (run_figures iq fs hint)
  unfolding measures_of run_taken run_figures
  found_out n window m h taken i s made told says =
      let all = measures_of_lem m made in
      let residual : m.residual ≡ run_residual iq fs hint = ap (λ (x : Measures). x.residual) all in
      let evidence : m.evidence ≡ run_evidence iq fs hint = ap (λ (x : Measures). x.evidence) all in
      let hypothesis : h ≡ hypothesis_of (run_evidence iq fs hint) = told ∙ ap hypothesis_of evidence in
      let taking : taken ≡ run_taken iq fs hint = says ∙ rw (hypothesis, fitted_is, step_is, residual) in
      rw (i, s, skipped_is iq fs hint e q, q, all, hypothesis, taking)

  -- how it ends
  pub ended : (taken : Bool) (buf : List Float) → taken ≡ run_taken iq fs hint
      → buf ≡ cond taken (subtracted fs (e.carrier_hz ⊘ fs) iq (fits_in fits e.fitted)) iq → buf ≡ run_buffer iq fs hint
  unfolding run_buffer
  ended taken buf taking left = left ∙ rw (taking, carrier_is, fits_are)
