-- What every accepted run answers and leaves in what it was lent (the user's third demand): the final estimate, the
-- balances, each figure from the lists that it hands out, the list, the word kept or taken with the buffer, and what
-- two runs share. Each is `RunOfBuffer`'s law at the buffer as it was lent. `promise` and `singles` are what
-- `cancel::run` ensures where it answers `Ok`; `singles` says that each number that the buffer held is an f32.
-- Nothing else is asked of a caller. Assumes nothing.
use Rattle.std.proofs.Common.{Some, None}
use Prim.Native.Nat.{ℕ, ◌+◌, ◌-◌, ◌<◌}
use mathlib.Core.Path.{◌≡◌, sym, ap, ◌∙◌}
use mathlib.Core.Logic.{◌≢◌}
use mathlib.Core.Bool.{true, false, not}
use mathlib.Core.List.{List, [], map, Memᴰ}
use lib.ListN.{length, get_or}
use lib.Ieee.{Float, nan}
use Rattle.float.specs.Ops.{◌⊘◌}
use Rattle.lists.specs.Those.{those, picked}
use Rattle.complex.specs.Rows.{z_at}
use Rattle.row.specs.Samples.{Singles, Iq}
use Rattle.row.specs.Window.{Rate, step_of, window_of, samples, blocks}
use Rattle.row.specs.Blocks.{block_mean}
use Rattle.row.specs.Envelope.{row_of, row_length}
use Rattle.elements.specs.declared.element.KeyedElement.{KeyedElement}
use Rattle.elements.specs.Element.{elements_in}
use Rattle.elements.specs.Keying.{LongKeyDowns, RowCounts, no_key_downs}
use Rattle.elements.specs.Find.{threshold_of, found_of}
use Rattle.elements.specs.Times.{Placed, InTime}
use Rattle.elements.proofs.Records.{elements_read}
use Rattle.fits.specs.declared.fit.ElementFit.{ElementFit}
use Rattle.fits.specs.Fit.{fit_of}
use Rattle.fits.specs.List.{fits_in, is_skipped, skipped_of}
use Rattle.fits.specs.Estimate.{refined, carrier_step, strong_elements, strong_fits}
use Rattle.fits.proofs.Records.{fits_read}
use Rattle.synth.specs.Span.{span_of, covers}
use Rattle.synth.specs.Removal.{subtracted}
use Rattle.synth.specs.RustFields.{rust_of}
use Rattle.classes.specs.declared.class.BlockClass.{BlockClass}
use Rattle.classes.specs.declared.class.BlockClass.TheVariants.{Interior, Gap, Other}
use Rattle.classes.specs.Classify.{times_of, class_of, counts_of}
use Rattle.prepared.specs.Powers.{block_power, powers_of}
use Rattle.prepared.specs.Left.{residual_mean}
use Rattle.gaps.specs.Reference.{mean_at, side_of}
use Rattle.measure.specs.Residual.{residual_check_of}
use Rattle.measure.specs.Evidence.{is_in, evidence_check_of}
use Rattle.measure.specs.Hypothesis.{hypothesis_of}
use Rattle.measure.specs.Agree.{AgreeIn}
use Rattle.engine.specs.declared.run.RunFigures.{RunFigures}
use Rattle.engine.specs.Run.{takes, run_figures, run_buffer}
use Rattle.std.specs.Prelude.{Ok}
use Rattle.cancel.specs.Running.{run_outcome, run_rule}
use Rattle.strong.proofs.EstimateAccepted.{estimate_accepted}
use Rattle.cancel.proofs.RunAccepted.{run_done}
use Rattle.measure.proofs.Bounds.{Plain}
use Rattle.cancel.proofs.RunOfBuffer as ran

module _ (buf : List Float) (fs hint : Float) (elements fits work : List Float) (f : RunFigures) (buffer-after elements-after fits_after work-after : List Float)
    (promise : run_outcome (Ok f) buffer-after elements-after fits_after work-after ≡ run_rule buf fs hint elements fits work) where
  -- the elements and the fits handed out
  abbrev elements_out : List KeyedElement
  elements_out = elements_in elements-after f.estimate.found.listed

  abbrev fits_out : List ElementFit
  fits_out = fits_in fits_after f.estimate.fitted

  -- the powers that the residual check ranks, of the blocks of a class
  abbrev ranked : BlockClass → List Float
  ranked c =
      powers_of c (class_of fs (samples buf) fits_out elements_out) (residual_mean fs (blocks buf (window_of fs)) fits_out (block_mean buf (f.estimate.carrier_hz ⊘ fs) (window_of fs)))
      (blocks buf (window_of fs))

  -- those that the evidence ranks: of the gap blocks to both sides of the carrier, pooled, for the reference, and of
  -- the interior blocks at the carrier, for its floor
  abbrev side : List Float
  side = side_of (mean_at buf fs) f.estimate.carrier_hz (is_in Gap (class_of fs (samples buf) fits_out elements_out)) (blocks buf (window_of fs))

  abbrev inner : List Float
  inner = picked (is_in Interior (class_of fs (samples buf) fits_out elements_out)) (block_power (mean_at buf fs f.estimate.carrier_hz)) (blocks buf (window_of fs))

  figures_are : f ≡ run_figures buf fs hint
  figures_are = (run_done buf fs hint elements fits work _ promise).1

  buffer_is : buffer-after ≡ run_buffer buf fs hint
  buffer_is = (run_done buf fs hint elements fits work _ promise).2

  elements_out_are : elements_out ≡ strong_elements buf fs hint
  elements_out_are = elements_read elements-after elements _ _ (run_done buf fs hint elements fits work _ promise).3

  fits_out_are : fits_out ≡ strong_fits buf fs hint
  fits_out_are = fits_read fits_after fits _ _ (run_done buf fs hint elements fits work _ promise).4

  -- what the run goes on with is what `estimate_strong` goes on with, which asks the same
  pub iq_ok : Iq buf
  iq_ok = (estimate_accepted buf fs hint _ _ _ (run_done buf fs hint elements fits work _ promise).0).iq_ok

  pub rate_ok_lem : Rate fs
  rate_ok_lem = (estimate_accepted buf fs hint _ _ _ (run_done buf fs hint elements fits work _ promise).0).rate_ok_lem

  -- ---- The final estimate: the carrier is refined from the first pass, and the rest is the second pass at it.
  pub carrier_is : f.estimate.carrier_hz ≡ refined buf fs hint
  carrier_is = rw figures_are (ran.carrier_is buf fs hint)

  pub step_is : f.estimate.carrier_step_hz ≡ carrier_step buf fs hint
  step_is = rw figures_are (ran.step_is buf fs hint)

  -- key-downs, listed, short and airtime, as counted on the row at the final carrier
  pub found_is : f.estimate.found ≡ found_of buf fs f.estimate.carrier_hz
  found_is = rw figures_are (ran.found_is buf fs hint)

  -- the fits handed out are, in order, of those listed elements that are not skipped, and each is the fit of its
  -- element
  pub fits_of_listed : map (λ g. g.element) fits_out ≡ those (λ e. not (is_skipped (fit_of buf fs (f.estimate.carrier_hz ⊘ fs) e))) elements_out
  fits_of_listed = rw (fits_out_are, elements_out_are, figures_are) (ran.fits_of_listed buf fs hint)

  pub fits_each : (g : ElementFit) → Memᴰ g fits_out → fit_of buf fs (f.estimate.carrier_hz ⊘ fs) g.element ≡ Some g
  fits_each g m = rw figures_are (ran.fits_each buf fs hint g (rw fits_out_are at m))

  -- fitted is how many of the listed elements are not skipped
  pub fitted_counted : f.estimate.fitted ≡ length (those (λ e. not (is_skipped (fit_of buf fs (f.estimate.carrier_hz ⊘ fs) e))) elements_out)
  fitted_counted = rw (elements_out_are, figures_are) (ran.fitted_counted buf fs hint)

  pub skipped_is : f.skipped ≡ length (skipped_of buf fs f.estimate.carrier_hz elements_out)
  skipped_is = rw (elements_out_are, figures_are) (ran.skipped_is buf fs hint)

  pub samples_is : f.samples ≡ samples buf
  samples_is = rw figures_are (ran.samples_is buf fs hint)

  pub window_is : f.window ≡ window_of fs
  window_is = rw figures_are (ran.window_is buf fs hint)

  -- ---- The counts balance for every accepted run.
  pub key_downs_balance : f.estimate.found.key_downs ≡ f.estimate.found.listed + f.estimate.found.short
  key_downs_balance = rw figures_are (ran.key_downs_balance buf fs hint)

  pub listed_balance : f.estimate.found.listed ≡ f.estimate.fitted + f.skipped
  listed_balance = rw figures_are (ran.listed_balance buf fs hint)

  pub blocks_balance : f.blocks ≡ f.classes.edge + f.classes.interior + f.classes.gap + f.classes.other
  blocks_balance = rw figures_are (ran.blocks_balance buf fs hint)

  -- ---- Each figure is the one 01 defines, with the elements and fits that are handed out, those of the second pass.
  pub blocks_are : f.blocks ≡ blocks buf (window_of fs)
  blocks_are = rw figures_are (ran.blocks_are buf fs hint)

  pub classes_are : f.classes ≡ counts_of (class_of fs (samples buf) fits_out elements_out) f.blocks
  classes_are = rw (fits_out_are, elements_out_are, figures_are) (ran.classes_are buf fs hint)

  pub residual_is : f.residual ≡ residual_check_of buf fs f.estimate.carrier_hz fits_out elements_out
  residual_is = rw (fits_out_are, elements_out_are, figures_are) (ran.residual_is buf fs hint)

  pub evidence_is : f.evidence ≡ evidence_check_of buf fs f.estimate.carrier_hz fits_out elements_out
  evidence_is = rw (fits_out_are, elements_out_are, figures_are) (ran.evidence_is buf fs hint)

  pub hypothesis_is : f.hypothesis ≡ hypothesis_of f.evidence
  hypothesis_is = rw figures_are (ran.hypothesis_is buf fs hint)

  -- ---- Key-downs, listed and short, as counts, are how many of each the row at the final carrier has: there is a list
  -- that has each of its key-downs once, in order, and nothing else, and of it they are counted.
  module _ (singles : Singles buf) where
    pub counts_exactly : (thr : Float) → threshold_of buf fs f.estimate.carrier_hz ≡ Some thr
        → RowCounts (row_of buf fs f.estimate.carrier_hz) thr (row_length buf fs - 1) (step_of fs) fs f.estimate.found
    counts_exactly thr t = rw figures_are (ran.counts_exactly buf fs hint singles iq_ok thr (rw figures_are at t))

    -- The list holds the key-downs whose computed length is at least RISE_S × fs, each once, in order, nothing else.
    pub list_exactly : (thr : Float) → threshold_of buf fs f.estimate.carrier_hz ≡ Some thr
        → LongKeyDowns (row_of buf fs f.estimate.carrier_hz) thr (row_length buf fs - 1) (step_of fs) fs elements_out
    list_exactly thr t = rw (elements_out_are, figures_are) (ran.list_exactly buf fs hint singles iq_ok thr (rw figures_are at t))

    -- Its times are in order: each start lies from the centre of the window at up − 1 to the centre at up, each end
    -- likewise for down, ends included; starts rise strictly, and no end is later than the next start.
    pub run_placed : (e : KeyedElement) → Memᴰ e elements_out → Placed (step_of fs) e
    run_placed e m = ran.run_placed buf fs hint singles iq_ok rate_ok_lem e (rw elements_out_are at m)

    pub run_in_time : InTime elements_out
    run_in_time = rw elements_out_are (ran.run_in_time buf fs hint singles iq_ok rate_ok_lem)

    -- The powers that the residual check ranks are finite, not negative and no −0.0, whatever the class: of the fits
    -- of an accepted run too `total_cmp` order is the order of the values ..
    pub ranked_plain : (c : BlockClass) (i : ℕ) → i < length (ranked c) → Plain (get_or (ranked c) i nan)
    ranked_plain c i h =
        rw (fits_out_are, elements_out_are, figures_are) (ran.ranked_plain buf fs hint singles iq_ok rate_ok_lem c i (rw (fits_out_are, elements_out_are, figures_are) at h))

    -- .. and so are those that the evidence ranks.
    pub side_plain : (i : ℕ) → i < length side → Plain (get_or side i nan)
    side_plain i h = rw (fits_out_are, elements_out_are, figures_are) (ran.side_plain buf fs hint singles iq_ok i (rw (fits_out_are, elements_out_are, figures_are) at h))

    pub inner_plain : (i : ℕ) → i < length inner → Plain (get_or inner i nan)
    inner_plain i h = rw (fits_out_are, elements_out_are, figures_are) (ran.inner_plain buf fs hint singles iq_ok i (rw (fits_out_are, elements_out_are, figures_are) at h))

  -- With no threshold, nothing.
  pub counts_nothing : threshold_of buf fs f.estimate.carrier_hz ≡ None → f.estimate.found ≡ no_key_downs
  counts_nothing t = rw figures_are (ran.counts_nothing buf fs hint (rw figures_are at t))

  pub list_nothing : threshold_of buf fs f.estimate.carrier_hz ≡ None → elements_out ≡ []
  list_nothing t = rw elements_out_are (ran.list_nothing buf fs hint (rw figures_are at t))

  -- ---- The word: taken exactly when all four hold.
  pub taken_exactly : f.taken ≡ takes f.hypothesis f.estimate.fitted f.estimate.carrier_step_hz f.residual
  taken_exactly = rw figures_are (ran.taken_exactly buf fs hint)

  -- A run that says kept changes no sample.
  pub kept_unchanged : f.taken ≡ false → buffer-after ≡ buf
  kept_unchanged k = rw buffer_is (ran.kept_unchanged buf fs hint (rw figures_are at k))

  -- One that says taken leaves what `subtract` leaves, of the fits handed out ..
  pub taken_leaves : f.taken ≡ true → buffer-after ≡ subtracted fs (f.estimate.carrier_hz ⊘ fs) buf fits_out
  taken_leaves k = rw (buffer_is, fits_out_are, figures_are) (ran.taken_leaves buf fs hint (rw figures_are at k))

  -- .. and changes none outside the fitted spans.
  pub outside_unchanged : (k : ℕ) → ((g : ElementFit) → Memᴰ g fits_out → covers (span_of fs (samples buf) g) k ≡ false) → z_at buffer-after k ≡ z_at buf k
  outside_unchanged k h = rw buffer_is (ran.outside_unchanged buf fs hint k (λ g m. h g (rw fits_out_are m)))

-- ---- Two accepted runs alike in length, rate, final estimate in the Rust's own fields, and every sample of the edge,
-- interior and gap blocks have the same residual figures, evidence and hypothesis, whatever the samples elsewhere, the
-- hints, the lists and the positions are.
module _ (buf buf' : List Float) (fs hint hint' : Float) (elements elements' fits fits' work work' : List Float) (f g : RunFigures)
    (buffer-after buffer-after' elements-after elements-after' fits_after fits-after' work-after work-after' : List Float)
    (one : run_outcome (Ok f) buffer-after elements-after fits_after work-after ≡ run_rule buf fs hint elements fits work)
    (two : run_outcome (Ok g) buffer-after' elements-after' fits-after' work-after' ≡ run_rule buf' fs hint' elements' fits' work')
    (long : length buf ≡ length buf')
    (carrier : f.estimate.carrier_hz ≡ g.estimate.carrier_hz)
    (fits-alike : map rust_of (fits_in fits_after f.estimate.fitted) ≡ map rust_of (fits_in fits-after' g.estimate.fitted))
    (elements-alike : map times_of (elements_in elements-after f.estimate.found.listed) ≡ map times_of (elements_in elements-after' g.estimate.found.listed))
    (agree : (b : ℕ) → b < blocks buf (window_of fs)
    → class_of fs (samples buf) (fits_in fits_after f.estimate.fitted) (elements_in elements-after f.estimate.found.listed) b ≢ Other → AgreeIn buf buf' (window_of fs) b) where
  figures_one : f ≡ run_figures buf fs hint
  figures_one = figures_are buf fs hint elements fits work f buffer-after elements-after fits_after work-after one

  figures_two : g ≡ run_figures buf' fs hint'
  figures_two = figures_are buf' fs hint' elements' fits' work' g buffer-after' elements-after' fits-after' work-after' two

  elements_one : elements_in elements-after f.estimate.found.listed ≡ strong_elements buf fs hint
  elements_one = elements_out_are buf fs hint elements fits work f buffer-after elements-after fits_after work-after one

  fits_one : fits_in fits_after f.estimate.fitted ≡ strong_fits buf fs hint
  fits_one = fits_out_are buf fs hint elements fits work f buffer-after elements-after fits_after work-after one

  carriers : (run_figures buf fs hint).estimate.carrier_hz ≡ (run_figures buf' fs hint').estimate.carrier_hz
  carriers = rw (← figures_one, ← figures_two) carrier

  fits_same : map rust_of (strong_fits buf fs hint) ≡ map rust_of (strong_fits buf' fs hint')
  fits_same = ap (map rust_of) (sym fits_one) ∙ fits-alike ∙ ap (map rust_of) (fits_out_are buf' fs hint' elements' fits' work' g buffer-after' elements-after' fits-after' work-after' two)

  elements_same : map times_of (strong_elements buf fs hint) ≡ map times_of (strong_elements buf' fs hint')
  elements_same = ap (map times_of) (sym elements_one) ∙ elements-alike ∙ ap (map times_of) (elements_out_are buf' fs hint' elements' fits' work' g buffer-after' elements-after' fits-after' work-after' two)

  agreeing : (b : ℕ) → b < blocks buf (window_of fs) → class_of fs (samples buf) (strong_fits buf fs hint) (strong_elements buf fs hint) b ≢ Other → AgreeIn buf buf' (window_of fs) b
  agreeing b h o = agree b h (rw (fits_one, elements_one) o)

  pub same_residual : f.residual ≡ g.residual
  same_residual = rw (figures_one, figures_two) (ran.same_residual buf buf' fs hint hint' long carriers fits_same elements_same agreeing)

  pub same_evidence : f.evidence ≡ g.evidence
  same_evidence = rw (figures_one, figures_two) (ran.same_evidence buf buf' fs hint hint' long carriers fits_same elements_same agreeing)

  pub same_hypothesis : f.hypothesis ≡ g.hypothesis
  same_hypothesis = rw (figures_one, figures_two) (ran.same_hypothesis buf buf' fs hint hint' long carriers fits_same elements_same agreeing)
