-- What the run of a buffer finds and leaves (the user's third demand), said of the rules' own `run_figures` and
-- `run_buffer` and of the elements and fits of the second pass: of no call, no lent list and no earlier content of one,
-- so that it can be read of each run of a call that makes several. `RunPromises` says the same of what `cancel::run`
-- answers and leaves. Assumes nothing.
use Rattle.std.proofs.Common.{Some, None}
use Prim.Native.Nat.{ℕ, ◌+◌, ◌-◌, ◌^◌, ◌≤◌, ◌<◌}
use native.Mathlib.Omega.{arith}
use mathlib.Core.Path.{◌≡◌, refl, sym, ap, ◌∙◌}
use mathlib.Core.Logic.{◌≢◌, ◌⊎◌, ⊎_elim}
use mathlib.Core.Bool.{Bool, true, false, not}
use mathlib.Core.List.{List, [], map, Memᴰ}
use lib.ListN.{length, length-map, get_or}
use lib.Ieee.{Float, nan}
use Rattle.float.specs.Ops.{◌⊘◌}
use Rattle.lists.specs.Those.{those, picked}
use Rattle.complex.specs.Rows.{z_at}
use Rattle.row.specs.Samples.{Singles, Iq}
use Rattle.row.specs.Window.{Rate, step_of, window_of, samples, blocks}
use Rattle.row.specs.Blocks.{block_mean}
use Rattle.row.specs.Envelope.{row_of, row_length}
use Rattle.row.proofs.Means.{blocks_short}
use Rattle.rank.proofs.Sorted.{every_at}
use Rattle.float.proofs.Amounts.{Amount}
use Rattle.elements.specs.declared.element.KeyedElement.{KeyedElement}
use Rattle.elements.specs.Keying.{LongKeyDowns, RowCounts, no_key_downs}
use Rattle.elements.specs.Find.{threshold_of, found_of}
use Rattle.elements.specs.Times.{Placed, InTime}
use Rattle.elements.proofs.Recording.{all_counted}
use Rattle.elements.proofs.Exactly.{counted_exactly, counted_nothing}
use Rattle.elements.proofs.Times.{found_placed, found_in_time}
use Rattle.fits.specs.declared.fit.ElementFit.{ElementFit}
use Rattle.fits.specs.Fit.{fit_of}
use Rattle.fits.specs.List.{is_skipped, skipped_of}
use Rattle.fits.specs.Estimate.{refined, carrier_step, strong_elements, strong_fits, strong_estimate}
use Rattle.fits.proofs.Strong.{strong_exactly, strong_nothing, strong_fits_are, strong_fit_is, strong_counted}
use Rattle.fits.proofs.Passes.{fits_few}
use Rattle.fits.proofs.Gains.{found_gain}
use Rattle.synth.specs.Span.{span_of, covers}
use Rattle.synth.specs.Removal.{subtracted}
use Rattle.synth.proofs.Samples.{outside_spans}
use Rattle.synth.specs.RustFields.{rust_of}
use Rattle.classes.specs.declared.class.BlockClass.{BlockClass}
use Rattle.classes.specs.declared.class.BlockClass.TheVariants.{Gap, Interior, Other}
use Rattle.classes.specs.Classify.{times_of, class_of, counts_of}
use Rattle.classes.proofs.Counts.{blocks_counted}
use Rattle.prepared.specs.Powers.{block_power, powers_of}
use Rattle.prepared.specs.Left.{residual_mean}
use Rattle.gaps.specs.Reference.{mean_at, side_of}
use Rattle.measure.specs.Residual.{residual_check_of}
use Rattle.measure.specs.Evidence.{is_in, evidence_check_of}
use Rattle.measure.specs.Hypothesis.{hypothesis_of}
use Rattle.measure.specs.Agree.{AgreeIn}
use Rattle.measure.proofs.Bounds.{Gains, gains_all, Plain, amount_plain, left_powers}
use Rattle.measure.proofs.Levels.{powers_amounts, side_amounts}
use Rattle.measure.proofs.Reach.{residual_reach}
use Rattle.measure.proofs.ReachEvidence.{evidence_check_reach}
use Rattle.engine.specs.declared.run.RunFigures.{RunFigures}
use Rattle.engine.specs.Run.{takes, run_class, run_taken, run_figures, run_buffer}

module _ (buf : List Float) (fs hint : Float) where
  abbrev ran : RunFigures
  ran = run_figures buf fs hint

  -- ---- The final estimate: the carrier is refined from the first pass, and the rest is the second pass at it.
  pub carrier_is : ran.estimate.carrier_hz ≡ refined buf fs hint
  unfolding run_figures strong_estimate
  carrier_is = refl

  pub step_is : ran.estimate.carrier_step_hz ≡ carrier_step buf fs hint
  unfolding run_figures strong_estimate
  step_is = refl

  -- key-downs, listed, short and airtime, as counted on the row at the final carrier
  pub found_is : ran.estimate.found ≡ found_of buf fs ran.estimate.carrier_hz
  unfolding run_figures strong_estimate
  found_is = refl

  -- the fits are, in order, of those listed elements that are not skipped, and each is the fit of its element
  pub fits_of_listed : map (λ g. g.element) (strong_fits buf fs hint) ≡ those (λ e. not (is_skipped (fit_of buf fs (ran.estimate.carrier_hz ⊘ fs) e))) (strong_elements buf fs hint)
  fits_of_listed = rw carrier_is (strong_fits_are buf fs hint)

  pub fits_each : (g : ElementFit) → Memᴰ g (strong_fits buf fs hint) → fit_of buf fs (ran.estimate.carrier_hz ⊘ fs) g.element ≡ Some g
  fits_each g m = rw carrier_is (strong_fit_is buf fs hint g m)

  fitted_is : ran.estimate.fitted ≡ length (strong_fits buf fs hint)
  unfolding run_figures strong_estimate
  fitted_is = refl

  -- fitted is how many of the listed elements are not skipped
  pub fitted_counted : ran.estimate.fitted ≡ length (those (λ e. not (is_skipped (fit_of buf fs (ran.estimate.carrier_hz ⊘ fs) e))) (strong_elements buf fs hint))
  fitted_counted = fitted_is ∙ sym (length-map (strong_fits buf fs hint) (λ g. g.element)) ∙ ap length fits_of_listed

  pub skipped_is : ran.skipped ≡ length (skipped_of buf fs ran.estimate.carrier_hz (strong_elements buf fs hint))
  unfolding run_figures strong_estimate
  skipped_is = refl

  pub samples_is : ran.samples ≡ samples buf
  unfolding run_figures
  samples_is = refl

  pub window_is : ran.window ≡ window_of fs
  unfolding run_figures
  window_is = refl

  -- ---- The counts balance.
  pub key_downs_balance : ran.estimate.found.key_downs ≡ ran.estimate.found.listed + ran.estimate.found.short
  unfolding run_figures strong_estimate
  key_downs_balance = all_counted buf fs (refined buf fs hint)

  pub listed_balance : ran.estimate.found.listed ≡ ran.estimate.fitted + ran.skipped
  unfolding run_figures
  listed_balance = sym (strong_counted buf fs hint)

  pub blocks_balance : ran.blocks ≡ ran.classes.edge + ran.classes.interior + ran.classes.gap + ran.classes.other
  unfolding run_figures
  blocks_balance = sym (blocks_counted (run_class buf fs hint) (blocks buf (window_of fs)))

  -- ---- Each figure is the one 01 defines, with the elements and fits of the second pass.
  pub blocks_are : ran.blocks ≡ blocks buf (window_of fs)
  unfolding run_figures
  blocks_are = refl

  pub classes_are : ran.classes ≡ counts_of (class_of fs (samples buf) (strong_fits buf fs hint) (strong_elements buf fs hint)) ran.blocks
  unfolding run_figures
  classes_are = refl

  pub residual_is : ran.residual ≡ residual_check_of buf fs ran.estimate.carrier_hz (strong_fits buf fs hint) (strong_elements buf fs hint)
  unfolding run_figures strong_estimate
  residual_is = refl

  pub evidence_is : ran.evidence ≡ evidence_check_of buf fs ran.estimate.carrier_hz (strong_fits buf fs hint) (strong_elements buf fs hint)
  unfolding run_figures strong_estimate
  evidence_is = refl

  pub hypothesis_is : ran.hypothesis ≡ hypothesis_of ran.evidence
  unfolding run_figures
  hypothesis_is = refl

  -- ---- Key-downs, listed and short, as counts, are how many of each the row at the final carrier has: there is a list
  -- that has each of its key-downs once, in order, and nothing else, and of it they are counted.
  module _ (singles : Singles buf) (iq_ok : Iq buf) where
    pub counts_exactly : (thr : Float) → threshold_of buf fs ran.estimate.carrier_hz ≡ Some thr
        → RowCounts (row_of buf fs ran.estimate.carrier_hz) thr (row_length buf fs - 1) (step_of fs) fs ran.estimate.found
    counts_exactly thr t = rw found_is (counted_exactly buf fs ran.estimate.carrier_hz singles iq_ok thr t)

    -- The list holds the key-downs whose computed length is at least RISE_S × fs, each once, in order, nothing else.
    pub list_exactly : (thr : Float) → threshold_of buf fs ran.estimate.carrier_hz ≡ Some thr
        → LongKeyDowns (row_of buf fs ran.estimate.carrier_hz) thr (row_length buf fs - 1) (step_of fs) fs (strong_elements buf fs hint)
    list_exactly thr t = rw carrier_is (strong_exactly buf fs hint singles iq_ok thr (rw carrier_is at t))

    -- Its times are in order: each start lies from the centre of the window at up − 1 to the centre at up, each end
    -- likewise for down, ends included; starts rise strictly, and no end is later than the next start.
    pub run_placed : Rate fs → (e : KeyedElement) → Memᴰ e (strong_elements buf fs hint) → Placed (step_of fs) e
    unfolding strong_elements
    run_placed = found_placed buf fs (refined buf fs hint) singles iq_ok

    pub run_in_time : Rate fs → InTime (strong_elements buf fs hint)
    unfolding strong_elements
    run_in_time = found_in_time buf fs (refined buf fs hint) singles iq_ok

    -- The powers that the two measures rank are finite, not negative and no −0.0, whatever the class: `total_cmp` order
    -- is the order of the values. Those of the residual check, of the blocks of a class:
    abbrev ranked : BlockClass → List Float
    ranked c =
        powers_of c (class_of fs (samples buf) (strong_fits buf fs hint) (strong_elements buf fs hint))
        (residual_mean fs (blocks buf (window_of fs)) (strong_fits buf fs hint) (block_mean buf (ran.estimate.carrier_hz ⊘ fs) (window_of fs))) (blocks buf (window_of fs))

    fits_short : length (strong_fits buf fs hint) ≤ 2 ^ 40
    unfolding strong_fits
    fits_short =
        let most = fits_few buf fs (refined buf fs hint) in
        let short = blocks_short buf (step_of fs) iq_ok.short in
        omega arith

    gains_bounded : Rate fs → Gains (strong_fits buf fs hint)
    unfolding strong_fits
    gains_bounded r = gains_all (strong_fits buf fs hint) (λ g m. record { bound = found_gain buf fs (refined buf fs hint) singles iq_ok r g m })

    pub ranked_plain : Rate fs → (c : BlockClass) (i : ℕ) → i < length (ranked c) → Plain (get_or (ranked c) i nan)
    ranked_plain r c i h =
        amount_plain (get_or (ranked c) i nan)
        (left_powers buf fs (ran.estimate.carrier_hz ⊘ fs) (strong_fits buf fs hint) singles iq_ok r (gains_bounded r) fits_short (class_of fs (samples buf) (strong_fits buf fs hint) (strong_elements buf fs hint)) c i h)

    -- those of the evidence: the gap blocks to both sides of the carrier, pooled, for the reference ..
    abbrev side : List Float
    side =
        side_of (mean_at buf fs) ran.estimate.carrier_hz (is_in Gap (class_of fs (samples buf) (strong_fits buf fs hint) (strong_elements buf fs hint))) (blocks buf (window_of fs))

    pub side_plain : (i : ℕ) → i < length side → Plain (get_or side i nan)
    side_plain i h = amount_plain (get_or side i nan) (every_at Amount side (side_amounts buf fs singles iq_ok _ _ (omega arith) _) i h)

    -- .. and the interior blocks at the carrier, for its floor
    abbrev inner : List Float
    inner =
        picked (is_in Interior (class_of fs (samples buf) (strong_fits buf fs hint) (strong_elements buf fs hint))) (block_power (mean_at buf fs ran.estimate.carrier_hz))
        (blocks buf (window_of fs))

    pub inner_plain : (i : ℕ) → i < length inner → Plain (get_or inner i nan)
    inner_plain i h = amount_plain (get_or inner i nan) (every_at Amount inner (powers_amounts buf fs singles iq_ok _ _ (omega arith) _) i h)

  -- With no threshold, nothing.
  pub counts_nothing : threshold_of buf fs ran.estimate.carrier_hz ≡ None → ran.estimate.found ≡ no_key_downs
  counts_nothing t = found_is ∙ counted_nothing buf fs ran.estimate.carrier_hz t

  pub list_nothing : threshold_of buf fs ran.estimate.carrier_hz ≡ None → strong_elements buf fs hint ≡ []
  list_nothing t = strong_nothing buf fs hint (rw carrier_is at t)

  -- ---- The word: taken exactly when all four hold.
  pub taken_exactly : ran.taken ≡ takes ran.hypothesis ran.estimate.fitted ran.estimate.carrier_step_hz ran.residual
  unfolding run_figures run_taken strong_estimate
  taken_exactly = refl

  is_taken : run_taken buf fs hint ≡ ran.taken
  unfolding run_figures
  is_taken = refl

  -- A run that says kept changes no sample.
  pub kept_unchanged : ran.taken ≡ false → run_buffer buf fs hint ≡ buf
  unfolding run_buffer
  kept_unchanged k = rw (is_taken, k)

  -- One that says taken leaves what `subtract` leaves, of the fits of the second pass ..
  pub taken_leaves : ran.taken ≡ true → run_buffer buf fs hint ≡ subtracted fs (ran.estimate.carrier_hz ⊘ fs) buf (strong_fits buf fs hint)
  unfolding run_buffer
  taken_leaves k = rw (is_taken, k, carrier_is)

  -- .. and changes none outside the fitted spans.
  pub outside_unchanged : (k : ℕ) → ((g : ElementFit) → Memᴰ g (strong_fits buf fs hint) → covers (span_of fs (samples buf) g) k ≡ false) → z_at (run_buffer buf fs hint) k ≡ z_at buf k
  outside_unchanged k h = go ran.taken refl
    where
      go : (t : Bool) → ran.taken ≡ t → z_at (run_buffer buf fs hint) k ≡ z_at buf k
      go true e = ap (λ l. z_at l k) (taken_leaves e) ∙ outside_spans fs (ran.estimate.carrier_hz ⊘ fs) buf (strong_fits buf fs hint) k h
      go false e = ap (λ l. z_at l k) (kept_unchanged e)

-- ---- Two runs alike in length, rate, final estimate in the Rust's own fields, and every sample of the edge, interior
-- and gap blocks have the same residual figures, evidence and hypothesis, whatever the samples elsewhere, the hints and
-- the positions are.
module _ (buf buf' : List Float) (fs hint hint' : Float)
    (long : length buf ≡ length buf')
    (carrier : (run_figures buf fs hint).estimate.carrier_hz ≡ (run_figures buf' fs hint').estimate.carrier_hz)
    (fits-alike : map rust_of (strong_fits buf fs hint) ≡ map rust_of (strong_fits buf' fs hint'))
    (elements-alike : map times_of (strong_elements buf fs hint) ≡ map times_of (strong_elements buf' fs hint'))
    (agree : (b : ℕ) → b < blocks buf (window_of fs) → class_of fs (samples buf) (strong_fits buf fs hint) (strong_elements buf fs hint) b ≢ Other → AgreeIn buf buf' (window_of fs) b) where
  not_other : (c : BlockClass) → (c ≡ Gap) ⊎ (c ≡ Interior) → c ≢ Other
  not_other c h e = ⊎_elim (λ p. gap_other (sym p ∙ e)) (λ p. interior_other (sym p ∙ e)) h
    where
      gap_other : Gap ≡ Other → ⊥
      gap_other q = let z : ◌≡◌ {A = ℕ} 0 1 = cc in absurd (omega arith)

      interior_other : Interior ≡ Other → ⊥
      interior_other q = let z : ◌≡◌ {A = ℕ} 0 1 = cc in absurd (omega arith)

  pub same_residual : (run_figures buf fs hint).residual ≡ (run_figures buf' fs hint').residual
  same_residual =
      residual_is buf fs hint
      ∙ residual_reach buf buf' fs (run_figures buf fs hint).estimate.carrier_hz (strong_fits buf fs hint) (strong_fits buf' fs hint') (strong_elements buf fs hint) (strong_elements buf' fs hint') long fits-alike elements-alike agree
      ∙ ap (λ c. residual_check_of buf' fs c (strong_fits buf' fs hint') (strong_elements buf' fs hint')) carrier
      ∙ sym (residual_is buf' fs hint')

  pub same_evidence : (run_figures buf fs hint).evidence ≡ (run_figures buf' fs hint').evidence
  same_evidence =
      evidence_is buf fs hint
      ∙ evidence_check_reach buf buf' fs (run_figures buf fs hint).estimate.carrier_hz (strong_fits buf fs hint) (strong_fits buf' fs hint') (strong_elements buf fs hint) (strong_elements buf' fs hint') long fits-alike elements-alike (λ b h c. agree b h (not_other (class_of fs (samples buf) (strong_fits buf fs hint) (strong_elements buf fs hint) b) c))
      ∙ ap (λ c. evidence_check_of buf' fs c (strong_fits buf' fs hint') (strong_elements buf' fs hint')) carrier
      ∙ sym (evidence_is buf' fs hint')

  pub same_hypothesis : (run_figures buf fs hint).hypothesis ≡ (run_figures buf' fs hint').hypothesis
  same_hypothesis = hypothesis_is buf fs hint ∙ ap hypothesis_of same_evidence ∙ sym (hypothesis_is buf' fs hint')
