-- Every count among the figures of a call is below 2^53, and so exact: one law over a count, `count_exact`, and of each
-- call its counts. `Iq` and `Rate` are what an accepted call knows of its recording and its rate. Assumes nothing.
use Rattle.std.proofs.Common.{Some, None}
use Rattle.std.specs.declared.option.Option.{Option}
use Prim.Native.Nat.{ℕ, ◌-◌, ◌*◌, ◌^◌, ◌/◌, ◌≤◌, ◌<◌}
use native.Mathlib.Nat.{mul-le-mul, div-le_self}
use native.Mathlib.Omega.{arith}
use mathlib.Core.List.{List, [], ◌∷◌}
use lib.Ieee.{Float, binary64}
use Rattle.float.specs.Ops.{◌⊘◌, of}
use Rattle.float.proofs.Counts.{whole_value, whole_back}
use Rattle.lists.proofs.Count.{count_most}
use Rattle.row.specs.Samples.{Iq}
use Rattle.row.specs.Window.{Rate, step_of, window_of, samples, blocks}
use Rattle.row.specs.Blocks.{block_mean}
use Rattle.row.specs.Envelope.{row_of, row_length}
use Rattle.row.proofs.Means.{blocks_short}
use Rattle.row.proofs.Steps.{step_high}
use Rattle.elements.specs.declared.element.KeyedElement.{KeyedElement}
use Rattle.elements.specs.Keying.{pending, row_key_downs, long, airtime_of, listed_of, counts, found_to}
use Rattle.elements.specs.Find.{threshold_of, found_at, found_of, amplitude_row_of}
use Rattle.elements.proofs.Joined.{airtime_steps, those_less}
use Rattle.elements.proofs.Walk.{Spaced, spaced}
use Rattle.elements.proofs.Recording.{all_counted, enough_places}
use Rattle.fits.specs.declared.fit.ElementFit.{ElementFit}
use Rattle.fits.specs.Estimate.{refined, strong_estimate}
use Rattle.fits.proofs.Strong.{strong_counted}
use Rattle.classes.specs.declared.class.BlockClass.TheVariants.{Gap}
use Rattle.classes.specs.Classify.{class_of}
use Rattle.classes.proofs.Counts.{blocks_counted}
use Rattle.gaps.specs.Pairs.{gaps_of}
use Rattle.measure.specs.Residual.{residual_check_of}
use Rattle.measure.specs.Evidence.{is_in, evidence_with, evidence_by, evidence_of, evidence_check_of}
use Rattle.measure.proofs.Figures as measured
use Rattle.given.specs.Blocks.{blocks_in, classes_given, block_classes_of}
use Rattle.figures.specs.Calls.{found_figures, fitted_figures, estimate_figures}
use Rattle.figures.specs.Measures.{residual_figures, evidence_figures}
use Rattle.figures.specs.Rows.{row_figures, classes_figures}
use Rattle.figures.specs.Places.{ESTIMATE_COUNTS, RESIDUAL_COUNTS}
use Rattle.capi.specs.Counts.{IsCount, Counts}

pub count_exact : (n : ℕ) → n < 2 ^ 53 → IsCount (of n) n
count_exact n h = record { below = h; value = whole_value binary64 n (omega arith); back = whole_back binary64 64 n (omega arith) (omega arith) }

-- ---- how large the counts are

-- key-downs lie one behind the other, so that their airtime is that of the row at most
air_most : (row : ℕ → Float) (thr : Float) (j : ℕ) → airtime_of 1 (row_key_downs row thr j) ≤ j
air_most row thr j = go (pending row thr j) (spaced row thr j)
  where
    go : (r : Option ℕ) → Spaced r j (row_key_downs row thr j) → airtime_of 1 (row_key_downs row thr j) ≤ j
    go (Some u) s = omega arith
    go None s = s.1

air_at : (row : ℕ → Float) (last step : ℕ) (fs : Float) (t : Option Float) → (found_at row last step fs t).airtime ≤ last * step
unfolding found_to counts listed_of
air_at row last step fs (Some thr) =
    let less = those_less (long row thr step fs) step (row_key_downs row thr last) in
    let steps = airtime_steps step (row_key_downs row thr last) in
    let most : airtime_of 1 (row_key_downs row thr last) * step ≤ last * step = mul-le-mul {n₁ = airtime_of 1 (row_key_downs row thr last)} {n₂ = last} (air_most row thr last) (omega arith) in
    omega arith
air_at row last step fs None = omega arith

module _ (iq : List Float) (fs : Float) (q : Iq iq) (r : Rate fs) where
  air_small : (carrier : Float) → (found_of iq fs carrier).airtime ≤ 2 ^ 26
  unfolding found_of
  air_small carrier =
      let air = air_at (row_of iq fs carrier) (row_length iq fs - 1) (step_of fs) fs (threshold_of iq fs carrier) in
      let short = blocks_short iq (step_of fs) q.short in
      let most : (row_length iq fs - 1) * step_of fs ≤ 2 ^ 20 * 64 = mul-le-mul {n₁ = row_length iq fs - 1} {n₂ = 2 ^ 20} (omega arith) (step_high fs r) in
      omega arith

  key_downs_small : (carrier : Float) → (found_of iq fs carrier).key_downs ≤ 2 ^ 20
  key_downs_small carrier = let few = enough_places iq fs carrier in let short = blocks_short iq (step_of fs) q.short in omega arith

  -- ---- the counts of each call
  pub find_counts : (carrier : Float) →
      let f = found_of iq fs carrier in
      Counts (found_figures f) 0 (f.key_downs ∷ f.listed ∷ f.short ∷ f.airtime ∷ [])
  find_counts carrier =
      let f = found_of iq fs carrier in
      let few = key_downs_small carrier in
      let all = all_counted iq fs carrier in
      let air = air_small carrier in
      (count_exact f.key_downs (omega arith), (count_exact f.listed (omega arith), (count_exact f.short (omega arith), (count_exact f.airtime (omega arith), tt))))

  pub estimate_counts : (hint : Float) →
      let e = strong_estimate iq fs hint in
      Counts (estimate_figures e) ESTIMATE_COUNTS (e.found.key_downs ∷ e.found.listed ∷ e.found.short ∷ e.found.airtime ∷ e.fitted ∷ [])
  unfolding strong_estimate
  estimate_counts hint =
      let e = strong_estimate iq fs hint in
      let few = key_downs_small (refined iq fs hint) in
      let all = all_counted iq fs (refined iq fs hint) in
      let air = air_small (refined iq fs hint) in
      let fitted = strong_counted iq fs hint in (
        count_exact e.found.key_downs (omega arith),
        (count_exact e.found.listed (omega arith), (count_exact e.found.short (omega arith), (count_exact e.found.airtime (omega arith), (count_exact e.fitted (omega arith), tt)))),
      )

  pub row_counts : (carrier : Float) → Counts (row_figures (amplitude_row_of iq fs carrier)) 0 ((amplitude_row_of iq fs carrier).amplitudes ∷ [])
  unfolding amplitude_row_of
  row_counts carrier = let short = blocks_short iq (step_of fs) q.short in (count_exact (row_length iq fs) (omega arith), tt)

  module _ (carrier : Float) (fits : List ElementFit) (elements : List KeyedElement) where
    pub residual_counts :
        let c = residual_check_of iq fs carrier fits elements in
        Counts (residual_figures c) RESIDUAL_COUNTS (c.edge_blocks ∷ c.interior_blocks ∷ c.gap_blocks ∷ [])
    residual_counts =
        let c = residual_check_of iq fs carrier fits elements in
        let each = measured.blocks_counted fs (block_mean iq (carrier ⊘ fs) (window_of fs)) (class_of fs (samples iq) fits elements) (blocks iq (window_of fs)) fits in
        let all = blocks_counted (class_of fs (samples iq) fits elements) (blocks iq (window_of fs)) in
        let short = blocks_short iq (window_of fs) q.short in
        (count_exact c.edge_blocks (omega arith), (count_exact c.interior_blocks (omega arith), (count_exact c.gap_blocks (omega arith), tt)))

    gaps_few : (evidence_check_of iq fs carrier fits elements).gap_blocks ≤ blocks iq (window_of fs)
    unfolding evidence_of evidence_by evidence_with gaps_of
    gaps_few = count_most (is_in Gap (class_of fs (samples iq) fits elements)) (blocks iq (window_of fs))

    pub evidence_counts : Counts (evidence_figures (evidence_check_of iq fs carrier fits elements)) 0 ((evidence_check_of iq fs carrier fits elements).gap_blocks ∷ [])
    evidence_counts =
        let few = gaps_few in
        let short = blocks_short iq (window_of fs) q.short in
        (count_exact (evidence_check_of iq fs carrier fits elements).gap_blocks (omega arith), tt)

-- of a recording that is lent nowhere, by its f32 count
pub classes_counts : (iq_len : ℕ) (fs : Float) (elements : List Float) (element_count : ℕ) (fits : List Float) (fit_count : ℕ) → iq_len ≤ 2097152 →
    let b = block_classes_of iq_len fs elements element_count fits fit_count in
    Counts (classes_figures b) 0 (b.blocks ∷ b.counts.edge ∷ b.counts.interior ∷ b.counts.gap ∷ b.counts.other ∷ [])
unfolding block_classes_of
classes_counts iq_len fs elements element_count fits fit_count short =
    let b = block_classes_of iq_len fs elements element_count fits fit_count in
    let all = blocks_counted (classes_given iq_len fs elements element_count fits fit_count) (blocks_in iq_len fs) in
    let few = div-le_self (iq_len / 2) (window_of fs) in (
      count_exact b.blocks (omega arith),
      (count_exact b.counts.edge (omega arith), (count_exact b.counts.interior (omega arith), (count_exact b.counts.gap (omega arith), (count_exact b.counts.other (omega arith), tt)))),
    )

-- Of fit_elements: as many fits as elements are given at most, wherever these are fewer than 2^53.
pub fit_counts : (fitted given : ℕ) → fitted ≤ given → given < 2 ^ 53 → Counts (fitted_figures fitted) 0 (fitted ∷ [])
fit_counts fitted given few small = (count_exact fitted (omega arith), tt)
