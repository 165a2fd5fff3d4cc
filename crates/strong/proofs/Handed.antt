-- What an accepted call hands out. The premises `promise` and `singles` of each theorem are what the call ensures
-- where it answers `Ok` and leaves `elements-after`, `row-after`, `fits_after` or `work-after` in what it was lent;
-- `singles` says that every number of the recording is an f32. Assumes nothing.
use Rattle.std.proofs.Common.{Some, None}
use Prim.Native.Nat.{ℕ, ◌+◌, ◌-◌, ◌<◌}
use native.Mathlib.Omega.{arith}
use mathlib.Core.Path.{◌≡◌, sym, ap, ◌∙◌}
use mathlib.Core.Bool.{not}
use mathlib.Core.List.{List, [], map, Memᴰ}
use lib.ListN.{length, get_or}
use lib.Seq.{get_or-take}
use lib.Ieee.{Float, nan}
use Rattle.float.specs.Ops.{◌⊘◌}
use Rattle.lists.specs.Firsts.{firsts}
use Rattle.lists.specs.Those.{those}
use Rattle.lists.proofs.Firsts.{length_firsts, get_d_firsts}
use Rattle.row.specs.Samples.{Singles}
use Rattle.row.specs.Window.{step_of}
use Rattle.row.specs.Envelope.{row_of, row_length}
use Rattle.elements.specs.declared.amplitude.AmplitudeRow.{AmplitudeRow}
use Rattle.elements.specs.declared.element.KeyedElement.{KeyedElement}
use Rattle.elements.specs.declared.keying.Found.{Found}
use Rattle.elements.specs.Element.{element_at, elements_in}
use Rattle.elements.specs.Keying.{LongKeyDowns, RowCounts, no_key_downs}
use Rattle.elements.specs.Find.{threshold_of, amplitude_row_of, found_at, elements_at, found_of, elements_found}
use Rattle.elements.specs.Times.{Placed, InTime}
use Rattle.elements.proofs.Records.{elements_read}
use Rattle.lists.proofs.Records.{numbers_read}
use Rattle.elements.proofs.Amplitudes.{found_by_row, elements_by_row}
use Rattle.elements.proofs.Exactly.{handed_exactly, handed_nothing, counted_exactly, counted_nothing}
use Rattle.elements.proofs.Times.{handed_placed, handed_in_time}
use Rattle.fits.specs.declared.fit.ElementFit.{ElementFit}
use Rattle.fits.specs.declared.estimate.Estimate.{Estimate}
use Rattle.fits.specs.Fit.{fit_of}
use Rattle.fits.specs.List.{fits_in, is_skipped, skipped_of}
use Rattle.fits.specs.Estimate.{refined, strong_elements, strong_estimate}
use Rattle.fits.proofs.Records.{fits_read}
use Rattle.fits.proofs.Fitted.{fits_are, fit_is, fitted_or_skipped}
use Rattle.fits.proofs.Strong.{handed_strong, handed_strong_nothing, handed_strong_fits, strong_fit_is, strong_counted}
use Rattle.std.specs.Prelude.{Ok}
use Rattle.strong.specs.Amplitude.{row_outcome, row_rule}
use Rattle.strong.specs.Find.{find_outcome, find_rule}
use Rattle.strong.specs.Fit.{fit_outcome, fit_rule}
use Rattle.strong.specs.Estimate.{estimate_outcome, estimate_rule}
use Rattle.strong.proofs.AmplitudeAccepted.{row_done}
use Rattle.strong.proofs.FindAccepted.{find_accepted, find_done}
use Rattle.strong.proofs.FitAccepted.{fit_done}
use Rattle.strong.proofs.EstimateAccepted.{estimate_accepted, estimate_done}

-- ---- find_elements

module _ (iq : List Float) (fs hz : Float) (elements work : List Float) (f : Found) (elements-after work-after : List Float)
    (promise : find_outcome (Ok f) elements-after work-after ≡ find_rule iq fs hz elements work) where
  module _ (singles : Singles iq) where
    -- A pair is among the elements handed out exactly if it is a key-down of the row and long; each is there once, in
    -- order, each down before the next up.
    pub find_exactly : (thr : Float) → threshold_of iq fs hz ≡ Some thr
        → LongKeyDowns (row_of iq fs hz) thr (row_length iq fs - 1) (step_of fs) fs (elements_in elements-after f.listed)
    find_exactly thr t =
        let told = find_done iq fs hz elements work _ promise in
        handed_exactly iq fs hz elements-after elements f.listed told.2 singles (find_accepted iq fs hz _ _ told.0).iq_ok thr t

    -- Key-downs, listed and short are how many of each the row has.
    pub find_counted : (thr : Float) → threshold_of iq fs hz ≡ Some thr → RowCounts (row_of iq fs hz) thr (row_length iq fs - 1) (step_of fs) fs f
    find_counted thr t =
        let told = find_done iq fs hz elements work _ promise in
        rw told.1 (counted_exactly iq fs hz singles (find_accepted iq fs hz _ _ told.0).iq_ok thr t)

    -- Each start lies from the centre of the window at up − 1 to the centre at up, each end likewise for down, ends
    -- included ..
    pub find_placed : (e : KeyedElement) → Memᴰ e (elements_in elements-after f.listed) → Placed (step_of fs) e
    find_placed =
        let told = find_done iq fs hz elements work _ promise in
        let known = find_accepted iq fs hz _ _ told.0 in
        handed_placed iq fs hz singles known.iq_ok known.rate_ok_lem elements-after elements f.listed told.2

    -- .. and the times are in order: starts rise strictly, and no end is later than the next start.
    pub find_in_time : InTime (elements_in elements-after f.listed)
    find_in_time =
        let told = find_done iq fs hz elements work _ promise in
        let known = find_accepted iq fs hz _ _ told.0 in
        handed_in_time iq fs hz singles known.iq_ok known.rate_ok_lem elements-after elements f.listed told.2

  -- With no threshold, nothing.
  pub find_nothing : threshold_of iq fs hz ≡ None → (elements_in elements-after f.listed ≡ []) × (f ≡ no_key_downs)
  find_nothing t =
      let told = find_done iq fs hz elements work _ promise in
      (handed_nothing iq fs hz elements-after elements f.listed told.2 t, told.1 ∙ counted_nothing iq fs hz t)

-- ---- amplitude_row

module _ (iq : List Float) (fs hz : Float) (row work : List Float) (r : AmplitudeRow) (row-after work-after : List Float)
    (promise : row_outcome (Ok r) row-after work-after ≡ row_rule iq fs hz row work) where
  -- The numbers handed out are the amplitudes, and the threshold is the recording's.
  pub row_told_lem : r ≡ amplitude_row_of iq fs hz
  row_told_lem = (row_done iq fs hz row work _ promise).0

  pub row_at : (i : ℕ) → i < row_length iq fs → get_or row-after i nan ≡ row_of iq fs hz i
  unfolding amplitude_row_of
  row_at i h =
      let first = numbers_read row-after row r.amplitudes (firsts (row_of iq fs hz) (row_length iq fs)) (row_done iq fs hz row work _ promise).1 in
      let inside : i < r.amplitudes = rw row_told_lem h in
      sym (get_or-take r.amplitudes row-after i nan inside) ∙ ap (λ (l : List Float). get_or l i nan) first ∙ get_d_firsts (row_of iq fs hz) (row_length iq fs) i nan h

  -- What find_elements counts and lists at the same carrier are the key-downs of the numbers handed out, at the
  -- threshold answered.
  pub row_found : found_at (λ i. get_or row-after i nan) (r.amplitudes - 1) (step_of fs) fs r.threshold ≡ found_of iq fs hz
  unfolding amplitude_row_of
  row_found = rw row_told_lem (found_by_row iq fs hz (λ i. get_or row-after i nan) row_at)

  pub row_elements : elements_at (λ i. get_or row-after i nan) (r.amplitudes - 1) (step_of fs) fs r.threshold ≡ elements_found iq fs hz
  unfolding amplitude_row_of
  row_elements = rw row_told_lem (elements_by_row iq fs hz (λ i. get_or row-after i nan) row_at)

-- ---- fit_elements

module _ (iq : List Float) (fs hz : Float) (elements : List Float) (count : ℕ) (fits work : List Float) (n : ℕ) (fits_after work-after : List Float)
    (promise : fit_outcome (Ok n) fits_after work-after ≡ fit_rule iq fs hz elements count fits work) where
  -- The fits handed out are, in order, of the given elements that are not skipped.
  pub fit_elements_are : map (λ g. g.element) (fits_in fits_after n) ≡ those (λ e. not (is_skipped (fit_of iq fs (hz ⊘ fs) e))) (elements_in elements count)
  fit_elements_are =
      rw (fits_read fits_after fits n _ (fit_done iq fs hz elements count fits work _ promise).2) (fits_are iq fs hz (elements_in elements count))

  -- Each is the fit of its element.
  pub fit_each : (g : ElementFit) → Memᴰ g (fits_in fits_after n) → fit_of iq fs (hz ⊘ fs) g.element ≡ Some g
  fit_each g m =
      fit_is iq fs hz (elements_in elements count) g (rw (fits_read fits_after fits n _ (fit_done iq fs hz elements count fits work _ promise).2) at m)

  -- Fitted and skipped are all of the given elements.
  pub fit_skipped : n + length (skipped_of iq fs hz (elements_in elements count)) ≡ count
  unfolding elements_in
  fit_skipped =
      let told = (fit_done iq fs hz elements count fits work _ promise).1 in
      let all = fitted_or_skipped iq fs hz (elements_in elements count) in
      let given : length (elements_in elements count) ≡ count = length_firsts (element_at elements) count in
      omega arith

-- ---- estimate_strong, at the carrier that it answers

module _ (iq : List Float) (fs hint : Float) (elements fits work : List Float) (d : Estimate) (elements-after fits_after work-after : List Float)
    (promise : estimate_outcome (Ok d) elements-after fits_after work-after ≡ estimate_rule iq fs hint elements fits work) where
  at_refined : d.carrier_hz ≡ refined iq fs hint
  unfolding strong_estimate
  at_refined = ap (λ (e : Estimate). e.carrier_hz) (estimate_done iq fs hint elements fits work _ promise).1

  found_is : d.found ≡ found_of iq fs d.carrier_hz
  unfolding strong_estimate
  found_is = rw at_refined (ap (λ (e : Estimate). e.found) (estimate_done iq fs hint elements fits work _ promise).1)

  module _ (singles : Singles iq) where
    -- The elements handed out and the counts are those of the second find, as of find_elements.
    pub estimate_exactly : (thr : Float) → threshold_of iq fs d.carrier_hz ≡ Some thr
        → LongKeyDowns (row_of iq fs d.carrier_hz) thr (row_length iq fs - 1) (step_of fs) fs (elements_in elements-after d.found.listed)
    estimate_exactly thr t =
        let told = estimate_done iq fs hint elements fits work _ promise in
        let known = estimate_accepted iq fs hint _ _ _ told.0 in
        rw at_refined (handed_strong iq fs hint elements-after elements _ told.2 singles known.iq_ok thr (rw at_refined at t))

    pub estimate_counted : (thr : Float) → threshold_of iq fs d.carrier_hz ≡ Some thr
        → RowCounts (row_of iq fs d.carrier_hz) thr (row_length iq fs - 1) (step_of fs) fs d.found
    estimate_counted thr t =
        let known = estimate_accepted iq fs hint _ _ _ (estimate_done iq fs hint elements fits work _ promise).0 in
        rw found_is (counted_exactly iq fs d.carrier_hz singles known.iq_ok thr t)

    -- Their times lie between centres and are in order, as those of find_elements.
    pub estimate_placed : (e : KeyedElement) → Memᴰ e (elements_in elements-after d.found.listed) → Placed (step_of fs) e
    unfolding strong_elements
    estimate_placed =
        let told = estimate_done iq fs hint elements fits work _ promise in
        let known = estimate_accepted iq fs hint _ _ _ told.0 in
        handed_placed iq fs (refined iq fs hint) singles known.iq_ok known.rate_ok_lem elements-after elements d.found.listed told.2

    pub estimate_in_time : InTime (elements_in elements-after d.found.listed)
    unfolding strong_elements
    estimate_in_time =
        let told = estimate_done iq fs hint elements fits work _ promise in
        let known = estimate_accepted iq fs hint _ _ _ told.0 in
        handed_in_time iq fs (refined iq fs hint) singles known.iq_ok known.rate_ok_lem elements-after elements d.found.listed told.2

  -- With no threshold, nothing.
  pub estimate_nothing : threshold_of iq fs d.carrier_hz ≡ None → (elements_in elements-after d.found.listed ≡ []) × (d.found ≡ no_key_downs)
  estimate_nothing t =
      (handed_strong_nothing iq fs hint elements-after elements _ (estimate_done iq fs hint elements fits work _ promise).2 (rw at_refined at t), found_is ∙ counted_nothing iq fs d.carrier_hz t)

  -- The fits handed out are, in order, of those of these elements that are not skipped, and each is the fit of its
  -- element.
  pub estimate_elements_are : map (λ g. g.element) (fits_in fits_after d.fitted)
      ≡ those (λ e. not (is_skipped (fit_of iq fs (d.carrier_hz ⊘ fs) e))) (elements_in elements-after d.found.listed)
  estimate_elements_are =
      let told = estimate_done iq fs hint elements fits work _ promise in
      rw at_refined (handed_strong_fits iq fs hint elements-after elements _ told.2 fits_after fits _ told.3)

  pub estimate_each : (g : ElementFit) → Memᴰ g (fits_in fits_after d.fitted) → fit_of iq fs (d.carrier_hz ⊘ fs) g.element ≡ Some g
  estimate_each g m =
      let told = estimate_done iq fs hint elements fits work _ promise in
      rw at_refined (strong_fit_is iq fs hint g (rw (fits_read fits_after fits _ _ told.3) at m))

  -- Fitted and skipped are all of these elements.
  pub estimate_skipped : d.fitted + length (skipped_of iq fs d.carrier_hz (elements_in elements-after d.found.listed)) ≡ d.found.listed
  estimate_skipped =
      let told = estimate_done iq fs hint elements fits work _ promise in
      rw (elements_read elements-after elements _ _ told.2, at_refined, told.1) (strong_counted iq fs hint)
