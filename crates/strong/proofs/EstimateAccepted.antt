-- `estimate_strong`: what it, and the run, which asks the same, go on with where every answer is yes, and what its
-- promise says. Assumes nothing.
use Prim.Native.Nat.{ℕ, ◌*◌, ◌/◌, ◌≤◌}
use mathlib.Core.Path.{◌≡◌, refl, ap}
use mathlib.Core.Bool.{true, false}
use mathlib.Core.List.{List, Memᴰ}
use lib.ListN.{length}
use lib.Ieee.{Float}
use Rattle.row.specs.Window.{Rate, rate_ok, step_blocks}
use Rattle.row.specs.Samples.{Iq, all_finite}
use Rattle.row.proofs.Steps.{rate_is}
use Rattle.elements.specs.declared.element.KeyedElement.{KeyedElement}
use Rattle.lists.specs.Records.{Handed, handed}
use Rattle.elements.specs.Element.{ELEMENT}
use Rattle.fits.specs.declared.fit.ElementFit.{ElementFit}
use Rattle.fits.specs.declared.estimate.Estimate.{Estimate}
use Rattle.fits.specs.List.{FIT}
use Rattle.fits.specs.Estimate.{strong_estimate, strong_elements, strong_fits}
use Rattle.std.specs.Prelude.{Result, Ok, Err}
use Rattle.questions.specs.declared.refusals.Refusal.{Refusal}
use Rattle.questions.specs.Answers.{accepted, refused}
use Rattle.questions.specs.Questions.{first_no, ask, count_ok, carrier_ok, places_ok, work_ok, estimate_questions}
use Rattle.strong.specs.Estimate.{EstimateResult, estimate_rule, estimate_outcome}
use Rattle.questions.proofs.FirstNo.{yes_at}
use Rattle.questions.proofs.Accepted.{recording_is, element_places, fit_places, work_room}
use Rattle.questions.proofs.Calls.{accepted_by, refused_asked, never_refused}

pub record EstimateAccepted (iq : List Float) (fs : Float) (elements fits work : ℕ) : Type 0 where
  pub iq_ok : Iq iq
  pub rate_ok_lem : Rate fs
  pub places : ELEMENT * (step_blocks iq fs / 2) ≤ elements
  pub fit_room : FIT * (step_blocks iq fs / 2) ≤ fits
  pub room : 4 * step_blocks iq fs ≤ work

pub estimate_accepted : (iq : List Float) (fs hint : Float) (elements fits work : ℕ) → first_no (estimate_questions iq fs hint elements fits work) ≡ 0
    → EstimateAccepted iq fs elements fits work
estimate_accepted iq fs hint elements fits work all =
    let yes = yes_at (estimate_questions iq fs hint elements fits work) refl all in
    record {
      iq_ok = recording_is iq (yes 1) (yes 2);
      rate_ok_lem = rate_is fs (yes 0);
      places = element_places (step_blocks iq fs / 2) elements (yes 4);
      fit_room = fit_places (step_blocks iq fs / 2) fits (yes 5);
      room = work_room (step_blocks iq fs) work (yes 6);
    }

-- a result is the same as another if its parts are
pub estimate_result : (d e : Estimate) (h i : Handed KeyedElement) (j k : Handed ElementFit) (v w : ℕ) → d ≡ e → h ≡ i → j ≡ k → v ≡ w
    → ◌≡◌ {A = EstimateResult} (record { estimate = d; elements = h; fits = j; work = v }) (record { estimate = e; elements = i; fits = k; work = w })
estimate_result d e h i j k v w a b c g = rw (a, b, c, g)

-- ---- what its promise says of a refusal, and of an accepted call

module _ (iq : List Float) (fs hint : Float) (elements fits work : List Float) where
  pub estimate_done : (r : EstimateResult) → accepted r ≡ estimate_rule iq fs hint elements fits work
      → (first_no (estimate_questions iq fs hint (length elements) (length fits) (length work)) ≡ 0) × (r.estimate ≡ strong_estimate iq fs hint)
      × (r.elements ≡ handed ELEMENT (strong_elements iq fs hint) elements) × (r.fits ≡ handed FIT (strong_fits iq fs hint) fits)
  unfolding estimate_rule
  estimate_done r e =
      let told = accepted_by _ _ _ r e in
      let part = told.1 in
      (told.0, ap (λ (r : EstimateResult). r.estimate) part, ap (λ (r : EstimateResult). r.elements) part, ap (λ (r : EstimateResult). r.fits) part)

  -- its number is that of a question it asks, answered no
  pub estimate_number : (n : ℕ) (lent : List Float × List Float × List Float) → refused n lent ≡ estimate_rule iq fs hint elements fits work
      → Memᴰ (ask n false) (estimate_questions iq fs hint (length elements) (length fits) (length work))
  unfolding estimate_rule
  estimate_number n lent e = refused_asked _ _ _ n lent e

  -- What 01 accepts is never refused: with a yes to each question, 1 to 6, the fifth of two lists, the answer is Ok,
  -- with the result of 01.
  pub estimate_accepts : rate_ok fs ≡ true → count_ok (length iq) ≡ true → all_finite iq ≡ true → carrier_ok fs hint ≡ true
      → places_ok (step_blocks iq fs / 2) (length elements / ELEMENT) ≡ true → places_ok (step_blocks iq fs / 2) (length fits / FIT) ≡ true
      → work_ok (step_blocks iq fs) (length work) ≡ true → (a : Result Estimate Refusal) (elements-after fits_after work-after : List Float)
      → estimate_outcome a elements-after fits_after work-after ≡ estimate_rule iq fs hint elements fits work → a ≡ Ok (strong_estimate iq fs hint)
  unfolding estimate_rule
  estimate_accepts rate count finite carrier places fit_places room (Err r) elements-after fits_after work-after e =
      absurd (never_refused _ _ _ _ _ e (rate, (count, (finite, (carrier, (places, (fit_places, (room, tt))))))))
  estimate_accepts rate count finite carrier places fit_places room (Ok d) elements-after fits_after work-after e = ap Ok (estimate_done _ e).1
