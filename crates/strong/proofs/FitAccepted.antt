-- `fit_elements`: what it goes on with where every answer is yes, and what its promise says. Assumes nothing.
use Prim.Native.Nat.{ℕ, ◌*◌, ◌/◌, ◌≤◌}
use mathlib.Core.Path.{◌≡◌, refl, ap}
use mathlib.Core.Bool.{true, false}
use mathlib.Core.List.{List, Memᴰ}
use lib.ListN.{length}
use lib.Ieee.{Float}
use Rattle.row.specs.Window.{Rate, rate_ok, step_blocks}
use Rattle.row.specs.Samples.{Iq, all_finite}
use Rattle.row.proofs.Steps.{rate_is}
use Rattle.lists.specs.Records.{Handed, handed}
use Rattle.elements.specs.Element.{ELEMENT}
use Rattle.fits.specs.declared.fit.ElementFit.{ElementFit}
use Rattle.fits.specs.List.{FIT}
use Rattle.fits.specs.Inner.{AllTimed}
use Rattle.std.specs.Prelude.{Result, Ok, Err}
use Rattle.questions.specs.declared.refusals.Refusal.{Refusal}
use Rattle.questions.specs.Answers.{accepted, refused}
use Rattle.questions.specs.Questions.{first_no, ask, count_ok, carrier_ok, places_ok, work_ok, elements_ok}
use Rattle.strong.specs.Fit.{fit_questions, FitResult, fits_given, fit_rule, fit_outcome}
use Rattle.questions.proofs.FirstNo.{yes_at}
use Rattle.questions.proofs.Given.{all_timed, elements_fit}
use Rattle.questions.proofs.Accepted.{recording_is, fit_places, work_room}
use Rattle.questions.proofs.Calls.{accepted_by, refused_asked, never_refused}

pub record FitAccepted (iq : List Float) (fs : Float) (elements : List Float) (count fits work : ℕ) : Type 0 where
  pub iq_ok : Iq iq
  pub rate_ok_lem : Rate fs
  pub timed : AllTimed elements count
  pub given : ELEMENT * count ≤ length elements
  pub fit_room : FIT * count ≤ fits
  pub room : 4 * step_blocks iq fs ≤ work

pub fit_accepted : (iq : List Float) (fs hz : Float) (elements : List Float) (count fits work : ℕ) → first_no (fit_questions iq fs hz elements count fits work) ≡ 0
    → FitAccepted iq fs elements count fits work
fit_accepted iq fs hz elements count fits work all =
    let yes = yes_at (fit_questions iq fs hz elements count fits work) refl all in
    record {
      iq_ok = recording_is iq (yes 1) (yes 2);
      rate_ok_lem = rate_is fs (yes 0);
      timed = all_timed elements count (yes 6);
      given = elements_fit elements count (yes 6);
      fit_room = fit_places count fits (yes 4);
      room = work_room (step_blocks iq fs) work (yes 5);
    }

-- a result is the same as another if its parts are
pub fit_result : (m n : ℕ) (h i : Handed ElementFit) (v w : ℕ) → m ≡ n → h ≡ i → v ≡ w
    → ◌≡◌ {A = FitResult} (record { fitted = m; fits = h; work = v }) (record { fitted = n; fits = i; work = w })
fit_result m n h i v w a b c = rw (a, b, c)

-- ---- what its promise says of a refusal, and of an accepted call

module _ (iq : List Float) (fs hz : Float) (elements : List Float) (count : ℕ) (fits work : List Float) where
  pub fit_done : (r : FitResult) → accepted r ≡ fit_rule iq fs hz elements count fits work
      → (first_no (fit_questions iq fs hz elements count (length fits) (length work)) ≡ 0) × (r.fitted ≡ length (fits_given iq fs hz elements count))
      × (r.fits ≡ handed FIT (fits_given iq fs hz elements count) fits)
  unfolding fit_rule
  fit_done r e =
      let told = accepted_by _ _ _ r e in
      (told.0, ap (λ (r : FitResult). r.fitted) told.1, ap (λ (r : FitResult). r.fits) told.1)

  -- its number is that of a question it asks, answered no
  pub fit_number : (n : ℕ) (lent : List Float × List Float) → refused n lent ≡ fit_rule iq fs hz elements count fits work
      → Memᴰ (ask n false) (fit_questions iq fs hz elements count (length fits) (length work))
  unfolding fit_rule
  fit_number n lent e = refused_asked _ _ _ n lent e

  -- What 01 accepts is never refused: with a yes to each question, 1 to 7, the answer is Ok, with the result of 01.
  pub fit_accepts : rate_ok fs ≡ true → count_ok (length iq) ≡ true → all_finite iq ≡ true → carrier_ok fs hz ≡ true
      → places_ok count (length fits / FIT) ≡ true → work_ok (step_blocks iq fs) (length work) ≡ true → elements_ok elements count ≡ true
      → (a : Result ℕ Refusal) (fits_after work-after : List Float) → fit_outcome a fits_after work-after ≡ fit_rule iq fs hz elements count fits work
      → a ≡ Ok (length (fits_given iq fs hz elements count))
  unfolding fit_rule
  fit_accepts rate samples finite carrier places room given (Err r) fits_after work-after e =
      absurd (never_refused _ _ _ _ _ e (rate, (samples, (finite, (carrier, (places, (room, (given, tt))))))))
  fit_accepts rate samples finite carrier places room given (Ok m) fits_after work-after e = ap Ok (fit_done _ e).1
