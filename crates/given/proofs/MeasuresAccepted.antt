-- `residual_check` and `second_carrier_evidence`: what they go on with where every answer is yes, and what their
-- promises say. Assumes nothing.
use Prim.Native.Nat.{ℕ, ◌*◌, ◌≤◌}
use mathlib.Core.Path.{◌≡◌, refl, ap}
use mathlib.Core.Bool.{true, false}
use mathlib.Core.List.{List, Memᴰ}
use lib.ListN.{length}
use lib.Ieee.{Float}
use Rattle.row.specs.Window.{Rate, rate_ok, step_blocks}
use Rattle.row.specs.Samples.{Iq, all_finite}
use Rattle.row.proofs.Steps.{rate_is}
use Rattle.elements.specs.Element.{elements_in}
use Rattle.fits.specs.List.{fits_in}
use Rattle.measure.specs.declared.residual.ResidualCheck.{ResidualCheck}
use Rattle.measure.specs.declared.evidence.SecondCarrierEvidence.{SecondCarrierEvidence}
use Rattle.measure.specs.Residual.{residual_check_of}
use Rattle.measure.specs.Evidence.{evidence_check_of}
use Rattle.std.specs.Prelude.{Result, Ok, Err}
use Rattle.questions.specs.declared.refusals.Refusal.{Refusal}
use Rattle.questions.specs.Answers.{refused}
use Rattle.questions.specs.Questions.{first_no, ask, count_ok, work_ok, estimate_ok, measure_questions}
use Rattle.given.specs.Residual.{ResidualResult, residual_rule, residual_outcome}
use Rattle.given.specs.Evidence.{EvidenceResult, evidence_rule, evidence_outcome}
use Rattle.questions.proofs.FirstNo.{yes_at}
use Rattle.questions.proofs.Given.{SizedEstimate, estimate_sized}
use Rattle.questions.proofs.Accepted.{recording_is, work_room}
use Rattle.questions.proofs.Calls.{accepted_by, refused_asked, never_refused}

pub record MeasureAccepted (iq : List Float) (fs hz step : Float) (elements : List Float) (element_count : ℕ) (fits : List Float) (fit_count work : ℕ) : Type 0 where
  pub iq_ok : Iq iq
  pub rate_ok_lem : Rate fs
  pub given : SizedEstimate hz step elements element_count fits fit_count
  pub room : 4 * step_blocks iq fs ≤ work

pub measure_accepted : (iq : List Float) (fs hz step : Float) (elements : List Float) (element_count : ℕ) (fits : List Float) (fit_count work : ℕ)
    → first_no (measure_questions iq fs hz step elements element_count fits fit_count work) ≡ 0 → MeasureAccepted iq fs hz step elements element_count fits fit_count work
measure_accepted iq fs hz step elements element_count fits fit_count work all =
    let yes = yes_at (measure_questions iq fs hz step elements element_count fits fit_count work) refl all in
    record {
      iq_ok = recording_is iq (yes 1) (yes 2);
      rate_ok_lem = rate_is fs (yes 0);
      given = estimate_sized hz step elements element_count fits fit_count (yes 4);
      room = work_room (step_blocks iq fs) work (yes 3);
    }

-- ---- residual_check

-- a result is the same as another if its parts are
pub residual_result : (r s : ResidualCheck) (v w : ℕ) → r ≡ s → v ≡ w → ◌≡◌ {A = ResidualResult} (record { check = r; work = v }) (record { check = s; work = w })
residual_result r s v w a b = rw (a, b)

module _ (iq : List Float) (fs hz step : Float) (elements : List Float) (element_count : ℕ) (fits : List Float) (fit_count : ℕ) (work : List Float) where
  -- its number is that of a question it asks, answered no
  pub residual_number : (n : ℕ) (lent : List Float) → refused n lent ≡ residual_rule iq fs hz step elements element_count fits fit_count work
      → Memᴰ (ask n false) (measure_questions iq fs hz step elements element_count fits fit_count (length work))
  unfolding residual_rule
  residual_number n lent e = refused_asked _ _ _ n lent e

  -- What 01 accepts is never refused: with a yes to each question, 1, 2, 3, 6 and 7, the answer is Ok, with the
  -- result of 01.
  pub residual_accepts : rate_ok fs ≡ true → count_ok (length iq) ≡ true → all_finite iq ≡ true → work_ok (step_blocks iq fs) (length work) ≡ true
      → estimate_ok hz step elements element_count fits fit_count ≡ true → (a : Result ResidualCheck Refusal) (work-after : List Float)
      → residual_outcome a work-after ≡ residual_rule iq fs hz step elements element_count fits fit_count work
      → a ≡ Ok (residual_check_of iq fs hz (fits_in fits fit_count) (elements_in elements element_count))
  unfolding residual_rule
  residual_accepts rate count finite room given (Err r) work-after e = absurd (never_refused _ _ _ _ _ e (rate, (count, (finite, (room, (given, tt))))))
  residual_accepts rate count finite room given (Ok r) work-after e = ap (λ (r : ResidualResult). Ok r.check) (accepted_by _ _ _ _ e).1

-- ---- second_carrier_evidence

-- a result is the same as another if its parts are
pub evidence_result : (r s : SecondCarrierEvidence) (v w : ℕ) → r ≡ s → v ≡ w → ◌≡◌ {A = EvidenceResult} (record { evidence = r; work = v }) (record { evidence = s; work = w })
evidence_result r s v w a b = rw (a, b)

module _ (iq : List Float) (fs hz step : Float) (elements : List Float) (element_count : ℕ) (fits : List Float) (fit_count : ℕ) (work : List Float) where
  -- its number is that of a question it asks, answered no
  pub evidence_number : (n : ℕ) (lent : List Float) → refused n lent ≡ evidence_rule iq fs hz step elements element_count fits fit_count work
      → Memᴰ (ask n false) (measure_questions iq fs hz step elements element_count fits fit_count (length work))
  unfolding evidence_rule
  evidence_number n lent e = refused_asked _ _ _ n lent e

  -- What 01 accepts is never refused: with a yes to each question, 1, 2, 3, 6 and 7, the answer is Ok, with the
  -- result of 01.
  pub evidence_accepts : rate_ok fs ≡ true → count_ok (length iq) ≡ true → all_finite iq ≡ true → work_ok (step_blocks iq fs) (length work) ≡ true
      → estimate_ok hz step elements element_count fits fit_count ≡ true → (a : Result SecondCarrierEvidence Refusal) (work-after : List Float)
      → evidence_outcome a work-after ≡ evidence_rule iq fs hz step elements element_count fits fit_count work
      → a ≡ Ok (evidence_check_of iq fs hz (fits_in fits fit_count) (elements_in elements element_count))
  unfolding evidence_rule
  evidence_accepts rate count finite room given (Err r) work-after e = absurd (never_refused _ _ _ _ _ e (rate, (count, (finite, (room, (given, tt))))))
  evidence_accepts rate count finite room given (Ok r) work-after e = ap (λ (r : EvidenceResult). Ok r.evidence) (accepted_by _ _ _ _ e).1
