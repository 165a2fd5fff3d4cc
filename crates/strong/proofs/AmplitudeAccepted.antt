-- `amplitude_row`: what it goes on with where every answer is yes, and what its promise says. Assumes nothing.
use Prim.Native.Nat.{ℕ, ◌*◌, ◌≤◌}
use mathlib.Core.Path.{◌≡◌, refl, ap}
use mathlib.Core.Bool.{true, false}
use mathlib.Core.List.{List, Memᴰ}
use lib.ListN.{length}
use lib.Ieee.{Float}
use borrow.Author.Tests.{leb-true}
use Rattle.lists.specs.Firsts.{firsts}
use Rattle.row.specs.Window.{Rate, rate_ok, step_blocks}
use Rattle.row.specs.Samples.{Iq, all_finite}
use Rattle.row.specs.Envelope.{row_of, row_length}
use Rattle.row.proofs.Steps.{rate_is}
use Rattle.elements.specs.declared.amplitude.AmplitudeRow.{AmplitudeRow}
use Rattle.lists.specs.Records.{Handed, handed}
use Rattle.elements.specs.Find.{amplitude_row_of}
use Rattle.std.specs.Prelude.{Result, Ok, Err}
use Rattle.questions.specs.declared.refusals.Refusal.{Refusal}
use Rattle.questions.specs.Answers.{accepted, refused}
use Rattle.questions.specs.Questions.{first_no, ask, count_ok, carrier_ok, places_ok, work_ok}
use Rattle.strong.specs.Amplitude.{row_questions, RowResult, row_rule, row_outcome}
use Rattle.questions.proofs.FirstNo.{yes_at}
use Rattle.questions.proofs.Accepted.{recording_is, work_room}
use Rattle.questions.proofs.Calls.{accepted_by, refused_asked, never_refused}

pub record RowAccepted (iq : List Float) (fs : Float) (row work : ℕ) : Type 0 where
  pub iq_ok : Iq iq
  pub rate_ok_lem : Rate fs
  pub places : row_length iq fs ≤ row
  pub room : 4 * step_blocks iq fs ≤ work

pub row_accepted : (iq : List Float) (fs hz : Float) (row work : ℕ) → first_no (row_questions iq fs hz row work) ≡ 0 → RowAccepted iq fs row work
row_accepted iq fs hz row work all =
    let yes = yes_at (row_questions iq fs hz row work) refl all in
    record {
      iq_ok = recording_is iq (yes 1) (yes 2);
      rate_ok_lem = rate_is fs (yes 0);
      places = leb-true (row_length iq fs) row (yes 4);
      room = work_room (step_blocks iq fs) work (yes 5);
    }

-- a result is the same as another if its parts are
pub row_result : (r s : AmplitudeRow) (h i : Handed Float) (v w : ℕ) → r ≡ s → h ≡ i → v ≡ w
    → ◌≡◌ {A = RowResult} (record { row = r; amplitudes = h; work = v }) (record { row = s; amplitudes = i; work = w })
row_result r s h i v w a b c = rw (a, b, c)

-- ---- what its promise says of a refusal, and of an accepted call

module _ (iq : List Float) (fs hz : Float) (row work : List Float) where
  pub row_done : (r : RowResult) → accepted r ≡ row_rule iq fs hz row work
      → (r.row ≡ amplitude_row_of iq fs hz) × (r.amplitudes ≡ handed 1 (firsts (row_of iq fs hz) (row_length iq fs)) row)
  unfolding row_rule
  row_done r e =
      let told = accepted_by _ _ _ r e in
      (ap (λ (r : RowResult). r.row) told.1, ap (λ (r : RowResult). r.amplitudes) told.1)

  -- how many amplitudes it counts
  pub row_counted : (r : RowResult) → accepted r ≡ row_rule iq fs hz row work → r.row.amplitudes ≡ row_length iq fs
  unfolding amplitude_row_of
  row_counted r e = ap (λ (a : AmplitudeRow). a.amplitudes) (row_done r e).0

  -- its number is that of a question it asks, answered no
  pub row_number : (n : ℕ) (lent : List Float × List Float) → refused n lent ≡ row_rule iq fs hz row work
      → Memᴰ (ask n false) (row_questions iq fs hz (length row) (length work))
  unfolding row_rule
  row_number n lent e = refused_asked _ _ _ n lent e

  -- What 01 accepts is never refused: with a yes to each question, 1 to 6, the answer is Ok, with the result of 01.
  pub row_accepts : rate_ok fs ≡ true → count_ok (length iq) ≡ true → all_finite iq ≡ true → carrier_ok fs hz ≡ true
      → places_ok (row_length iq fs) (length row) ≡ true → work_ok (step_blocks iq fs) (length work) ≡ true
      → (a : Result AmplitudeRow Refusal) (row-after work-after : List Float) → row_outcome a row-after work-after ≡ row_rule iq fs hz row work
      → a ≡ Ok (amplitude_row_of iq fs hz)
  unfolding row_rule
  row_accepts rate count finite carrier places room (Err r) row-after work-after e =
      absurd (never_refused _ _ _ _ _ e (rate, (count, (finite, (carrier, (places, (room, tt)))))))
  row_accepts rate count finite carrier places room (Ok r) row-after work-after e = ap Ok (row_done _ e).0
