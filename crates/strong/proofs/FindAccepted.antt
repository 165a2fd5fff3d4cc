-- `find_elements`: what it goes on with where every answer is yes, and what its promise says. Assumes nothing.
use Prim.Native.Nat.{ℕ, ◌*◌, ◌/◌, ◌≤◌}
use mathlib.Core.Path.{◌≡◌, refl, ap}
use mathlib.Core.Bool.{true, false}
use mathlib.Core.List.{List, Memᴰ}
use lib.ListN.{length}
use lib.Ieee.{Float}
use Rattle.row.specs.Window.{Rate, rate_ok, step_blocks}
use Rattle.row.specs.Samples.{Iq, all_finite}
use Rattle.row.proofs.Steps.{rate_is}
use Rattle.elements.specs.declared.element.KeyedElement.{KeyedElement}
use Rattle.elements.specs.declared.keying.Found.{Found}
use Rattle.lists.specs.Records.{Handed, handed}
use Rattle.elements.specs.Element.{ELEMENT}
use Rattle.elements.specs.Find.{found_of, elements_found}
use Rattle.std.specs.Prelude.{Result, Ok, Err}
use Rattle.questions.specs.declared.refusals.Refusal.{Refusal}
use Rattle.questions.specs.Answers.{accepted, refused}
use Rattle.questions.specs.Questions.{first_no, ask, count_ok, carrier_ok, places_ok, work_ok}
use Rattle.strong.specs.Find.{find_questions, FindResult, find_rule, find_outcome}
use Rattle.questions.proofs.FirstNo.{yes_at}
use Rattle.questions.proofs.Accepted.{recording_is, element_places, work_room}
use Rattle.questions.proofs.Calls.{accepted_by, refused_asked, never_refused}

pub record FindAccepted (iq : List Float) (fs : Float) (elements work : ℕ) : Type 0 where
  pub iq_ok : Iq iq
  pub rate_ok_lem : Rate fs
  pub places : ELEMENT * (step_blocks iq fs / 2) ≤ elements
  pub room : 4 * step_blocks iq fs ≤ work

pub find_accepted : (iq : List Float) (fs hz : Float) (elements work : ℕ) → first_no (find_questions iq fs hz elements work) ≡ 0
    → FindAccepted iq fs elements work
find_accepted iq fs hz elements work all =
    let yes = yes_at (find_questions iq fs hz elements work) refl all in
    record {
      iq_ok = recording_is iq (yes 1) (yes 2);
      rate_ok_lem = rate_is fs (yes 0);
      places = element_places (step_blocks iq fs / 2) elements (yes 4);
      room = work_room (step_blocks iq fs) work (yes 5);
    }

-- a result is the same as another if its parts are
pub find_result : (f g : Found) (h i : Handed KeyedElement) (v w : ℕ) → f ≡ g → h ≡ i → v ≡ w
    → ◌≡◌ {A = FindResult} (record { found = f; elements = h; work = v }) (record { found = g; elements = i; work = w })
find_result f g h i v w a b c = rw (a, b, c)

-- ---- what its promise says of a refusal, and of an accepted call

module _ (iq : List Float) (fs hz : Float) (elements work : List Float) where
  pub find_done : (r : FindResult) → accepted r ≡ find_rule iq fs hz elements work
      → (first_no (find_questions iq fs hz (length elements) (length work)) ≡ 0) × (r.found ≡ found_of iq fs hz)
      × (r.elements ≡ handed ELEMENT (elements_found iq fs hz) elements)
  unfolding find_rule
  find_done r e =
      let told = accepted_by _ _ _ r e in
      (told.0, ap (λ (r : FindResult). r.found) told.1, ap (λ (r : FindResult). r.elements) told.1)

  -- its number is that of a question it asks, answered no
  pub find_number : (n : ℕ) (lent : List Float × List Float) → refused n lent ≡ find_rule iq fs hz elements work
      → Memᴰ (ask n false) (find_questions iq fs hz (length elements) (length work))
  unfolding find_rule
  find_number n lent e = refused_asked _ _ _ n lent e

  -- What 01 accepts is never refused: with a yes to each question, 1 to 6, the answer is Ok, with the result of 01.
  pub find_accepts : rate_ok fs ≡ true → count_ok (length iq) ≡ true → all_finite iq ≡ true → carrier_ok fs hz ≡ true
      → places_ok (step_blocks iq fs / 2) (length elements / ELEMENT) ≡ true → work_ok (step_blocks iq fs) (length work) ≡ true
      → (a : Result Found Refusal) (elements-after work-after : List Float) → find_outcome a elements-after work-after ≡ find_rule iq fs hz elements work
      → a ≡ Ok (found_of iq fs hz)
  unfolding find_rule
  find_accepts rate count finite carrier places room (Err r) elements-after work-after e =
      absurd (never_refused _ _ _ _ _ e (rate, (count, (finite, (carrier, (places, (room, tt)))))))
  find_accepts rate count finite carrier places room (Ok f) elements-after work-after e = ap Ok (find_done _ e).1
