-- `find_elements`, open to callers (01, part 3, with questions 1 to 6). Definitions only.
use Rattle.std.specs.Prelude.{ℕ, ◌/◌, List, [], ◌∷◌, ◌++◌, length, Float, Result}
use Rattle.row.specs.Window.{step_blocks}
use Rattle.elements.specs.declared.element.KeyedElement.{KeyedElement}
use Rattle.elements.specs.declared.keying.Found.{Found}
use Rattle.lists.specs.Records.{Handed, handed}
use Rattle.elements.specs.Element.{ELEMENT, handed_elements}
use Rattle.elements.specs.Find.{found_of, elements_found}
use Rattle.questions.specs.declared.refusals.Refusal.{Refusal}
use Rattle.questions.specs.Answers.{Outcome, outcome_of, by_questions}
use Rattle.questions.specs.Refusals.{REFUSED_CARRIER, REFUSED_PLACES, REFUSED_WORK}
use Rattle.questions.specs.Questions.{Asked, ask, recording_questions, carrier_ok, places_ok, work_ok}

-- It asks 1 to 6. The list to be filled needs floor(B/2) places.
abbrev pub find_questions : List Float → Float → Float → ℕ → ℕ → List Asked
find_questions iq fs hz elements work =
    let b = step_blocks iq fs in
    recording_questions iq fs ++ (ask REFUSED_CARRIER (carrier_ok fs hz) ∷ ask REFUSED_PLACES (places_ok (b / 2) (elements / ELEMENT)) ∷ ask REFUSED_WORK (work_ok b work) ∷ [])

-- The counts and the airtime, the elements that the list hands out, and the length of the work slice.
pub record FindResult : Type 0 where
  pub found : Found
  pub elements : Handed KeyedElement
  pub work : ℕ

-- the number and the result of each answer, with what the lent slices then hold
abbrev pub find_outcome : Result Found Refusal → List Float → List Float → Outcome (List Float × List Float) FindResult
find_outcome a elements work =
    outcome_of a (λ f. record { found = f; elements = handed_elements elements f.listed; work = length work }) (elements, work)

-- The first no is the result, and nothing is written; else what is found, and the elements in the list.
unfoldable pub find_rule : List Float → Float → Float → List Float → List Float → Outcome (List Float × List Float) FindResult
find_rule iq fs hz elements work =
    by_questions (find_questions iq fs hz (length elements) (length work))
    (record { found = found_of iq fs hz; elements = handed ELEMENT (elements_found iq fs hz) elements; work = length work })
    (elements, work)
