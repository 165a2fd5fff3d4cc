-- `amplitude_row`, open to callers (01, part 2, with questions 1 to 6). Definitions only.
use Rattle.std.specs.Prelude.{ℕ, List, [], ◌∷◌, ◌++◌, length, Float, Result}
use Rattle.lists.specs.Firsts.{firsts}
use Rattle.row.specs.Window.{step_blocks}
use Rattle.row.specs.Envelope.{row_of, row_length}
use Rattle.elements.specs.declared.amplitude.AmplitudeRow.{AmplitudeRow}
use Rattle.lists.specs.Records.{Handed, handed, handed_numbers}
use Rattle.elements.specs.Find.{amplitude_row_of}
use Rattle.questions.specs.declared.refusals.Refusal.{Refusal}
use Rattle.questions.specs.Answers.{Outcome, outcome_of, by_questions}
use Rattle.questions.specs.Refusals.{REFUSED_CARRIER, REFUSED_PLACES, REFUSED_WORK}
use Rattle.questions.specs.Questions.{Asked, ask, recording_questions, carrier_ok, places_ok, work_ok}

-- It asks 1 to 6. A place of the list to be filled is one number, and it needs one per amplitude, B − 7.
abbrev pub row_questions : List Float → Float → Float → ℕ → ℕ → List Asked
row_questions iq fs hz row work =
    recording_questions iq fs
    ++ (ask REFUSED_CARRIER (carrier_ok fs hz) ∷ ask REFUSED_PLACES (places_ok (row_length iq fs) row) ∷ ask REFUSED_WORK (work_ok (step_blocks iq fs) work) ∷ [])

-- How many amplitudes there are and the threshold, the amplitudes that the list hands out, and the length of the work
-- slice.
pub record RowResult : Type 0 where
  pub row : AmplitudeRow
  pub amplitudes : Handed Float
  pub work : ℕ

-- the number and the result of each answer, with what the lent slices then hold
abbrev pub row_outcome : Result AmplitudeRow Refusal → List Float → List Float → Outcome (List Float × List Float) RowResult
row_outcome a row work = outcome_of a (λ r. record { row = r; amplitudes = handed_numbers row r.amplitudes; work = length work }) (row, work)

-- The first no is the result, and nothing is written; else the count and the threshold, and in the list the amplitude
-- row.
unfoldable pub row_rule : List Float → Float → Float → List Float → List Float → Outcome (List Float × List Float) RowResult
row_rule iq fs hz row work =
    by_questions (row_questions iq fs hz (length row) (length work))
    (record { row = amplitude_row_of iq fs hz; amplitudes = handed 1 (firsts (row_of iq fs hz) (row_length iq fs)) row; work = length work })
    (row, work)
