-- What the amplitude row and the classes of the blocks are to C: what the two calls return and leave in what they were
-- lent (include/cancel.h). Definitions only.
use Rattle.std.specs.Prelude.{ℕ, List, length, Float}
use Rattle.lists.specs.Records.{Handed, handed_numbers}
use Rattle.questions.specs.Answers.{Outcome, by_number}
use Rattle.strong.specs.Amplitude.{RowResult, row_rule}
use Rattle.given.specs.Blocks.{ClassesResult, classes_rule}
use Rattle.figures.specs.Rows.{row_figures, classes_figures}
use Rattle.capi.specs.Calls.{Called, for_c}

-- ---- cancel_amplitude_row

-- of the number that is returned, 0 for an accepted call, with what the lent slices then hold: `count` amplitudes, as
-- many as the rule counts
abbrev pub row_called : ℕ → ℕ → List Float → List Float → List Float → Outcome (List Float × (List Float × List Float)) (Called (Handed Float))
row_called n count row work figures =
    by_number n (record { figures = figures; lists = handed_numbers row count; work = length work }) (figures, (row, work))

abbrev pub row_told : RowResult → Called (Handed Float)
row_told r = record { figures = row_figures r.row; lists = r.amplitudes; work = r.work }

unfoldable pub row_call : List Float → Float → Float → List Float → List Float → List Float → Outcome (List Float × (List Float × List Float)) (Called (Handed Float))
row_call iq fs hz row work figures = for_c row_told figures (row_rule iq fs hz row work)

-- ---- cancel_block_classes

-- the same of `blocks` classes; no work slice is lent
abbrev pub classes_called : ℕ → ℕ → List Float → List Float → Outcome (List Float × List Float) (Called (Handed Float))
classes_called n blocks classes figures =
    by_number n (record { figures = figures; lists = handed_numbers classes blocks; work = 0 }) (figures, classes)

abbrev pub classes_told : ClassesResult → Called (Handed Float)
classes_told r = record { figures = classes_figures r.blocks; lists = r.classes; work = 0 }

unfoldable pub classes_call : ℕ → Float → Float → Float → List Float → ℕ → List Float → ℕ → List Float → List Float → Outcome (List Float × List Float) (Called (Handed Float))
classes_call iq_len fs hz step elements element_count fits fit_count classes figures =
    for_c classes_told figures (classes_rule iq_len fs hz step elements element_count fits fit_count classes)
