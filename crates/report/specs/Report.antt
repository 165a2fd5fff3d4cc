-- The report on a recording (01, part 8): every byte of it, for every input. Definitions only.
use Rattle.std.specs.Prelude.{ℕ, zero, suc, ◌/◌, List, [], ◌∷◌, length, Float, codes}
use Rattle.float.specs.Ops.{of}
use Rattle.lists.specs.Firsts.{firsts}
use Rattle.row.specs.Samples.{all_finite}
use Rattle.fits.specs.Estimate.{strong_elements}
use Rattle.engine.specs.Run.{run_figures}
use Rattle.questions.specs.Refusals.{REFUSED_COUNT, REFUSED_SAMPLE}
use Rattle.questions.specs.Questions.{Asked, ask, first_no}
use Rattle.format.specs.Bytes.{bytes_ok, part_at}
use Rattle.format.specs.Text.{line}
use Rattle.lines.specs.Lines.{run_lines}

-- fs 3,000, hint 0
abbrev pub RATE : Float
RATE = of 3000

abbrev pub HINT : Float
HINT = of 0

-- the recording: the little-endian f32 that the bytes hold
unfoldable pub recording_of : List ℕ → List Float
recording_of bytes = firsts (part_at bytes) (length bytes / 4)

-- ---- the report

-- Refused: the one line `(run N)`, N the number.
abbrev pub refusal : ℕ → List ℕ
refusal n = line (codes "(run") (n ∷ [])

-- By the number of the first no: 0 accepts, with the report of the run; any other refuses.
unfoldable pub answered : ℕ → List Float → List ℕ
answered zero iq = run_lines (run_figures iq RATE HINT) (strong_elements iq RATE HINT)
answered (suc n) iq = refusal (suc n)

-- What the program asks of its input: 2, bytes a multiple of 8, at most 16,384; 3, every number finite. The others are
-- about what it has itself, and each answer is yes.
abbrev pub report_questions : List ℕ → List Asked
report_questions bytes = ask REFUSED_COUNT (bytes_ok (length bytes)) ∷ ask REFUSED_SAMPLE (all_finite (recording_of bytes)) ∷ []

unfoldable pub report_of : List ℕ → List ℕ
report_of bytes = answered (first_no (report_questions bytes)) (recording_of bytes)

-- how many bytes a lent buffer has: `report_fits` of the proofs says that this is enough
abbrev pub ROOM : ℕ
ROOM = 16768
