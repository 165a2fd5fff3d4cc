-- How many figures each call answers, and where in them a group starts, in the order of include/cancel.h. Definitions
-- only.
use Rattle.std.specs.Prelude.{ℕ}

abbrev pub ROW_FIGURES : ℕ
ROW_FIGURES = 3

abbrev pub FIND_FIGURES : ℕ
FIND_FIGURES = 4

abbrev pub FIT_FIGURES : ℕ
FIT_FIGURES = 1

abbrev pub ESTIMATE_FIGURES : ℕ
ESTIMATE_FIGURES = 7

abbrev pub CLASSES_FIGURES : ℕ
CLASSES_FIGURES = 5

abbrev pub RESIDUAL_FIGURES : ℕ
RESIDUAL_FIGURES = 5

abbrev pub EVIDENCE_FIGURES : ℕ
EVIDENCE_FIGURES = 5

abbrev pub CLASSIFY_FIGURES : ℕ
CLASSIFY_FIGURES = 2

abbrev pub CLEAN_FIGURES : ℕ
CLEAN_FIGURES = 1

abbrev pub RUN_FIGURES : ℕ
RUN_FIGURES = 28

-- A residual check that is given: the first figures of residual_check, which are its record.
abbrev pub CHECK_FIGURES : ℕ
CHECK_FIGURES = 5

-- Of estimate_strong: carrier and carrier step, then the counts of the second find and fit.
abbrev pub ESTIMATE_COUNTS : ℕ
ESTIMATE_COUNTS = 2

-- Of residual_check: the two ratios, then the blocks of each class.
abbrev pub RESIDUAL_COUNTS : ℕ
RESIDUAL_COUNTS = 2

-- Of a run: samples and window; the key-downs' counts; the blocks and their classes; carrier and carrier step; the
-- residual check's; the evidence's; the hypothesis' two; the word.
abbrev pub RUN_KEY_DOWNS : ℕ
RUN_KEY_DOWNS = 2

abbrev pub RUN_LISTED : ℕ
RUN_LISTED = 3

abbrev pub RUN_SHORT : ℕ
RUN_SHORT = 4

abbrev pub RUN_FITTED : ℕ
RUN_FITTED = 5

abbrev pub RUN_SKIPPED : ℕ
RUN_SKIPPED = 6

abbrev pub RUN_BLOCKS : ℕ
RUN_BLOCKS = 8

abbrev pub RUN_EDGE : ℕ
RUN_EDGE = 9

abbrev pub RUN_INTERIOR : ℕ
RUN_INTERIOR = 10

abbrev pub RUN_GAP : ℕ
RUN_GAP = 11

abbrev pub RUN_OTHER : ℕ
RUN_OTHER = 12

abbrev pub RUN_CARRIER : ℕ
RUN_CARRIER = 13

abbrev pub RUN_RESIDUAL : ℕ
RUN_RESIDUAL = 15

abbrev pub RUN_EVIDENCE : ℕ
RUN_EVIDENCE = 20

abbrev pub RUN_HYPOTHESIS : ℕ
RUN_HYPOTHESIS = 25

abbrev pub RUN_TAKEN : ℕ
RUN_TAKEN = 27
