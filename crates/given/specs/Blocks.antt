-- `block_classes`, open to callers (01, part 5, with questions 1, 2, 5 and 7), by a given estimate. Definitions only.
use Rattle.std.specs.Prelude.{ℕ, ◌/◌, List, [], ◌∷◌, length, Float, Result}
use Rattle.row.specs.Window.{rate_ok}
use Rattle.lists.specs.Records.{Handed, handed, handed_numbers}
use Rattle.elements.specs.Element.{elements_in}
use Rattle.fits.specs.List.{fits_in}
use Rattle.classes.specs.declared.class.BlockClass.{BlockClass}
use Rattle.classes.specs.Class.{codes_of}
use Rattle.classes.specs.Classify.{blocks_of, class_of, counts_of}
use Rattle.given.specs.declared.blocks.BlockClasses.{BlockClasses}
use Rattle.questions.specs.declared.refusals.Refusal.{Refusal}
use Rattle.questions.specs.Answers.{Outcome, outcome_of, by_questions}
use Rattle.questions.specs.Refusals.{REFUSED_RATE, REFUSED_COUNT, REFUSED_PLACES, REFUSED_GIVEN}
use Rattle.questions.specs.Questions.{Asked, ask, count_ok, places_ok, estimate_ok}

-- blocks of a recording that is lent nowhere, by its f32 count alone: n is half of it
abbrev pub blocks_in : ℕ → Float → ℕ
blocks_in iq_len fs = blocks_of fs (iq_len / 2)

-- It asks 1, 2, 5 and 7: of the rate, the f32 count, the list and the given estimate. A place of the list to be filled
-- is one number, and it needs one per block.
abbrev pub classes_questions : ℕ → Float → Float → Float → List Float → ℕ → List Float → ℕ → ℕ → List Asked
classes_questions iq_len fs hz step elements element_count fits fit_count places =
    ask REFUSED_RATE (rate_ok fs) ∷ ask REFUSED_COUNT (count_ok iq_len) ∷ ask REFUSED_PLACES (places_ok (blocks_in iq_len fs) places)
    ∷ ask REFUSED_GIVEN (estimate_ok hz step elements element_count fits fit_count) ∷ []

-- The number of blocks and how many have each class, and the numbers of the classes that the list hands out.
pub record ClassesResult : Type 0 where
  pub blocks : BlockClasses
  pub classes : Handed Float

-- the number and the result of each answer, with what the lent slice then holds
abbrev pub classes_outcome : Result BlockClasses Refusal → List Float → Outcome (List Float) ClassesResult
classes_outcome a classes = outcome_of a (λ b. record { blocks = b; classes = handed_numbers classes b.blocks }) classes

-- the class of each block, by the given elements and fits; the carrier and the carrier step have no part in it
abbrev pub classes_given : ℕ → Float → List Float → ℕ → List Float → ℕ → ℕ → BlockClass
classes_given iq_len fs elements element_count fits fit_count =
    class_of fs (iq_len / 2) (fits_in fits fit_count) (elements_in elements element_count)

-- how many blocks there are, and how many have each class
unfoldable pub block_classes_of : ℕ → Float → List Float → ℕ → List Float → ℕ → BlockClasses
block_classes_of iq_len fs elements element_count fits fit_count =
    record { blocks = blocks_in iq_len fs; counts = counts_of (classes_given iq_len fs elements element_count fits fit_count) (blocks_in iq_len fs) }

-- The first no is the result, and nothing is written; else the counts, and in the list each block's class by its
-- number.
unfoldable pub classes_rule : ℕ → Float → Float → Float → List Float → ℕ → List Float → ℕ → List Float → Outcome (List Float) ClassesResult
classes_rule iq_len fs hz step elements element_count fits fit_count classes =
    by_questions (classes_questions iq_len fs hz step elements element_count fits fit_count (length classes))
    (record {
      blocks = block_classes_of iq_len fs elements element_count fits fit_count;
      classes = handed 1 (codes_of (classes_given iq_len fs elements element_count fits fit_count) (blocks_in iq_len fs)) classes;
    })
    classes
