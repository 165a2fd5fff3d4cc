-- 01's questions: each is one Bool, a call's order is one list of them with their numbers, and the first no is the
-- result, by its number. Questions 1 and 3 are `rate_ok` and `all_finite` of crate row. Definitions only.
use Rattle.std.specs.Prelude.{ℕ, ◌*◌, ◌/◌, ◌%◌, Bool, ◌&&◌, cond, List, [], ◌∷◌, ◌++◌, leb, eqb, length, Float}
use Rattle.std.specs.Float.Ieee.{lt, le, eq}
use Rattle.lists.specs.Every.{every}
use Rattle.float.specs.Ops.{◌⊘◌, plus_zero, two}
use Rattle.float.specs.Compare.{abs_of}
use Rattle.float.specs.Whole.{floor_of}
use Rattle.float.specs.Size.{finite_f, sized, 2^}
use Rattle.row.specs.Samples.{all_finite}
use Rattle.row.specs.Window.{rate_ok, step_of, step_blocks}
use Rattle.elements.specs.declared.element.KeyedElement.{KeyedElement}
use Rattle.elements.specs.Element.{ELEMENT, element_at}
use Rattle.fits.specs.declared.fit.ElementFit.{ElementFit}
use Rattle.fits.specs.List.{FIT, fit_at}
use Rattle.questions.specs.Refusals.{REFUSED_RATE, REFUSED_COUNT, REFUSED_SAMPLE, REFUSED_CARRIER, REFUSED_PLACES, REFUSED_WORK, REFUSED_GIVEN}

-- a question with its number, and whether the answer is yes
pub data Asked : Type 0 where
  ask : ℕ → Bool → Asked

-- The first no is the result, by its number; 0 where every answer is yes.
unfoldable pub first_no : List Asked → ℕ
first_no [] = 0
first_no (ask number answer ∷ qs) = cond answer (first_no qs) number

-- 2. Is the f32 count even and at most 2,097,152?
unfoldable pub count_ok : ℕ → Bool
count_ok n = eqb (n % 2) 0 && leb n 2097152

-- Every call that is lent a recording asks 1 to 3 first; what it asks then stands in its own file.
abbrev pub recording_questions : List Float → Float → List Asked
recording_questions iq fs = ask REFUSED_RATE (rate_ok fs) ∷ ask REFUSED_COUNT (count_ok (length iq)) ∷ ask REFUSED_SAMPLE (all_finite iq) ∷ []

-- 4. Is the hint or the carrier finite, of size at most fs/2?
unfoldable pub carrier_ok : Float → Float → Bool
carrier_ok fs hz = finite_f hz && le (abs_of hz) (fs ⊘ two)

-- 5. Has a list to be filled enough places?
abbrev pub places_ok : ℕ → ℕ → Bool
places_ok need places = leb need places

-- 6. Has the f64 work slice at least 4 × B numbers?
unfoldable pub work_ok : ℕ → ℕ → Bool
work_ok b len = leb (4 * b) len

-- B = floor(n/step), of a recording that is lent as so many numbers, two a sample, for whoever has to lend enough; 0
-- where question 1 refuses fs
unfoldable pub blocks_for : ℕ → Float → ℕ
blocks_for len fs = cond (rate_ok fs) (len / 2 / step_of fs) 0

-- 7. Is a given number finite and of size at most 2^200?
unfoldable pub size_ok : Float → Bool
size_ok x = finite_f x && sized x

-- Is a given up or down a whole number from 0, below 2^20?
unfoldable pub position_ok : Float → Bool
position_ok x = le plus_zero x && lt x (2^ 20) && eq (floor_of x) x

-- Are the numbers of a given element such numbers?
unfoldable pub element_ok : KeyedElement → Bool
element_ok e = size_ok e.start && size_ok e.end && position_ok e.up && position_ok e.down

-- Does a given count fit the places of its list, and is every record there, at the first `count` places, accepted?
unfoldable pub all_ok : {A : Type 0} → (A → Bool) → (ℕ → A) → ℕ → ℕ → Bool
all_ok ok at places count = leb count places && every (λ p. ok (at p)) count

abbrev pub elements_ok : List Float → ℕ → Bool
elements_ok l count = all_ok element_ok (element_at l) (length l / ELEMENT) count

-- Are the numbers of a given fit such numbers?
unfoldable pub fit_ok : ElementFit → Bool
fit_ok f =
    element_ok f.element && size_ok f.gain.re && size_ok f.gain.im && size_ok f.slope_rad_per_sample
    && size_ok f.ref_sample

abbrev pub fits_ok : List Float → ℕ → Bool
fits_ok l count = all_ok fit_ok (fit_at l) (length l / FIT) count

-- Are those of a given estimate: its carrier and carrier step, its elements and its fits?
unfoldable pub estimate_ok : Float → Float → List Float → ℕ → List Float → ℕ → Bool
estimate_ok carrier step elements element_count fits fit_count =
    size_ok carrier && size_ok step && elements_ok elements element_count && fits_ok fits fit_count

-- ---- what more than one call asks

-- `estimate_strong` and the run ask 1 to 6. Each of the two lists to be filled needs floor(B/2) places.
abbrev pub estimate_questions : List Float → Float → Float → ℕ → ℕ → ℕ → List Asked
estimate_questions iq fs hint elements fits work =
    let b = step_blocks iq fs in
    recording_questions iq fs
    ++ (ask REFUSED_CARRIER (carrier_ok fs hint) ∷ ask REFUSED_PLACES (places_ok (b / 2) (elements / ELEMENT))
    ∷ ask REFUSED_PLACES (places_ok (b / 2) (fits / FIT)) ∷ ask REFUSED_WORK (work_ok b work) ∷ [])

-- `residual_check` and `second_carrier_evidence` ask 1, 2, 3, 6 and 7: of the recording, the work slice and the given
-- estimate.
abbrev pub measure_questions : List Float → Float → Float → Float → List Float → ℕ → List Float → ℕ → ℕ → List Asked
measure_questions iq fs hz step elements element_count fits fit_count work =
    recording_questions iq fs
    ++ (ask REFUSED_WORK (work_ok (step_blocks iq fs) work) ∷ ask REFUSED_GIVEN (estimate_ok hz step elements element_count fits fit_count) ∷ [])
