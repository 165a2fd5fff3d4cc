-- What the run answers when the program lends it its own lists: of 01's questions only the third can be no. And what
-- the report then is. Assumes nothing.
use Prim.Native.Nat.{ℕ, zero, suc, ◌*◌, ◌/◌, ◌%◌, ◌≤◌}
use native.Mathlib.Omega.{arith}
use mathlib.Core.Path.{◌≡◌, refl, sym, ap, ◌∙◌}
use mathlib.Core.Bool.{true, false}
use mathlib.Core.List.{List, [], ◌∷◌}
use lib.Dec.{leb, eqb}
use lib.ListN.{length, take}
use lib.Ieee.{Float, nan, of_bits, of_int, round, le, lt, eq, div, is_nan}
use borrow.Author.Tests.{le-leb, eq-eqb, eqb-true}
use Rattle.float.specs.Ops.{bits}
use Rattle.float.specs.Compare.{abs_of}
use Rattle.float.specs.Size.{finite_f}
use Rattle.row.specs.Samples.{all_finite}
use Rattle.row.specs.Window.{rate_ok, step_blocks}
use Rattle.lists.specs.Fill.{fill}
use Rattle.lists.proofs.Every.{and_left}
use Rattle.lists.proofs.Fill.{part_fill}
use Rattle.elements.specs.Element.{ELEMENT, handed_elements, elements_in}
use Rattle.elements.proofs.Records.{elements_read}
use Rattle.elements.proofs.Recording.{listed_counted}
use Rattle.fits.specs.List.{FIT}
use Rattle.fits.specs.Estimate.{refined, strong_elements, strong_estimate}
use Rattle.engine.specs.declared.run.RunFigures.{RunFigures}
use Rattle.engine.specs.Run.{run_figures}
use Rattle.questions.specs.Answers.{refused, accepted, by_number}
use Rattle.questions.specs.Refusals.{REFUSED_COUNT, REFUSED_SAMPLE}
use Rattle.questions.specs.Questions.{ask, first_no, count_ok, carrier_ok, places_ok, work_ok, estimate_questions}
use Rattle.cancel.specs.Running.{RunResult, run_rule}
use Rattle.cancel.proofs.RunAccepted.{run_done}
use Rattle.format.specs.Bytes.{bytes_ok, INPUT, part_at}
use Rattle.format.proofs.Laws.{too_many}
use Rattle.lines.specs.Lines.{run_lines}
use Rattle.report.specs.Report.{RATE, HINT, recording_of, refusal, answered, report_of}
use Rattle.report.proofs.Room.{blocks_few, listed_few}

-- ---- the code's literals
rate_bits : bits 0x40a7_7000_0000_0000 ≡ RATE
unfolding of_bits of_int round
rate_bits = refl

hint_bits : bits 0 ≡ HINT
unfolding of_bits of_int round
hint_bits = refl

-- ---- the questions

rate_yes : rate_ok RATE ≡ true
unfolding rate_ok le of_int round
rate_yes = refl

hint_yes : carrier_ok RATE HINT ≡ true
unfolding carrier_ok finite_f abs_of le lt eq div of_int of_bits round is_nan
hint_yes = refl

count_yes : (n : ℕ) → n % 2 ≡ 0 → n ≤ 4096 → count_ok n ≡ true
unfolding count_ok
count_yes n even few = rw (eq-eqb (n % 2) 0 even, le-leb n 2097152 (omega arith))

module _ (iq : List Float) (even : length iq % 2 ≡ 0) (few : length iq ≤ 4096) where
  places_yes : (width n : ℕ) → 1024 ≤ n / width → places_ok (step_blocks iq RATE / 2) (n / width) ≡ true
  places_yes width n h = let blocks = blocks_few iq few in le-leb (step_blocks iq RATE / 2) (n / width) (omega arith)

  work_yes : (n : ℕ) → 8192 ≤ n → work_ok (step_blocks iq RATE) n ≡ true
  unfolding work_ok
  work_yes n h = let blocks = blocks_few iq few in le-leb (4 * step_blocks iq RATE) n (omega arith)

  only_third : (elements fits work : ℕ) → 4096 ≤ elements → 8192 ≤ fits → 8192 ≤ work
      → first_no (estimate_questions iq RATE HINT elements fits work) ≡ first_no (ask REFUSED_SAMPLE (all_finite iq) ∷ [])
  unfolding first_no
  only_third elements fits work a b c =
      let places : 1024 ≤ elements / ELEMENT = omega arith in
      let places-of-fits : 1024 ≤ fits / FIT = omega arith in
      rw (rate_yes, count_yes (length iq) even few, hint_yes, places_yes ELEMENT elements places, places_yes FIT fits places-of-fits, work_yes work c)

-- ---- the two answers

refused_first : {L A : Type 0} (first : ℕ) (result : A) (lent : L) (n : ℕ) (l : L) (iq : List Float) → refused n l ≡ by_number first result lent → answered first iq ≡ refusal n
unfolding by_number answered
refused_first zero result lent n l iq e = let never : ◌≡◌ {A = ℕ} 0 1 = cc in absurd (omega arith)
refused_first (suc first) result lent n l iq e = let same : suc first ≡ n = cc in ap refusal same

module _ (iq : List Float) (fs hint : Float) (elements fits work : List Float) where
  -- the program's own lists are long enough
  pub record Lent : Type 0 where
    pub is_rate : fs ≡ RATE
    pub is_hint : hint ≡ HINT
    pub even : length iq % 2 ≡ 0
    pub few : length iq ≤ 4096
    pub elements_places : 4096 ≤ length elements
    pub fits_places : 8192 ≤ length fits
    pub work_numbers : 8192 ≤ length work

-- what the program lends, at the rate and the hint that it asks with
pub lends : (iq elements fits work : List Float) → length iq % 2 ≡ 0 → length iq ≤ 4096 → 4096 ≤ length elements → 8192 ≤ length fits → 8192 ≤ length work
    → Lent iq (bits 0x40a7_7000_0000_0000) (bits 0) elements fits work
lends iq elements fits work even few places places-of-fits numbers =
    record { is_rate = rate_bits; is_hint = hint_bits; even = even; few = few; elements_places = places; fits_places = places-of-fits; work_numbers = numbers }

module _ {iq : List Float} {fs hint : Float} {elements fits work : List Float} where
  third : Lent iq fs hint elements fits work → first_no (estimate_questions iq fs hint (length elements) (length fits) (length work)) ≡ first_no (ask REFUSED_SAMPLE (all_finite iq) ∷ [])
  third l =
      rw (l.is_rate, l.is_hint)
      (only_third iq l.even l.few (length elements) (length fits) (length work) l.elements_places l.fits_places l.work_numbers)

  pub refused_is : (n : ℕ) (lent : List Float × List Float × List Float × List Float) → refused n lent ≡ run_rule iq fs hint elements fits work → Lent iq fs hint elements fits work
      → answered (first_no (ask REFUSED_SAMPLE (all_finite iq) ∷ [])) iq ≡ refusal n
  unfolding run_rule
  refused_is n lent e l = ap (λ (k : ℕ). answered k iq) (sym (third l)) ∙ refused_first _ _ _ n lent iq e

  -- of an accepted run with these figures, and elements in a list
  module _ (q : RunResult) (e : accepted q ≡ run_rule iq fs hint elements fits work) (f : RunFigures) (els : List Float) (is_f : q.figures ≡ f)
      (is-els : q.elements ≡ handed_elements els f.estimate.found.listed) (l : Lent iq fs hint elements fits work) where
    figures_are : f ≡ run_figures iq RATE HINT
    figures_are = sym is_f ∙ (run_done iq fs hint elements fits work q e).1 ∙ rw (l.is_rate, l.is_hint)

    elements_are : elements_in els f.estimate.found.listed ≡ strong_elements iq RATE HINT
    elements_are =
        elements_read els elements f.estimate.found.listed (strong_elements iq fs hint) (sym is-els ∙ (run_done iq fs hint elements fits work q e).3)
        ∙ rw (l.is_rate, l.is_hint)

    none_first : first_no (ask REFUSED_SAMPLE (all_finite iq) ∷ []) ≡ 0
    none_first = sym (third l) ∙ (run_done iq fs hint elements fits work q e).0

    pub done_is : answered (first_no (ask REFUSED_SAMPLE (all_finite iq) ∷ [])) iq ≡ run_lines f (elements_in els f.estimate.found.listed)
    unfolding answered
    done_is = rw (none_first, elements_are) (ap (λ (g : RunFigures). run_lines g (strong_elements iq RATE HINT)) (sym figures_are))

    done_listed : f.estimate.found.listed ≤ 1024
    unfolding run_figures strong_estimate strong_elements
    done_listed =
        let same = ap (λ (g : RunFigures). g.estimate.found.listed) figures_are in
        let counted = listed_counted iq RATE (refined iq RATE HINT) in
        let most = listed_few iq l.few in
        omega arith

    pub done_places : 4096 ≤ length els → ELEMENT * f.estimate.found.listed ≤ length els
    done_places places = let few-listed = done_listed in omega arith

-- ---- the report

pub report_refused : (bytes : List ℕ) → bytes_ok (length bytes) ≡ false → report_of bytes ≡ refusal REFUSED_COUNT
unfolding report_of first_no answered
report_refused bytes h = rw h

-- of more bytes than a recording may have
pub report_full : (bytes : List ℕ) → INPUT ≤ length bytes → report_of bytes ≡ refusal REFUSED_COUNT
report_full bytes h = report_refused bytes (too_many (length bytes) h)

pub report_answered : (bytes : List ℕ) → bytes_ok (length bytes) ≡ true → report_of bytes ≡ answered (first_no (ask REFUSED_SAMPLE (all_finite (recording_of bytes)) ∷ [])) (recording_of bytes)
unfolding report_of first_no
report_answered bytes h = rw h

-- an accepted recording has its two parts a sample
pub whole_samples : (n : ℕ) → bytes_ok n ≡ true → n / 4 % 2 ≡ 0
unfolding bytes_ok
whole_samples n h = let eight = eqb-true (n % 8) 0 (and_left (eqb (n % 8) 0) (leb n 16384) h) in omega arith

-- what stands at the start of the program's array
pub recording_read : (l : List Float) (bytes : List ℕ) → length bytes / 4 ≤ length l → take (length bytes / 4) (fill l 0 (part_at bytes) (length bytes / 4)) ≡ recording_of bytes
unfolding recording_of
recording_read l bytes h = part_fill l 0 (part_at bytes) (length bytes / 4) nan (omega arith)
