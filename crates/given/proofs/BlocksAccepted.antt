-- `block_classes`: what it goes on with where every answer is yes, what a list of classes then hands out, and what its
-- promise says. Assumes nothing.
use Prim.Native.Nat.{ℕ, ◌-◌, ◌*◌, ◌/◌, ◌%◌, ◌≤◌}
use native.Mathlib.Omega.{arith}
use mathlib.Core.Path.{◌≡◌, refl, sym, ap, ◌∙◌}
use mathlib.Core.Bool.{true, false}
use mathlib.Core.List.{List, Memᴰ}
use lib.Dec.{leb, eqb}
use lib.ListN.{length, take, drop}
use lib.Seq.{take_at}
use lib.Ieee.{Float}
use borrow.Author.Tests.{leb-true}
use borrow.Rule.Slice.PartMut.{mid_of, post_of, put_mid, same_len_mid}
use Rattle.lists.proofs.Every.{and_right}
use Rattle.row.specs.Window.{Rate, rate_ok}
use Rattle.row.proofs.Steps.{rate_is}
use Rattle.lists.specs.Records.{handed, handed_numbers}
use Rattle.elements.specs.Element.{ELEMENT}
use Rattle.lists.proofs.Records.{numbers_handed}
use Rattle.fits.specs.List.{FIT}
use Rattle.classes.specs.declared.class.BlockClass.{BlockClass}
use Rattle.classes.specs.declared.classify.ClassCounts.{ClassCounts}
use Rattle.classes.specs.Class.{codes_of}
use Rattle.classes.specs.Classify.{counts_of, counts_in}
use Rattle.classes.proofs.Classes.{codes_length}
use Rattle.classes.proofs.Counts.{counts_hold}
use Rattle.given.specs.declared.blocks.BlockClasses.{BlockClasses}
use Rattle.std.specs.Prelude.{Result, Ok, Err}
use Rattle.questions.specs.declared.refusals.Refusal.{Refusal}
use Rattle.questions.specs.Answers.{accepted, refused}
use Rattle.questions.specs.Questions.{first_no, ask, count_ok, places_ok, estimate_ok}
use Rattle.given.specs.Blocks.{blocks_in, classes_questions, classes_given, block_classes_of, ClassesResult, classes_rule, classes_outcome}
use Rattle.questions.proofs.FirstNo.{yes_at}
use Rattle.questions.proofs.Given.{estimate_sized}
use Rattle.questions.proofs.Calls.{accepted_by, refused_asked, never_refused}

pub record ClassesAccepted (iq_len : ℕ) (fs : Float) (elements : List Float) (element_count : ℕ) (fits : List Float) (fit_count places : ℕ) : Type 0 where
  pub rate_ok_lem : Rate fs
  pub short : iq_len / 2 ≤ 1048576
  pub element_room : ELEMENT * element_count ≤ length elements
  pub fit_room : FIT * fit_count ≤ length fits
  pub room : blocks_in iq_len fs ≤ places

-- 2
few_samples : (n : ℕ) → count_ok n ≡ true → n / 2 ≤ 1048576
unfolding count_ok
few_samples n h = let most = leb-true n 2097152 (and_right (eqb (n % 2) 0) (leb n 2097152) h) in omega arith

pub classes_accepted : (iq_len : ℕ) (fs hz step : Float) (elements : List Float) (element_count : ℕ) (fits : List Float) (fit_count places : ℕ)
    → first_no (classes_questions iq_len fs hz step elements element_count fits fit_count places) ≡ 0
    → ClassesAccepted iq_len fs elements element_count fits fit_count places
classes_accepted iq_len fs hz step elements element_count fits fit_count places all =
    let yes = yes_at (classes_questions iq_len fs hz step elements element_count fits fit_count places) refl all in
    let given = estimate_sized hz step elements element_count fits fit_count (yes 3) in
    record {
      rate_ok_lem = rate_is fs (yes 0);
      short = few_samples iq_len (yes 1);
      element_room = given.element_room;
      fit_room = given.fit_room;
      room = leb-true (blocks_in iq_len fs) places (yes 2);
    }

-- ---- the list l, once its first part is back with the numbers of the classes
module _ (class : ℕ → BlockClass) (n blocks : ℕ) (l ys : List Float) (all : blocks ≡ n) (labelled : ys ≡ codes_of class n) where
  back : (k : ℕ) → take blocks (put_mid 0 k l ys) ≡ codes_of class n
  back k = take_at ys (post_of 0 k l) blocks (codes_length class n ys labelled ∙ sym all) ∙ labelled

  classes_handed : length ys ≡ length (mid_of 0 (blocks - 0) l) → handed_numbers (put_mid 0 (blocks - 0) l ys) blocks ≡ handed 1 (codes_of class n) l
  classes_handed size = numbers_handed l (put_mid 0 (blocks - 0) l ys) (codes_of class n) blocks (same_len_mid 0 (blocks - 0) l ys size) (back (blocks - 0))

  classes_counted : (r : ClassCounts) → r ≡ counts_in (take (blocks - 0) (drop 0 (put_mid 0 (blocks - 0) l ys))) → r ≡ counts_of class n
  classes_counted r e =
      let whole : blocks - 0 ≡ blocks = omega arith in
      (rw whole at e) ∙ counts_hold class n _ (back blocks)

-- the result that is then answered
pub classes_made : (iq_len : ℕ) (fs : Float) (elements : List Float) (element_count : ℕ) (fits : List Float) (fit_count blocks : ℕ) (r : ClassCounts) (l ys : List Float)
    → blocks ≡ blocks_in iq_len fs → ys ≡ codes_of (classes_given iq_len fs elements element_count fits fit_count) (blocks_in iq_len fs)
    → r ≡ counts_in (take (blocks - 0) (drop 0 (put_mid 0 (blocks - 0) l ys))) → length ys ≡ length (mid_of 0 (blocks - 0) l)
    → ◌≡◌ {A = ClassesResult} (record { blocks = record { blocks = blocks; counts = r }; classes = handed_numbers (put_mid 0 (blocks - 0) l ys) blocks })
    (record {
      blocks = block_classes_of iq_len fs elements element_count fits fit_count;
      classes = handed 1 (codes_of (classes_given iq_len fs elements element_count fits fit_count) (blocks_in iq_len fs)) l;
    })
unfolding block_classes_of
classes_made iq_len fs elements element_count fits fit_count blocks r l ys all labelled counted size =
    let class = classes_given iq_len fs elements element_count fits fit_count in
    rw (classes_handed class (blocks_in iq_len fs) blocks l ys all labelled size, classes_counted class (blocks_in iq_len fs) blocks l ys all labelled r counted, all)

-- ---- what its promise says of a refusal, and of an accepted call

module _ (iq_len : ℕ) (fs hz step : Float) (elements : List Float) (element_count : ℕ) (fits : List Float) (fit_count : ℕ) (classes : List Float) where
  pub classes_done : (r : ClassesResult) → accepted r ≡ classes_rule iq_len fs hz step elements element_count fits fit_count classes
      → (r.blocks ≡ block_classes_of iq_len fs elements element_count fits fit_count)
      × (r.classes ≡ handed 1 (codes_of (classes_given iq_len fs elements element_count fits fit_count) (blocks_in iq_len fs)) classes)
  unfolding classes_rule
  classes_done r e =
      let told = accepted_by _ _ _ r e in
      (ap (λ (r : ClassesResult). r.blocks) told.1, ap (λ (r : ClassesResult). r.classes) told.1)

  -- how many blocks it counts
  pub blocks_told : (r : ClassesResult) → accepted r ≡ classes_rule iq_len fs hz step elements element_count fits fit_count classes → r.blocks.blocks ≡ blocks_in iq_len fs
  unfolding block_classes_of
  blocks_told r e = ap (λ (b : BlockClasses). b.blocks) (classes_done r e).0

  -- its number is that of a question it asks, answered no
  pub classes_number : (n : ℕ) (lent : List Float) → refused n lent ≡ classes_rule iq_len fs hz step elements element_count fits fit_count classes
      → Memᴰ (ask n false) (classes_questions iq_len fs hz step elements element_count fits fit_count (length classes))
  unfolding classes_rule
  classes_number n lent e = refused_asked _ _ _ n lent e

  -- What 01 accepts is never refused: with a yes to each question, 1, 2, 5 and 7, the answer is Ok, with the result
  -- of 01.
  pub classes_accepts : rate_ok fs ≡ true → count_ok iq_len ≡ true → places_ok (blocks_in iq_len fs) (length classes) ≡ true
      → estimate_ok hz step elements element_count fits fit_count ≡ true → (a : Result BlockClasses Refusal) (classes-after : List Float)
      → classes_outcome a classes-after ≡ classes_rule iq_len fs hz step elements element_count fits fit_count classes
      → a ≡ Ok (block_classes_of iq_len fs elements element_count fits fit_count)
  unfolding classes_rule
  classes_accepts rate count places given (Err r) classes-after e = absurd (never_refused _ _ _ _ _ e (rate, (count, (places, (given, tt)))))
  classes_accepts rate count places given (Ok b) classes-after e = ap Ok (classes_done _ e).0
