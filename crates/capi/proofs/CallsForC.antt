-- Every call from C that asks and writes figures, by the questions, the result and what was lent of the call of crate
-- cancel: what its promise says of what it returns. (`cancel_subtract`, which writes none, has it by `number_accepts`
-- and `number_asked` of crate questions.) Assumes nothing.
use Prim.Native.Nat.{ℕ, zero, suc}
use mathlib.Core.Path.{◌≡◌, refl, ◌∙◌}
use mathlib.Core.Bool.{false}
use mathlib.Core.List.{List, Memᴰ}
use lib.Ieee.{Float}
use Rattle.questions.specs.Answers.{by_number, by_questions}
use Rattle.questions.specs.Questions.{Asked, ask, first_no}
use Rattle.questions.proofs.FirstNo.{AllYes}
use Rattle.questions.proofs.Calls.{number_accepts, number_asked}
use Rattle.capi.specs.Calls.{Called, for_c}

module _ {L A B : Type 0} (told : A → Called B) (figures : List Float) (qs : List Asked) (result : A) (lent : L) where
  -- it asks what that call asks, and its figures stand beside what was lent
  by_first : (first : ℕ) → for_c told figures (by_number first result lent) ≡ by_number first (told result) (figures, lent)
  unfolding by_number
  by_first zero = refl
  by_first (suc n) = refl

  asks_the_same : for_c told figures (by_questions qs result lent) ≡ by_questions qs (told result) (figures, lent)
  asks_the_same = by_first (first_no qs)

  module _ (n : ℕ) (called : Called B) (left : List Float × L) (promise : by_number n called left ≡ for_c told figures (by_questions qs result lent)) where
    -- What 01 accepts is never refused: with a yes to each question it returns 0, with the result of 01.
    pub c_accepts : AllYes qs → (n ≡ 0) × (called ≡ told result)
    c_accepts each = number_accepts qs (told result) (figures, lent) each n called left (promise ∙ asks_the_same)

    -- A refusal's number is that of a question asked, answered no.
    pub c_number : (n ≡ 0 → ⊥) → Memᴰ (ask n false) qs
    c_number = number_asked qs (told result) (figures, lent) n called left (promise ∙ asks_the_same)
