-- Every call that asks first, by its questions, its result and what it was lent: the two ways out of its code, and what
-- its promise says of a refusal and of an accepted call. A call's own file has its questions, its result and what it
-- goes on with, and cites these. Assumes nothing.
use Prim.Native.Nat.{ℕ, zero, suc}
use native.Mathlib.Omega.{arith}
use mathlib.Core.Path.{◌≡◌, refl, sym, ap, subst, ◌∙◌}
use mathlib.Core.Logic.{⊎_elim}
use mathlib.Core.Bool.{false, false≢true}
use mathlib.Core.List.{List, Memᴰ}
use Rattle.std.specs.Prelude.{Result, Ok, Err, IsErr, IsErrAnd}
use Rattle.questions.specs.declared.refusals.Refusal.{Refusal}
use Rattle.questions.specs.Refusals.{number_of}
use Rattle.questions.proofs.Numbers.{number_some}
use Rattle.questions.specs.Answers.{accepted, refused, outcome_of, by_number, by_questions}
use Rattle.questions.specs.Questions.{Asked, ask, first_no}
use Rattle.questions.proofs.FirstNo.{AllYes, all_yes, first_asked}

-- ---- the two ways out: n is the number of the first no, as the code has it

pub refuses : {L A : Type 0} (first : ℕ) (result : A) (lent : L) (n : ℕ) → n ≡ first → (n ≡ 0 → ⊥) → refused n lent ≡ by_number first result lent
unfolding by_number
refuses zero result lent n e h = absurd (h e)
refuses (suc first) result lent n e h = ap (λ k. refused k lent) e

pub accepts : {L A : Type 0} (first : ℕ) (result : A) (lent : L) (n : ℕ) (r : A) → n ≡ first → n ≡ 0 → r ≡ result → accepted r ≡ by_number first result lent
unfolding by_number
accepts first result lent n r e h q = let none : first ≡ 0 = omega arith in rw (none, q)

-- the first as the code takes it: `?` hands on the refusal r that it met, as the answer a
pub hands_on : {T L A : Type 0} (first : ℕ) (result : A) (lent : L) (res : T → A) (a : Result T Refusal) (r : Refusal) → IsErr a × IsErrAnd a (λ s. s ≡ r) → number_of r ≡ first
    → outcome_of a res lent ≡ by_number first result lent
hands_on first result lent res (Ok x) r h e = absurd (false≢true h.0)
hands_on first result lent res (Err s) r h e = rw h.1 (refuses first result lent (number_of r) e (number_some r))

-- ---- what a promise says, by the number of the first no

refused_some : {L A : Type 0} (first : ℕ) (result : A) (lent : L) (n : ℕ) (l : L) → refused n l ≡ by_number first result lent → n ≡ 0 → ⊥
unfolding by_number
refused_some zero result lent n l e h = let never : ◌≡◌ {A = ℕ} 0 1 = cc in omega arith
refused_some (suc first) result lent n l e h = let same : n ≡ suc first = cc in omega arith

pub refused_first : {L A : Type 0} (first : ℕ) (result : A) (lent : L) (n : ℕ) (l : L) → refused n l ≡ by_number first result lent → n ≡ first
unfolding by_number
refused_first zero result lent n l e = let never : ◌≡◌ {A = ℕ} 0 1 = cc in absurd (omega arith)
refused_first (suc first) result lent n l e = cc

accepted_first : {L A : Type 0} (first : ℕ) (result : A) (lent : L) (r : A) → accepted r ≡ by_number first result lent → (first ≡ 0) × (r ≡ result)
unfolding by_number
accepted_first zero result lent r e = (refl, cc)
accepted_first (suc first) result lent r e = let never : ◌≡◌ {A = ℕ} 0 1 = cc in absurd (omega arith)

-- ---- of any call

module _ {L A : Type 0} (qs : List Asked) (result : A) (lent : L) where
  -- of an accepted call every answer was yes, and its result is the rule's
  pub accepted_by : (r : A) → accepted r ≡ by_questions qs result lent → (first_no qs ≡ 0) × (r ≡ result)
  accepted_by r e = accepted_first (first_no qs) result lent r e

  module _ (n : ℕ) (l : L) (e : refused n l ≡ by_questions qs result lent) where
    -- a refusal's number is not 0,
    pub refused_by : n ≡ 0 → ⊥
    refused_by = refused_some (first_no qs) result lent n l e

    is_first : n ≡ first_no qs
    is_first = refused_first (first_no qs) result lent n l e

    -- it is that of a question it asks, answered no,
    pub refused_asked : Memᴰ (ask n false) qs
    refused_asked =
        ⊎_elim (λ none. absurd (refused_by (is_first ∙ none))) (λ m. subst (λ (k : ℕ). Memᴰ (ask k false) qs) (sym is_first) m)
        (first_asked qs)

    -- and with a yes to each there is none: what 01 accepts is never refused
    pub never_refused : AllYes qs → ⊥
    never_refused each = refused_by (is_first ∙ all_yes qs each)

  -- The same of a call that returns a number, 0 where it accepts: a is the result and l what was lent, as they then
  -- stand. With a yes to each question it returns 0, with the rule's result; any other number is that of a question it
  -- asks, answered no.
  pub number_accepts : AllYes qs → (n : ℕ) (a : A) (l : L) → by_number n a l ≡ by_questions qs result lent → (n ≡ 0) × (a ≡ result)
  unfolding by_number
  number_accepts each zero a l e = (refl, (accepted_by a e).1)
  number_accepts each (suc n) a l e = absurd (never_refused (suc n) l e each)

  pub number_asked : (n : ℕ) (a : A) (l : L) → by_number n a l ≡ by_questions qs result lent → (n ≡ 0 → ⊥) → Memᴰ (ask n false) qs
  unfolding by_number
  number_asked zero a l e h = absurd (h refl)
  number_asked (suc n) a l e h = refused_asked (suc n) l e
