-- The two ways out of a call from C, by what the call of crate cancel answered. Assumes nothing.
use Prim.Native.Nat.{ℕ, zero, suc}
use native.Mathlib.Omega.{arith}
use mathlib.Core.Path.{◌≡◌, refl, ap, ◌∙◌}
use mathlib.Core.List.{List}
use lib.Ieee.{Float}
use Rattle.elements.specs.declared.element.KeyedElement.{KeyedElement}
use Rattle.elements.specs.declared.keying.Found.{Found}
use Rattle.lists.specs.Records.{Handed, handed_numbers}
use Rattle.elements.specs.Element.{handed_elements}
use Rattle.fits.specs.declared.fit.ElementFit.{ElementFit}
use Rattle.fits.specs.declared.estimate.Estimate.{Estimate}
use Rattle.fits.specs.List.{handed_fits}
use Rattle.std.specs.Prelude.{Result, Ok, Err, MatchResult}
use Rattle.questions.specs.declared.refusals.Refusal.{Refusal}
use Rattle.questions.specs.Refusals.{number_of}
use Rattle.questions.specs.Answers.{Outcome, accepted, refused, outcome_of, by_number, by_questions}
use Rattle.questions.specs.Questions.{Asked}
use Rattle.questions.proofs.Calls.{refused_by}
use Rattle.figures.specs.Calls.{found_figures, fitted_figures, estimate_figures}
use Rattle.capi.specs.Calls.{Called, for_c}

refuses : {L A : Type 0} (n : ℕ) (a : A) (lent : L) → (n ≡ 0 → ⊥) → by_number n a lent ≡ refused n lent
unfolding by_number
refuses zero a lent h = absurd (h refl)
refuses (suc n) a lent h = refl

-- a refusal by a call that answers no figures
pub refused_way : {L A : Type 0} (qs : List Asked) (result : A) (lent : L) (n : ℕ) (a : A) (l : L) → refused n l ≡ by_questions qs result lent → by_number n a l ≡ by_questions qs result lent
refused_way qs result lent n a l e = refuses n a l (refused_by qs result lent n l e) ∙ e

module _ {L A B : Type 0} (told : A → Called B) (figures : List Float) where
  pub refused_call : (qs : List Asked) (result : A) (lent : L) (called : Called B) (n : ℕ) (l : L) → refused n l ≡ by_questions qs result lent
      → by_number n called (figures, l) ≡ for_c told figures (by_questions qs result lent)
  refused_call qs result lent called n l e = rw (← e) (refuses n called (figures, l) (refused_by qs result lent n l e))

  pub done_call : (rule : Outcome L A) (called : Called B) (r : A) (lent : List Float × L) → accepted r ≡ rule → called ≡ told r → by_number 0 called lent ≡ for_c told figures rule
  unfolding by_number
  done_call rule called r lent e q = rw (← e) (ap accepted q)

  -- by what the call of crate cancel answered: res and of are the parts of its result and of its figures
  pub told_way : {T : Type 0} (res : T → A) (of : T → List Float) (qs : List Asked) (result : A) (lent : L) (called : Called B) (n : ℕ) (l : L) (after : List Float) (a : Result T Refusal)
      → outcome_of a res l ≡ by_questions qs result lent
      → MatchResult a (λ x. (n ≡ 0) × (after ≡ of x)) (λ r. (n ≡ number_of r) × (after ≡ figures))
      → ((x : T) → accepted (res x) ≡ by_questions qs result lent → after ≡ of x → called ≡ told (res x))
      → by_number n called (after, l) ≡ for_c told figures (by_questions qs result lent)
  told_way res of qs result lent called n l after (Ok x) e t so =
      rw t.0 (done_call (by_questions qs result lent) called (res x) (after, l) e (so x e t.1))
  told_way res of qs result lent called n l after (Err r) e t so = rw (t.0, t.1) (refused_call qs result lent called (number_of r) l e)

  -- and back: the result that a call has told where it was accepted
  pub call_told : (rule : Outcome L A) (called : Called B) → accepted called ≡ for_c told figures rule → (r : A) × (accepted r ≡ rule) × (called ≡ told r)
  call_told (refused n lent) called e = let never : ◌≡◌ {A = ℕ} 0 1 = cc in absurd (omega arith)
  call_told (accepted r) called e = let same : called ≡ told r = cc in (r, refl, same)

-- an accepted call has the figures of its answer, and counts what the rules count
module _ (work : ℕ) (figures : List Float) where
  pub find_told_lem : (f g : Found) (left : List Float) → f ≡ g → figures ≡ found_figures f
      → ◌≡◌ {A = Called (Handed KeyedElement)} (record { figures = figures; lists = handed_elements left g.listed; work = work })
      (record { figures = found_figures f; lists = handed_elements left f.listed; work = work })
  find_told_lem f g left e q = rw (q, e)

  pub fit_told_lem : (m n : ℕ) (left : List Float) → m ≡ n → figures ≡ fitted_figures m
      → ◌≡◌ {A = Called (Handed ElementFit)} (record { figures = figures; lists = handed_fits left n; work = work })
      (record { figures = fitted_figures m; lists = handed_fits left m; work = work })
  fit_told_lem m n left e q = rw (q, e)

  pub estimate_told_lem : (d e : Estimate) (left fits-left : List Float) → d ≡ e → figures ≡ estimate_figures d
      → ◌≡◌ {A = Called (Handed KeyedElement × Handed ElementFit)}
      (record { figures = figures; lists = (handed_elements left e.found.listed, handed_fits fits-left e.fitted); work = work })
      (record { figures = estimate_figures d; lists = (handed_elements left d.found.listed, handed_fits fits-left d.fitted); work = work })
  estimate_told_lem d e left fits-left h q = rw (q, h)

  -- a call that fills no list
  pub measure_told : (given : List Float) → figures ≡ given
      → ◌≡◌ {A = Called (Unit {0})} (record { figures = figures; lists = tt; work = work }) (record { figures = given; lists = tt; work = work })
  measure_told given q = rw q

  -- a call that hands out numbers
  pub numbers_told : (given : List Float) (m n : ℕ) (left : List Float) → m ≡ n → figures ≡ given
      → ◌≡◌ {A = Called (Handed Float)} (record { figures = figures; lists = handed_numbers left n; work = work })
      (record { figures = given; lists = handed_numbers left m; work = work })
  numbers_told given m n left e q = rw (q, e)
