-- `subtract`: what it goes on with where every answer is yes, and what its promise says. Assumes nothing.
use Prim.Native.Nat.{ℕ, ◌≤◌}
use mathlib.Core.Path.{◌≡◌, refl}
use mathlib.Core.Bool.{true, false}
use mathlib.Core.List.{List, Memᴰ}
use lib.ListN.{length}
use lib.Ieee.{Float}
use Rattle.row.specs.Window.{rate_ok}
use Rattle.row.specs.Samples.{all_finite}
use Rattle.std.specs.Prelude.{⊤, Result, Ok, Err}
use Rattle.questions.specs.declared.refusals.Refusal.{Refusal}
use Rattle.questions.specs.Answers.{refused}
use Rattle.questions.specs.Questions.{first_no, ask, count_ok, estimate_ok}
use Rattle.given.specs.Removal.{subtract_questions, subtract_rule, subtract_outcome}
use Rattle.questions.proofs.FirstNo.{yes_at}
use Rattle.questions.proofs.Given.{SizedEstimate, estimate_sized}
use Rattle.questions.proofs.Accepted.{recording_is}
use Rattle.questions.proofs.Calls.{refused_asked, never_refused}

pub record SubtractAccepted (buf : List Float) (hz step : Float) (elements : List Float) (element_count : ℕ) (fits : List Float) (fit_count : ℕ) : Type 0 where
  pub short : length buf ≤ 2097152
  pub given : SizedEstimate hz step elements element_count fits fit_count

pub subtract_accepted : (buf : List Float) (fs hz step : Float) (elements : List Float) (element_count : ℕ) (fits : List Float) (fit_count : ℕ)
    → first_no (subtract_questions buf fs hz step elements element_count fits fit_count) ≡ 0 → SubtractAccepted buf hz step elements element_count fits fit_count
subtract_accepted buf fs hz step elements element_count fits fit_count all =
    let yes = yes_at (subtract_questions buf fs hz step elements element_count fits fit_count) refl all in
    record {
      short = (recording_is buf (yes 1) (yes 2)).short;
      given = estimate_sized hz step elements element_count fits fit_count (yes 3);
    }

-- ---- what its promise says of a refusal, and of an accepted call

module _ (buf : List Float) (fs hz step : Float) (elements : List Float) (element_count : ℕ) (fits : List Float) (fit_count : ℕ) where
  -- its number is that of a question it asks, answered no
  pub subtract_number : (n : ℕ) (lent : List Float) → refused n lent ≡ subtract_rule buf fs hz step elements element_count fits fit_count
      → Memᴰ (ask n false) (subtract_questions buf fs hz step elements element_count fits fit_count)
  unfolding subtract_rule
  subtract_number n lent e = refused_asked _ _ _ n lent e

  -- What 01 accepts is never refused: with a yes to each question, 1, 2, 3 and 7, the answer is Ok.
  pub subtract_accepts : rate_ok fs ≡ true → count_ok (length buf) ≡ true → all_finite buf ≡ true → estimate_ok hz step elements element_count fits fit_count ≡ true
      → (a : Result ⊤ Refusal) (buffer-after : List Float) → subtract_outcome a buffer-after ≡ subtract_rule buf fs hz step elements element_count fits fit_count
      → a ≡ Ok tt
  unfolding subtract_rule
  subtract_accepts rate count finite given (Err r) buffer-after e = absurd (never_refused _ _ _ _ _ e (rate, (count, (finite, (given, tt)))))
  subtract_accepts rate count finite given (Ok u) buffer-after e = refl
