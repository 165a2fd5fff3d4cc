-- `run`: what its promise says. What it goes on with where every answer is yes is what `estimate_strong` goes on with,
-- which asks the same. Assumes nothing.
use Prim.Native.Nat.{ℕ, ◌/◌}
use mathlib.Core.Path.{◌≡◌, ap}
use mathlib.Core.Bool.{true, false}
use mathlib.Core.List.{List, Memᴰ}
use lib.ListN.{length}
use lib.Ieee.{Float}
use Rattle.row.specs.Samples.{all_finite}
use Rattle.row.specs.Window.{rate_ok, step_blocks}
use Rattle.elements.specs.declared.element.KeyedElement.{KeyedElement}
use Rattle.lists.specs.Records.{Handed, handed}
use Rattle.elements.specs.Element.{ELEMENT}
use Rattle.fits.specs.declared.fit.ElementFit.{ElementFit}
use Rattle.fits.specs.List.{FIT}
use Rattle.fits.specs.Estimate.{strong_elements, strong_fits}
use Rattle.engine.specs.declared.run.RunFigures.{RunFigures}
use Rattle.engine.specs.Run.{run_figures, run_buffer}
use Rattle.std.specs.Prelude.{Result, Ok, Err}
use Rattle.questions.specs.declared.refusals.Refusal.{Refusal}
use Rattle.questions.specs.Answers.{accepted, refused}
use Rattle.questions.specs.Questions.{ask, first_no, count_ok, carrier_ok, places_ok, work_ok, estimate_questions}
use Rattle.cancel.specs.Running.{RunResult, run_outcome, run_rule}
use Rattle.questions.proofs.Calls.{accepted_by, refused_asked, never_refused}

-- a result is the same as another if its parts are
pub run_result : (f g : RunFigures) (b c : List Float) (h i : Handed KeyedElement) (j k : Handed ElementFit) (v w : ℕ) → f ≡ g → b ≡ c → h ≡ i → j ≡ k → v ≡ w
    → ◌≡◌ {A = RunResult} (record { figures = f; buffer = b; elements = h; fits = j; work = v })
    (record { figures = g; buffer = c; elements = i; fits = k; work = w })
run_result f g b c h i j k v w p q r s t = rw (p, q, r, s, t)

-- ---- what its promise says of a refusal, and of an accepted call
module _ (buf : List Float) (fs hint : Float) (elements fits work : List Float) where
  pub run_done : (r : RunResult) → accepted r ≡ run_rule buf fs hint elements fits work
      → (first_no (estimate_questions buf fs hint (length elements) (length fits) (length work)) ≡ 0) × (r.figures ≡ run_figures buf fs hint) × (r.buffer ≡ run_buffer buf fs hint)
      × (r.elements ≡ handed ELEMENT (strong_elements buf fs hint) elements) × (r.fits ≡ handed FIT (strong_fits buf fs hint) fits)
  unfolding run_rule
  run_done r e =
      let told = accepted_by _ _ _ r e in
      let part = told.1 in
      (told.0, ap (λ (r : RunResult). r.figures) part, ap (λ (r : RunResult). r.buffer) part, ap (λ (r : RunResult). r.elements) part, ap (λ (r : RunResult). r.fits) part)

  -- its number is that of a question it asks, answered no
  pub run_number : (n : ℕ) (lent : List Float × List Float × List Float × List Float) → refused n lent ≡ run_rule buf fs hint elements fits work
      → Memᴰ (ask n false) (estimate_questions buf fs hint (length elements) (length fits) (length work))
  unfolding run_rule
  run_number n lent e = refused_asked _ _ _ n lent e

  -- What 01 accepts is never refused: with a yes to each question, 1 to 6, the fifth of two lists, the answer is Ok,
  -- with the run's figures.
  pub run_accepts : rate_ok fs ≡ true → count_ok (length buf) ≡ true → all_finite buf ≡ true → carrier_ok fs hint ≡ true
      → places_ok (step_blocks buf fs / 2) (length elements / ELEMENT) ≡ true → places_ok (step_blocks buf fs / 2) (length fits / FIT) ≡ true
      → work_ok (step_blocks buf fs) (length work) ≡ true → (a : Result RunFigures Refusal) (buffer-after elements-after fits_after work-after : List Float)
      → run_outcome a buffer-after elements-after fits_after work-after ≡ run_rule buf fs hint elements fits work → a ≡ Ok (run_figures buf fs hint)
  unfolding run_rule
  run_accepts rate count finite carrier places fit_places room (Err r) buffer-after elements-after fits_after work-after e =
      absurd (never_refused _ _ _ _ _ e (rate, (count, (finite, (carrier, (places, (fit_places, (room, tt))))))))
  run_accepts rate count finite carrier places fit_places room (Ok f) buffer-after elements-after fits_after work-after e = ap Ok (run_done _ e).1
