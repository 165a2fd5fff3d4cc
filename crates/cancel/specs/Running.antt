-- `run`, open to callers (01, part 7, with questions 1 to 6, which it asks as `estimate_strong` does). Definitions
-- only.
use Rattle.std.specs.Prelude.{ℕ, List, length, Float, Result}
use Rattle.elements.specs.declared.element.KeyedElement.{KeyedElement}
use Rattle.lists.specs.Records.{Handed, handed}
use Rattle.elements.specs.Element.{ELEMENT, handed_elements}
use Rattle.fits.specs.declared.fit.ElementFit.{ElementFit}
use Rattle.fits.specs.List.{FIT, handed_fits}
use Rattle.fits.specs.Estimate.{strong_elements, strong_fits}
use Rattle.engine.specs.declared.run.RunFigures.{RunFigures}
use Rattle.engine.specs.Run.{run_figures, run_buffer}
use Rattle.questions.specs.declared.refusals.Refusal.{Refusal}
use Rattle.questions.specs.Answers.{Outcome, outcome_of, by_questions}
use Rattle.questions.specs.Questions.{estimate_questions}

-- Every figure, what the buffer holds, the elements and the fits that the lists hand out, and the length of the work
-- slice.
pub record RunResult : Type 0 where
  pub figures : RunFigures
  pub buffer : List Float
  pub elements : Handed KeyedElement
  pub fits : Handed ElementFit
  pub work : ℕ

-- the number and the result of each answer, with what the lent slices then hold
abbrev pub run_outcome : Result RunFigures Refusal → List Float → List Float → List Float → List Float → Outcome (List Float × List Float × List Float × List Float) RunResult
run_outcome a buf elements fits work =
    outcome_of a
    (λ f. record { figures = f; buffer = buf; elements = handed_elements elements f.estimate.found.listed; fits = handed_fits fits f.estimate.fitted; work = length work })
    (buf, elements, fits, work)

-- The first no is the result, and nothing is written; else the run's figures and its buffer, and in the lists the
-- elements and the fits of the second pass.
unfoldable pub run_rule : List Float → Float → Float → List Float → List Float → List Float → Outcome (List Float × List Float × List Float × List Float) RunResult
run_rule buf fs hint elements fits work =
    by_questions (estimate_questions buf fs hint (length elements) (length fits) (length work))
    (record {
      figures = run_figures buf fs hint;
      buffer = run_buffer buf fs hint;
      elements = handed ELEMENT (strong_elements buf fs hint) elements;
      fits = handed FIT (strong_fits buf fs hint) fits;
      work = length work;
    })
    (buf, elements, fits, work)
