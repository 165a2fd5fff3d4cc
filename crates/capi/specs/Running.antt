-- What cancel_run returns and leaves in what it was lent (include/cancel.h). Definitions only.
use Rattle.std.specs.Prelude.{ℕ, List, length, Float}
use Rattle.elements.specs.declared.element.KeyedElement.{KeyedElement}
use Rattle.lists.specs.Records.{Handed}
use Rattle.elements.specs.Element.{handed_elements}
use Rattle.fits.specs.declared.fit.ElementFit.{ElementFit}
use Rattle.fits.specs.declared.estimate.Estimate.{Estimate}
use Rattle.fits.specs.List.{handed_fits}
use Rattle.questions.specs.Answers.{Outcome, by_number}
use Rattle.cancel.specs.Running.{RunResult, run_rule}
use Rattle.figures.specs.Running.{ran_figures}
use Rattle.capi.specs.Calls.{Called, for_c}

-- what an accepted run leaves: the buffer, and the elements and the fits that the lists hand out
abbrev pub Left : Type 0
Left = List Float × Handed KeyedElement × Handed ElementFit

-- of the number that is returned, 0 for an accepted call, with what the lent slices then hold: so many elements and
-- fits as the estimate counts
abbrev pub run_called : ℕ → Estimate → List Float → List Float → List Float → List Float → List Float → Outcome (List Float × (List Float × List Float × List Float × List Float)) (Called Left)
run_called n e buf elements fits work figures =
    by_number n
    (record { figures = figures; lists = (buf, handed_elements elements e.found.listed, handed_fits fits e.fitted); work = length work })
    (figures, (buf, elements, fits, work))

abbrev pub run_told : RunResult → Called Left
run_told r = record { figures = ran_figures r.figures; lists = (r.buffer, r.elements, r.fits); work = r.work }

unfoldable pub run_call : List Float → Float → Float → List Float → List Float → List Float → List Float → Outcome (List Float × (List Float × List Float × List Float × List Float)) (Called Left)
run_call buf fs hint elements fits work figures = for_c run_told figures (run_rule buf fs hint elements fits work)
