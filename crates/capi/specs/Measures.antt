-- What the measures from C return and leave in what they were lent (include/cancel.h). Definitions only.
use Rattle.std.specs.Prelude.{ℕ, List, length, Float}
use Rattle.questions.specs.Answers.{Outcome, by_number}
use Rattle.given.specs.Residual.{ResidualResult, residual_rule}
use Rattle.given.specs.Evidence.{EvidenceResult, evidence_rule}
use Rattle.figures.specs.Measures.{residual_figures, evidence_figures}
use Rattle.capi.specs.Calls.{Called, for_c}

-- of the number that is returned, 0 for an accepted call, with what the lent slices then hold; no list is filled
abbrev pub measure_called : ℕ → List Float → List Float → Outcome (List Float × List Float) (Called (Unit {0}))
measure_called n work figures = by_number n (record { figures = figures; lists = tt; work = length work }) (figures, work)

-- ---- cancel_residual_check

abbrev pub residual_called : ℕ → List Float → List Float → Outcome (List Float × List Float) (Called (Unit {0}))
residual_called = measure_called

abbrev pub residual_told : ResidualResult → Called (Unit {0})
residual_told r = record { figures = residual_figures r.check; lists = tt; work = r.work }

unfoldable pub residual_call : List Float → Float → Float → Float → List Float → ℕ → List Float → ℕ → List Float → List Float → Outcome (List Float × List Float) (Called (Unit {0}))
residual_call iq fs hz step elements element_count fits fit_count work figures =
    for_c residual_told figures (residual_rule iq fs hz step elements element_count fits fit_count work)

-- ---- cancel_second_carrier_evidence

abbrev pub evidence_called : ℕ → List Float → List Float → Outcome (List Float × List Float) (Called (Unit {0}))
evidence_called = measure_called

abbrev pub evidence_told : EvidenceResult → Called (Unit {0})
evidence_told r = record { figures = evidence_figures r.evidence; lists = tt; work = r.work }

unfoldable pub evidence_call : List Float → Float → Float → Float → List Float → ℕ → List Float → ℕ → List Float → List Float → Outcome (List Float × List Float) (Called (Unit {0}))
evidence_call iq fs hz step elements element_count fits fit_count work figures =
    for_c evidence_told figures (evidence_rule iq fs hz step elements element_count fits fit_count work)
