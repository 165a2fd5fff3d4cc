-- The figures of a run, in their order (include/cancel.h). Definitions only.
use Rattle.std.specs.Prelude.{List, [], ◌∷◌, ◌++◌, Float}
use Rattle.float.specs.Ops.{of}
use Rattle.engine.specs.declared.run.RunFigures.{RunFigures}
use Rattle.figures.specs.Measures.{residual_figures, evidence_figures}
use Rattle.figures.specs.Hypothesis.{hypothesis_figures}
use Rattle.figures.specs.Flag.{flag_of}

-- samples, window, key-downs, listed, short, fitted, skipped, airtime, blocks, edge, interior, gap, other,
-- carrier_hz, carrier_step_hz, those of the residual check, those of the evidence, hypothesis, its offset, taken
abbrev pub ran_figures : RunFigures → List Float
ran_figures f =
    let e = f.estimate in
    (of f.samples ∷ of f.window ∷ of e.found.key_downs ∷ of e.found.listed ∷ of e.found.short ∷ of e.fitted
    ∷ of f.skipped ∷ of e.found.airtime ∷ of f.blocks ∷ of f.classes.edge ∷ of f.classes.interior
    ∷ of f.classes.gap ∷ of f.classes.other ∷ e.carrier_hz ∷ e.carrier_step_hz ∷ [])
    ++ residual_figures f.residual ++ evidence_figures f.evidence ++ hypothesis_figures f.hypothesis ++ (flag_of f.taken ∷ [])
