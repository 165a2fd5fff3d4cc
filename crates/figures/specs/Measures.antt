-- The figures of the measures, in their order (include/cancel.h). Definitions only.
use Rattle.std.specs.Prelude.{List, [], ◌∷◌, Float}
use Rattle.float.specs.Ops.{of}
use Rattle.measure.specs.declared.residual.ResidualCheck.{ResidualCheck}
use Rattle.measure.specs.declared.evidence.SecondCarrierEvidence.{SecondCarrierEvidence}
use Rattle.figures.specs.Optional.{present_of, value_of}

-- of residual_check: edge_over_neighbour_db, interior_over_neighbour_db, edge_blocks, interior_blocks, gap_blocks
abbrev pub residual_figures : ResidualCheck → List Float
residual_figures r =
    r.edge_over_neighbour_db ∷ r.interior_over_neighbour_db ∷ of r.edge_blocks ∷ of r.interior_blocks ∷ of r.gap_blocks ∷ []

-- of second_carrier_evidence: gap_blocks, hot_fraction, offset present, offset_hz, coherence
abbrev pub evidence_figures : SecondCarrierEvidence → List Float
evidence_figures e =
    of e.gap_blocks ∷ e.hot_fraction ∷ present_of e.offset_hz ∷ value_of e.offset_hz ∷ e.coherence ∷ []
