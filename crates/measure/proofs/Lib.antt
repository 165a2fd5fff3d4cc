-- Laws on the measures, by subject.

-- Ratios    the ways out of `ratio_db`, and the floor under its lower side
-- Grids     the blocks that a prepared slice holds: `grid_count`, `held`, `class_held`
-- Figures   their residual check: `residual_is`, `residual_prepared`, `check_is`; its counts: `blocks_counted`
-- Edges     a class with no block: `no_edge_blocks`, `no_interior_blocks`, `no_gap_blocks`; `ratio_db` and `clean` at
--           their ends
-- Reach     what the residual check depends on: `residual_reach`; `block_agree`, `left_alike`, `class_alike`
-- Bounds    the powers that are ranked are finite and have the sign plus: `left_amount`, `left_ranked`; what is asked
--           of gains: `gain_sized`, `gains_all`, `gains_of`
-- Offsets   the power at an offset, the strongest of three: `strongest_is`, `offset_none`, `offset_some`
-- Same      what the evidence depends on: `reference_same`, `with_same`, `evidence_same`
-- Evidences  their evidence: `evidence_prepared`, `check_is`
-- Measured  both measures of them: `measures_are`
-- Levels    the powers are amounts: `power_amount`, `side_amounts`; their order is that of the values: `order_is`
-- Absence   the offset is absent exactly when there is no pair: `absent_exactly`, `present_exactly`
-- ReachEvidence  what the evidence of a recording depends on: `evidence_reach`, `evidence_check_reach`
pub mod Ratios
pub mod Grids
pub mod Figures
pub mod Edges
pub mod Reach
pub mod Bounds
pub mod Offsets
pub mod Same
pub mod Evidences
pub mod Measured
pub mod Levels
pub mod Absence
pub mod ReachEvidence
