-- 01's edge table, by subject.

-- Table       the table, one statement: `edge_table`
-- Ones        recordings of zeros and ones at carrier 0: `length_ones`, `sample_ones`, `derot_ones`, `row_ones`
-- Elements    what is found in them: `rows`
-- Fits        what is fitted and skipped: `fitted_100`, `fitted_61`, `skipped_60`; `block_3000`
-- Spans       `spanned`
-- Classes     `classed`, `blocks_3000`
-- Hypotheses  `two_signals`, `one_signal`, `unresolved`
-- Takes       beside the table, the run's four conditions at their ends: `all_four`, `other_hypotheses`,
--             `nineteen_fits`, `large_steps`, `large_ratios`
pub mod Ones
pub mod Elements
pub mod Fits
pub mod Spans
pub mod Classes
pub mod Hypotheses
pub mod Table
pub mod Takes
