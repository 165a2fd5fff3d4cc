-- Laws on the figures, by subject.

-- Checks     a check that is given as its figures is clean exactly if it is: `clean_by_figures`
-- Groups     each call's figures are as many as its constant says: `row_figures_lem`, `find_figures`, `fit_figures`,
--            `estimate_figures_lem`, `classes_figures_lem`, `residual_figures_lem`, `evidence_figures_lem`,
--            `classify_figures`, `clean_figures_lem`, `run_figures_lem`, `check_figures`; groups start where theirs
--            say: `estimate_found`, `run_key_downs`, `run_blocks`, `run_carrier`, `run_residual_lem`,
--            `run_evidence_lem`, `run_hypothesis`, `run_taken_lem`
pub mod Checks
pub mod Groups
-- Absent     a yes or no: `flag_is`; a number that may be absent: `present_is`, `value_is`
pub mod Absent
