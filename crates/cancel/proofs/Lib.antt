-- Laws that the proofs of `cancel` share and that the crates above cite, by subject.

-- RunAccepted     the run's result by its parts, `run_result`; what its promise says: `run_done`; a refusal's number
--             is that of a question it asks: `run_number`; with a yes to each it is done: `run_accepts`
-- RunOfBuffer     the user's third demand, of the run of any buffer: `carrier_is`, `step_is`, `found_is`,
--             `fits_of_listed`, `fits_each`, `fitted_counted`, `skipped_is`, `samples_is`, `window_is`;
--             `key_downs_balance`, `listed_balance`, `blocks_balance`; `blocks_are`, `classes_are`, `residual_is`,
--             `evidence_is`, `hypothesis_is`; `counts_exactly`, `counts_nothing`; `list_exactly`, `list_nothing`;
--             `run_placed`, `run_in_time`;
--             `ranked_plain`, `side_plain`, `inner_plain`; `taken_exactly`, `kept_unchanged`, `taken_leaves`,
--             `outside_unchanged`; `same_residual`, `same_evidence`, `same_hypothesis`
-- RunPromises     the same, under the same names, of every accepted run: of what it answers and leaves
pub mod RunAccepted
pub mod RunOfBuffer
pub mod RunPromises
