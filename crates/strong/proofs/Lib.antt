-- Laws that the proofs of `strong` share and that the crates above cite, by subject.

-- AmplitudeAccepted, FindAccepted, FitAccepted, EstimateAccepted
--             of each call: what it goes on with, `find_accepted`; its result by its parts, `find_result`; what its
--             promise says, by the laws of questions Calls: `find_done`; a refusal's number is that of a question it
--             asks: `find_number`; with a yes to each it is done: `find_accepts`
-- Handed      theorems on what an accepted call hands out, in 01's terms: `row_told_lem`, `row_at`, `row_found`,
--             `row_elements`; `find_exactly`, `find_counted`,
--             `find_nothing`; `fit_elements_are`, `fit_each`, `fit_skipped`; `estimate_exactly`, `estimate_counted`,
--             `estimate_nothing`,
--             `estimate_elements_are`, `estimate_each`, `estimate_skipped`; times in their order: `find_placed`,
--             `find_in_time`, `estimate_placed`, `estimate_in_time`
pub mod AmplitudeAccepted
pub mod FindAccepted
pub mod FitAccepted
pub mod EstimateAccepted
pub mod Handed
