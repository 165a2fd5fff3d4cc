-- Laws that the proofs of `capi` share, by subject.

-- Ways        the two ways out of a call: `refused_call`, `done_call`, both by what the call of crate cancel answered,
--             `told_way`, without figures `refused_way`; back from what C
--             has to the result: `call_told`; the result of an accepted call, for C: `find_told_lem`, `fit_told_lem`,
--             `estimate_told_lem`, `measure_told`, `numbers_told`
-- RunTold     the same of a run: `run_told_lem`
-- CallsForC   every call that writes figures: what 01 accepts is never refused, `c_accepts`; a refusal's number is that
--             of a question asked, `c_number`
-- FoundForC   a find or an estimate that returns 0 to C is an accepted one: `find_for_c`, `estimate_for_c`
-- RunForC     a run that returns 0 to C is an accepted run: `run_for_c`
-- Counts      counts among the figures are below 2^53 and exact: `count_exact`; of each call: `find_counts`,
--             `fit_counts`, `estimate_counts`, `row_counts`, `classes_counts`, `residual_counts`, `evidence_counts`
-- RunCounts   of a run: `run_counts`, `c_counts`; the balances of what C reads: `c_key_downs_balance`,
--             `c_listed_balance`, `c_blocks_balance`
pub mod Ways
pub mod RunTold
pub mod CallsForC
pub mod FoundForC
pub mod RunForC
pub mod Counts
pub mod RunCounts
