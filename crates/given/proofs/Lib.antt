-- Laws that the proofs of `given` share and that the crates above cite, by subject.

-- BlocksAccepted, MeasuresAccepted, SubtractAccepted
--             of each call: what it goes on with, `measure_accepted`; its result by its parts, `residual_result`; what
--             its promise says, by the laws of questions Calls: `classes_done`; a refusal's number is that of a
--             question it asks: `residual_number`; with a yes to each it is done: `residual_accepts`; `classes_made`,
--             `blocks_told`
-- Ranked      the powers that the measures rank are finite, from 0 and no −0.0: `residual_ranked`, `evidence_ranked`
pub mod BlocksAccepted
pub mod MeasuresAccepted
pub mod SubtractAccepted
pub mod Ranked
