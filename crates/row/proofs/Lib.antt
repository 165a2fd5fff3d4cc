-- Laws that the proofs of `row` share and that the crates above cite, by subject.

-- Finite      what a yes to question 3 says of a sample: `finite_at`
-- Steps       a rate that question 1 takes: `rate_is`, `rate_pos`; the step is 1 to 64 and grows with the rate:
--             `step_low`, `step_high`, `step_mono`; `.max(1.0) as usize`: `max_low`, `max_high`, `max_mono`
-- Means       blocks lie within the recording: `blocks_short`, `block_fits`; in a loop over blocks, their starts added
--             up: `start_within`, `raised_fits`, `start_next`, `block_mean_is`
-- Running     the running sum, turn by turn: `run_none`, `run_turn`, `amplitude_is`, `row_done`; number i is of the
--             first 8 + i numbers alone: `run_cong`
-- Rows        the row in the work slice is that of the block means before it: `row_stored`, `row_part`, `row_is`; how
--             many amplitudes: `row_none`, `row_some`
-- Bounds      every amplitude is finite and not negative, at any rate and carrier: `row_amount`; samples, rotor,
--             means: `sample_bounded`, `rotor_bounded`, `derot_bounded`, `mean_bounded`, `block_bounded`
-- Unturned    at carrier 0 the rotor is (1, 0): `rotor_unturned`, at −0 too: `rotor_still`; means with no sine:
--             `mean_still`, `means_still`
pub mod Finite
pub mod Steps
pub mod Means
pub mod Running
pub mod Rows
pub mod Bounds
pub mod Unturned
