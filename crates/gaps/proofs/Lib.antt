-- Laws on gap blocks, by subject.

-- Counted   a loop that counts: `count_yes`, `count_no`; `count_there`; a filter that counts: `filtered`; one more that
--           is picked: `picked_yes`, `picked_no`
-- References  the rows of powers to both sides of the carrier, and the reference: `both_held`, `reference_is`
-- Paired    gap blocks above a level and pairs of them: the ways out of each test, and the loops over the blocks
-- Pushed    the Rust's loop over `gap_idx.windows(2)`: `rust_products`, `rust_blocks`
pub mod Counted
pub mod References
pub mod Paired
pub mod Pushed
