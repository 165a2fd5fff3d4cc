-- Laws on the prepared work slice and on what is left of the means, by subject.

-- Parts     slices that agree in part: `z_at_same`, `z_at_below`, `z_at_front`, `z_at_taken`
-- Prepared  the slice made ready: `counted`, `prepared`, `made`
-- Gathered  the loop that gathers: `gather_yes`, `gather_no`; the list that is gathered: `gathered`, `level_is`
-- Less      fits taken off the means, by samples, by blocks, and one after the other: `less_from_turn`, `turned_turn`,
--           `fits_turn`
-- Sampled   what the Rust leaves, sample by sample, is what the definition leaves, block by block: `as_sampled`
pub mod Parts
pub mod Prepared
pub mod Gathered
pub mod Less
pub mod Sampled
