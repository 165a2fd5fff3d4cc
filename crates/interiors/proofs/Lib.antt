-- Laws on interiors, slopes and gains, by subject.

-- Interiors   the ways out of `interior_of`; an interior lies within the recording: `interior_within`
-- Blocks      a slope block is no shorter than the step: `step_le_block`
-- Keeping     the mean of a block of the samples that are kept: `mean_kept`
-- Slopes      points alike have the same slope: `slope_cong`; those in the work slice: `slope_stored`
-- Laws        what the loops of a fit read and add; the three ways out of a line's slope
pub mod Interiors
pub mod Blocks
pub mod Keeping
pub mod Slopes
pub mod Laws
