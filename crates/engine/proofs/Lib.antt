-- Laws on the run, by subject.

-- Counts    the counts of an estimate: `listed_room`, `fitted_room`, `fitted_le_listed`, `skipped_is`
-- Ran       from what each step ensures to the run's definition: what it finds out, `found_out`, with `its_estimate`
--           and `its_word`; how it ends, `ended`
pub mod Counts
pub mod Ran
-- Takes     the four conditions, where the first three hold: `step_small`
pub mod Takes
