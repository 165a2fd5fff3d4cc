-- Laws behind the proofs of `stored`.

-- Chunks      what `chunks_exact` gives: `YieldsList-from_chunks_exact`, `get_or-pieces`
pub mod Chunks
-- Rows        a list's items by their places: `all_by_place`, `count_by_place`; rows of whatever has a value:
--             `firsts_by_values`, of numbers: `own_values`
pub mod Rows
-- Places      where something is counted: `in_row`, `no_place`, `at_place`; a case: `counted`; a run: `ran`,
--             `refused_run`
pub mod Places
