-- Laws that the proofs of `format` share and that the crates above cite, by subject.

-- Laws        the loop that stores the samples: ruleset `laws`; a recording that is accepted is short: `parts_few`; a
--             full array holds more than one may have: `too_many`; as many bytes as there are: `counts`
-- Answers     where a reading goes on, more bytes are there than before: `goes_on_lem`
-- Appending   text put into a buffer, piece by piece: `appended_none`, `appended_more`
-- Growing     the same of a `Text`: `grown_none`, `grown_more`
-- Decimals    base ten: reading back gives the number: `decimal_back`; how many digits there are: `decimal_few`,
--             `decimal_most`
-- Lines       numbers after blanks: `spaced_turn`, `spaced_room`; how long a line is: `line_length`, `line_most`,
--             `pair_most`
pub mod Laws
pub mod Answers
pub mod Appending
pub mod Growing
pub mod Decimals
pub mod Lines
