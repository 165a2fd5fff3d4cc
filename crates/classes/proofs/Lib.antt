-- Laws on classes, by subject.

-- Codes     the number of a class tells it: `code_tells`, `class_same`
-- Classes   a slice that holds the numbers of a row of classes: `codes_length`, `code_at`; what labelling makes of it:
--           `label_codes`, `turns_codes`, `class_by_steps`
-- Counts    a test as a number: `as_bit`; how many of a list pass a test, by their places: `count_listed`; what a slice
--           of classes counts: `class_told`, `count_holds`, `counts_hold`; the four counts together are the number of
--           blocks: `blocks_counted`
-- ByTimes   the class depends on the times alone: `class_by_times`, `class_by_places`
-- Order     what the order of labelling comes to: `rim_is_other`; `last_start_is_edge`, `last_end_is_edge`,
--           `last_inside_is_interior`; `near_no_gap`, `found_no_gap`
-- Lent      a part of a list, while it is lent and after: `part_at`; `put_below`, `put_at`, `put_past`
-- Labelled  a list with one number at the places that pass a test, the loop that stores it, and a part of a list in
--           which it is stored
-- Turns     members of a list that label in turn, and the loop over them
-- Zones     from the ranges that the code computes to near, inside, at an edge, on the rim
-- Sizes     how large a window and the start of a block are, and the centre of a block
pub mod Codes
pub mod Classes
pub mod Counts
pub mod ByTimes
pub mod Order
pub mod Lent
pub mod Labelled
pub mod Turns
pub mod Zones
pub mod Sizes
