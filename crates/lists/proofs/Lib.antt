-- Laws on rows and lists that the crates above cite, by subject.

-- Fill      a loop that stores: `fill_none`, `fill_turn`, `fill_turn0`, `fill_done`; `length_fill`, `fill_cong`; what
--           is read back: `get_d_fill`, `get_d_fill_below`, `get_d_fill_above`; a part of the list: `part_fill`; all of
--           it: `fill_all`; a row stored in a part of a list: `fill_front`, `fill_behind`
-- Firsts    `length_firsts`, `get_d_firsts`, `firsts_cong`, `firsts_take`, `firsts_all`
-- Every     `every_at`, `every_not`, `every_cong`; the halves of an && that is true: `and_left`, `and_right`
-- Count     `count_cong`, `count_le`, `count_most`, `count_apart`
-- Those     `those_append`, `those_shorter`; `picked_cong`, `length_picked`
-- Kept      the loop that stores what passes: `keep_none`, `keep_yes`, `keep_no`; `length_keep`, `keep_part`,
--           `get_d_keep`, `get_d_keep_below`
-- Members   `member_at`, `map_same`; which ones pass a test: `those_are`, `those_others`, `those_same`
-- Sums      loops that add: `f_sum_none`, `f_sum_turn`, `f_sum_done`, `f_sum_cong`; `over_more`
-- Chunks    a list cut into chunks of one size: `chunk_read`, `chunks_take`
-- Records   records of any kind in a list, by their width and where they are stored: `Kind`, `length_stored`,
--           `stored_append`; what it then hands out: `stored_handed`, `handed_again`, where places past the count keep
--           what they held `stored_keeping`; numbers: `numbers_handed`, `numbers_read`, `copied_handed`
pub mod Fill
pub mod Firsts
pub mod Every
pub mod Count
pub mod Those
pub mod Kept
pub mod Members
pub mod Sums
pub mod Chunks
pub mod Records
