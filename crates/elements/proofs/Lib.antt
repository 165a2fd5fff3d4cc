-- Laws that the proofs of `elements` share and that the crates above cite, and its theorems, by subject.

-- Records     elements in a list, by the laws on records of any kind (lists Records): `element_kind`,
--             `elements_handed`; what a promise says: `elements_read`, `elements_again`
-- Reached     an amplitude lies below a threshold or reaches it: `not_reached`, `reached`
-- Joined      counts and elements of one list of key-downs behind another
-- Walk        a turn of the loop over the pairs of a row: where it is: `Paired`; what is pending, counted and stored:
--             `Walked`; how small the counts are: `spaced`, `ending`
-- KeyDowns    which pairs `row_key_downs` has: `key_down_is`; their order: `in_order`; `listed_is`, `places`
-- Same        rows that agree have the same key-downs, counts and elements
-- Centres     the centre of a window is a number of halves: `centre_is`; a crossing lies between two of them:
--             `crossed_between`; two values that lie one behind the other: `between_lt`, `between_le`
-- Bounds      the numbers of every element found are finite: `found_bounded`; `threshold_amount`, `recorded_is`,
--             `some_row`
-- Recording   counts of a recording: `key_downs_counted`, `listed_counted`, `all_counted`; `enough_places`
-- Exactly     what is found and handed out: the long key-downs, each once, in order, and nothing else: `found_exactly`,
--             `handed_exactly`; counted are all key-downs of the row: `counted_exactly`; without a threshold nothing:
--             `found_nothing`, `handed_nothing`, `counted_nothing`
-- Times       the times of every element found lie between centres and are in order: `found_placed`, `found_in_time`;
--             `before_exactly`; of what a list hands out: `handed_placed`, `handed_in_time`
-- Ways        the ways out of `find_elements`
-- Amplitudes  the row in the work slice: `row_empty`, `row_read`, how long it is: `row_size`, `row_few`; in a lent
--             list: `row_made`; key-downs by the numbers handed out: `found_by_row`, `elements_by_row`
-- Edges       at fs 3,000: `step_3000`, `window_3000`
pub mod Records
pub mod Reached
pub mod Joined
pub mod Walk
pub mod KeyDowns
pub mod Same
pub mod Centres
pub mod Bounds
pub mod Recording
pub mod Exactly
pub mod Times
pub mod Ways
pub mod Amplitudes
pub mod Edges
