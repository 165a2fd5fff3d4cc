-- Laws that the proofs of `rank` share and that the crates above cite, by subject.

-- Patterns    the order of values is that of their bit patterns: `lt_pattern`, `eq_pattern`, `zero_pattern`
-- Ordinals    ordinals are in `total_cmp` order: `precedes_ordinal`; each gives its value back: `value_ordinal`,
--             `ordinal_injective`
-- Counted     cells of ordinals and their histogram: `below_next`, `below_split`, `cell_split`, `histogram_turn`,
--             `histogram_sum`; one digit more: `next_digit`, `within_turn`; the one that is left: `found`, `within_one`
-- Narrowed    a cell narrowed to the ends of its ordinals has the same ordinals: `narrowed`; a rank in it stays:
--             `rank_narrowed`
-- Sorted      the value at a rank of the sorted list is the one with so many before it: `sorted_counts`,
--             `counts_unique`, `percentile_counts`, `percentile_none`; what holds of each number: `Every`, `every_at`,
--             `sorted_every`; `held`: each is an f64; `rank_lt`
-- Among       what holds of each number of a list holds of its percentile: `percentile_keeps`
-- Examples    01's edge table: `rank_of_four`, `rank_of_five`; the ends of `total_cmp` order: `in_order`
pub mod Patterns
pub mod Ordinals
pub mod Counted
pub mod Narrowed
pub mod Sorted
pub mod Among
pub mod Examples
