-- Laws that the proofs of `float` share and that the crates above cite, by subject. `HasValue x s a c` of
-- `lib.Ieee.Exact` says that x is finite, has the sign s and is a / c in size: work with it, and not with digits and
-- exponents.

-- Digits      powers of two, numbers of digits, what `compare` says
-- Exactly     a format writes each number in one way: `unique`, `round_self`, `round_value`, `few_exact`, `neg_round`
-- Compared    `<` and `<=` on values from 0 up, and the cast to an integer: `lt→cross`, `le→value`, `unsigned_value`,
--             `unsigned_none`; `yes`, `no` turn a branch's equation into `T`
-- Sums        + - * / on values: `add_over`, `sub_over`, `mul_over`, `div_over`; above and below zero: `under_zero`,
--             `over_zero`, `not_under`
-- Ordered     the cast keeps the order, for all floats: `unsigned_mono`; a difference above zero has its operands in
--             order: `sub_above`; `quotient_mono`
-- Counts      whole numbers as floats: `whole_value`, `whole_back`, `whole_le`, `whole_add`, `whole_sub`, `whole_mul`
-- Signs       the sign of a result, and that it is no NaN: `round_signed`, `add_signed`, `square_signed`
-- Monotone    `neg_le`, `lt_le`, `not_lt_le`, `le_through`, `signed_le`; `ceil_mono`, `round_mono`
-- Within      how large a result can be, so that it is finite: `add_within`, `sub_within`, `mul_within`; `le_within`,
--             `within_le`; `AtLeast`
-- Bounds      the same with a factor, a * 2 ^ k, for sums of many terms and their means: `Bounded`, `bounded_add`,
--             `bounded_mul`, `bounded_div`, `bounded_mean`, `bounded_round`, `bounded_single`
-- Parts       from 0 to a whole number: `Part`; `round_part`, `part_mul`
-- Amounts     finite, with the sign plus: `Amount`; `amount_root`, `amount_half`, `amount_squares`, `amount_number`,
--             `amount_above`; where a threshold is crossed: `share_part`
-- Intervals   from tests on floats to bounds on whole numbers: `interval_is`, `floor_upto`, `ceil_upto`, `upto_back`
-- Picks, Cuts, Wholes     floor, ceil, round by the whole number next to x
-- Remainders  `rem_small`, and what `rem_one` does in place of `%`
-- Modulo, Divided     a % b by whole numbers: `mod_scale`, `rem_values`, `rem_units`; what a bit pattern
--             counts: `counted_low`, `counted_high`; by |a| and |b|: `divided`, `sign_plus`, `sign_minus`
-- Patterns, Narrowing     bit patterns, and the f32 nearest to an f64
-- Squares, Roots, Value, Meaning     the square root; `sqrt_nearest`: of each value above zero, no other value of the
--             format is as near to it; `nearest_unique`; `in_units`: a finite value is a number of units
-- Sqrt        the logic's own square root, which std's method gives, is `sqrt_of`: `sqrt_is`
-- Ties, Rounding     what `round` means: no other value of the format is as near, a tie goes to the even one, and
--             from which size on it is infinite: `round_rounded`, `rounded_unique`, `last_bit`; and
--             so of all that is defined by it: `narrow_rounded`, `of_rounded`, `fraction_rounded`, `add_rounded`,
--             `sub_rounded`, `mul_rounded`, `div_rounded`
-- Unrounded   floor, ceil, round lose nothing to the format: `floor_exact`, `ceil_exact`, `nearest_exact`
-- Literals    what the small literals are; 01's examples of `round` and `rem_euclid`
-- Finiteness  `finite_not_nan`; std's word for it: `finite_is`
pub mod Literals
pub mod Finiteness
pub mod Digits
pub mod Exactly
pub mod Compared
pub mod Sums
pub mod Ordered
pub mod Counts
pub mod Signs
pub mod Monotone
pub mod Within
pub mod Intervals
pub mod Picks
pub mod Cuts
pub mod Wholes
pub mod Remainders
pub mod Patterns
pub mod Narrowing
pub mod Squares
pub mod Roots
pub mod Value
pub mod Meaning
pub mod Sqrt
pub mod Bounds
pub mod Parts
pub mod Amounts
pub mod Unrounded
pub mod Ties
pub mod Rounding
pub mod Modulo
pub mod Divided
