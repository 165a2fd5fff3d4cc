-- Laws on complex numbers that the crates above cite, by subject.

-- RowLaws     loops that sum: `c_sum_none`, `c_sum_turn`, `c_sum_done` (from 0: `c_sum_none0` ..); sums of the same
--             terms: `c_sum_cong`, `c_sum_moved`; a number read as its pair: `pair_read`, `pairs_number`; loops that
--             store: `z_fill_none`, `z_fill_turn0`, `z_fill_done`, `z_fill_cong`, `length_z_fill`; read back:
--             `z_at_z_set_same`, `z_at_z_set_other`, `z_at_z_fill`, `z_at_fill_below`
-- Bounds      how large the parts of a result are: `CBounded`; `cbounded_add`, `cbounded_sub`, `cbounded_mul`,
--             `cbounded_conj`, `cbounded_div`, `cbounded_sum`, `cbounded_mean`; the norm is finite and not negative:
--             `norm_amount`
-- Angles      the loop that stores a unit for each angle: `unit_is`, ruleset `stores`
pub mod RowLaws
pub mod Bounds
pub mod Angles
