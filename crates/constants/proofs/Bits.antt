-- The bit pattern that the literal of each constant has in the code, computed from its definition.
use mathlib.Core.Path.{◌≡◌, refl}
use lib.Ieee.{of_bits, round, of_int, neg, div}
use Rattle.float.specs.Ops.{bits, fraction}
use Rattle.constants.specs.Constants.{EDGE_WINDOW_S, RISE_S, MAX_CARRIER_STEP_HZ, MIN_INTERIOR_S, SLOPE_BLOCK_S, RIM_S, EDGE_ZONE_S, EDGE_PERCENTILE, CLEAN_EDGE_OVER_NEIGHBOUR_DB, CLEAN_INTERIOR_OVER_NEIGHBOUR_DB, NEIGHBOUR_PERCENTILE, ONE_SIGNAL_MAX_HOT, NON_CW_MIN_HOT, MIN_COHERENCE, MIN_OFFSET_HZ, MAX_OFFSET_HZ, HOT_FACTOR, PAIR_FACTOR, REFERENCE_OFFSET_HZ, MIN_POSITIVE}

pub edge_window_bits : EDGE_WINDOW_S ≡ bits 0x3f65_d867_c3ec_e2a5
unfolding EDGE_WINDOW_S fraction round of_bits of_int neg div
edge_window_bits = refl

pub rise_bits : RISE_S ≡ bits 0x3f74_7ae1_47ae_147b
unfolding RISE_S fraction round of_bits of_int neg div
rise_bits = refl

pub max_carrier_step_bits : MAX_CARRIER_STEP_HZ ≡ bits 0x4014_0000_0000_0000
unfolding MAX_CARRIER_STEP_HZ fraction round of_bits of_int neg div
max_carrier_step_bits = refl

pub min_interior_bits : MIN_INTERIOR_S ≡ bits 0x3f84_7ae1_47ae_147b
unfolding MIN_INTERIOR_S fraction round of_bits of_int neg div
min_interior_bits = refl

pub slope_block_bits : SLOPE_BLOCK_S ≡ bits 0x3f40_624d_d2f1_a9fc
unfolding SLOPE_BLOCK_S fraction round of_bits of_int neg div
slope_block_bits = refl

pub rim_bits : RIM_S ≡ bits 0x3fc9_9999_9999_999a
unfolding RIM_S fraction round of_bits of_int neg div
rim_bits = refl

pub edge_zone_bits : EDGE_ZONE_S ≡ bits 0x3f64_7ae1_47ae_147b
unfolding EDGE_ZONE_S fraction round of_bits of_int neg div RISE_S
edge_zone_bits = refl

pub edge_percentile_bits : EDGE_PERCENTILE ≡ bits 0x3fef_5c28_f5c2_8f5c
unfolding EDGE_PERCENTILE fraction round of_bits of_int neg div
edge_percentile_bits = refl

pub clean_edge_over_neighbour_bits : CLEAN_EDGE_OVER_NEIGHBOUR_DB ≡ bits 0xc01c_0000_0000_0000
unfolding CLEAN_EDGE_OVER_NEIGHBOUR_DB fraction round of_bits of_int neg div
clean_edge_over_neighbour_bits = refl

pub clean_interior_over_neighbour_bits : CLEAN_INTERIOR_OVER_NEIGHBOUR_DB ≡ bits 0xc024_0000_0000_0000
unfolding CLEAN_INTERIOR_OVER_NEIGHBOUR_DB fraction round of_bits of_int neg div
clean_interior_over_neighbour_bits = refl

pub neighbour_percentile_bits : NEIGHBOUR_PERCENTILE ≡ bits 0x3fec_cccc_cccc_cccd
unfolding NEIGHBOUR_PERCENTILE fraction round of_bits of_int neg div
neighbour_percentile_bits = refl

pub one_signal_max_hot_bits : ONE_SIGNAL_MAX_HOT ≡ bits 0x3fc3_3333_3333_3333
unfolding ONE_SIGNAL_MAX_HOT fraction round of_bits of_int neg div
one_signal_max_hot_bits = refl

pub non_cw_min_hot_bits : NON_CW_MIN_HOT ≡ bits 0x3fe8_0000_0000_0000
unfolding NON_CW_MIN_HOT fraction round of_bits of_int neg div
non_cw_min_hot_bits = refl

pub min_coherence_bits : MIN_COHERENCE ≡ bits 0x3fe9_9999_9999_999a
unfolding MIN_COHERENCE fraction round of_bits of_int neg div
min_coherence_bits = refl

pub min_offset_bits : MIN_OFFSET_HZ ≡ bits 0x4024_0000_0000_0000
unfolding MIN_OFFSET_HZ fraction round of_bits of_int neg div
min_offset_bits = refl

pub max_offset_bits : MAX_OFFSET_HZ ≡ bits 0x4062_c000_0000_0000
unfolding MAX_OFFSET_HZ fraction round of_bits of_int neg div
max_offset_bits = refl

pub hot_factor_bits : HOT_FACTOR ≡ bits 0x4010_0000_0000_0000
unfolding HOT_FACTOR fraction round of_bits of_int neg div
hot_factor_bits = refl

pub pair_factor_bits : PAIR_FACTOR ≡ bits 0x4024_0000_0000_0000
unfolding PAIR_FACTOR fraction round of_bits of_int neg div
pair_factor_bits = refl

pub reference_offset_bits : REFERENCE_OFFSET_HZ ≡ bits 0x407f_4000_0000_0000
unfolding REFERENCE_OFFSET_HZ fraction round of_bits of_int neg div
reference_offset_bits = refl

pub min_positive_bits : MIN_POSITIVE ≡ bits 0x0010_0000_0000_0000
unfolding MIN_POSITIVE fraction round of_bits
min_positive_bits = refl
