-- The constants of cancel.rs (01: "Constants are those at the head of cancel.rs"): each is the f64 nearest to what the
-- Rust writes. src/lib.rt says what each is for; `proofs/Bits.antt` shows the bit pattern of each.
use Rattle.std.specs.Prelude.{ℕ, ◌^◌, Float}
use Rattle.std.specs.Float.Ieee.{neg}
use Rattle.float.specs.Ops.{◌⊘◌, of, fraction, two}

-- EDGE_WINDOW_S: 256.0 / 96_000.0
unfoldable pub EDGE_WINDOW_S : Float
EDGE_WINDOW_S = fraction 256 96000

-- RISE_S: 5e-3
unfoldable pub RISE_S : Float
RISE_S = fraction 5 1000

-- MIN_ELEMENTS: 20
abbrev pub MIN_ELEMENTS : ℕ
MIN_ELEMENTS = 20

-- MAX_CARRIER_STEP_HZ: 5.0
unfoldable pub MAX_CARRIER_STEP_HZ : Float
MAX_CARRIER_STEP_HZ = of 5

-- MIN_INTERIOR_S: 10e-3
unfoldable pub MIN_INTERIOR_S : Float
MIN_INTERIOR_S = fraction 10 1000

-- SLOPE_BLOCK_S: 0.5e-3
unfoldable pub SLOPE_BLOCK_S : Float
SLOPE_BLOCK_S = fraction 5 10000

-- RIM_S: 0.2
unfoldable pub RIM_S : Float
RIM_S = fraction 2 10

-- EDGE_ZONE_S: RISE_S / 2.0
unfoldable pub EDGE_ZONE_S : Float
EDGE_ZONE_S = RISE_S ⊘ two

-- EDGE_PERCENTILE: 0.98
unfoldable pub EDGE_PERCENTILE : Float
EDGE_PERCENTILE = fraction 98 100

-- CLEAN_EDGE_OVER_NEIGHBOUR_DB: -7.0
unfoldable pub CLEAN_EDGE_OVER_NEIGHBOUR_DB : Float
CLEAN_EDGE_OVER_NEIGHBOUR_DB = neg (of 7)

-- CLEAN_INTERIOR_OVER_NEIGHBOUR_DB: -10.0
unfoldable pub CLEAN_INTERIOR_OVER_NEIGHBOUR_DB : Float
CLEAN_INTERIOR_OVER_NEIGHBOUR_DB = neg (of 10)

-- NEIGHBOUR_PERCENTILE: 0.90
unfoldable pub NEIGHBOUR_PERCENTILE : Float
NEIGHBOUR_PERCENTILE = fraction 90 100

-- ONE_SIGNAL_MAX_HOT: 0.15
unfoldable pub ONE_SIGNAL_MAX_HOT : Float
ONE_SIGNAL_MAX_HOT = fraction 15 100

-- NON_CW_MIN_HOT: 0.75
unfoldable pub NON_CW_MIN_HOT : Float
NON_CW_MIN_HOT = fraction 75 100

-- MIN_COHERENCE: 0.8
unfoldable pub MIN_COHERENCE : Float
MIN_COHERENCE = fraction 8 10

-- MIN_OFFSET_HZ: 10.0
unfoldable pub MIN_OFFSET_HZ : Float
MIN_OFFSET_HZ = of 10

-- MAX_OFFSET_HZ: 150.0
unfoldable pub MAX_OFFSET_HZ : Float
MAX_OFFSET_HZ = of 150

-- HOT_FACTOR: 4.0
unfoldable pub HOT_FACTOR : Float
HOT_FACTOR = of 4

-- PAIR_FACTOR: 10.0
unfoldable pub PAIR_FACTOR : Float
PAIR_FACTOR = of 10

-- REFERENCE_OFFSET_HZ: 500.0
unfoldable pub REFERENCE_OFFSET_HZ : Float
REFERENCE_OFFSET_HZ = of 500

-- f64::MIN_POSITIVE: 2^−1022
unfoldable pub MIN_POSITIVE : Float
MIN_POSITIVE = fraction 1 (2 ^ 1022)
