-- The reference of the evidence (01, part 6: `second_carrier_evidence`): the median power of the gap blocks at the
-- carrier ± REFERENCE_OFFSET_HZ, pooled, and at least 1e-12 × the median power of the interior blocks at the carrier.
-- `mean c` is the row of block means at the carrier c. Definitions only.
use Rattle.std.specs.Prelude.{ℕ, ◌^◌, Bool, List, ◌++◌, Float, Some, None}
use Rattle.std.specs.declared.option.Option.{Option}
use Rattle.std.specs.Float.Ieee.{neg}
use Rattle.float.specs.Ops.{◌⊕◌, ◌⊗◌, ◌⊘◌, fraction, plus_zero, half}
use Rattle.float.specs.Compare.{max_of}
use Rattle.lists.specs.Those.{picked}
use Rattle.constants.specs.Constants.{REFERENCE_OFFSET_HZ, MIN_POSITIVE}
use Rattle.complex.specs.declared.value.Complex.{Complex}
use Rattle.row.specs.Window.{window_of}
use Rattle.row.specs.Blocks.{block_mean}
use Rattle.rank.specs.Select.{percentile_of}
use Rattle.prepared.specs.Powers.{block_power}

-- the block means of a recording at a rate, at a carrier
abbrev pub mean_at : List Float → Float → Float → ℕ → Complex
mean_at iq fs carrier = block_mean iq (carrier ⊘ fs) (window_of fs)

-- `unwrap_or(0.0)`
abbrev pub or_zero : Option Float → Float
or_zero (Some v) = v
or_zero None = plus_zero

-- the median of a list, 0 of an empty one
abbrev pub median_of : List Float → Float
median_of l = or_zero (percentile_of l half)

-- the powers of the gap blocks at a carrier
abbrev pub gap_powers : (Float → ℕ → Complex) → (ℕ → Bool) → ℕ → Float → List Float
gap_powers mean gap blocks c = picked gap (block_power (mean c)) blocks

-- `side`: those at the carrier − REFERENCE_OFFSET_HZ, and then those at the carrier + REFERENCE_OFFSET_HZ
abbrev pub side_of : (Float → ℕ → Complex) → Float → (ℕ → Bool) → ℕ → List Float
side_of mean carrier gap blocks =
    gap_powers mean gap blocks (carrier ⊕ neg REFERENCE_OFFSET_HZ) ++ gap_powers mean gap blocks (carrier ⊕ REFERENCE_OFFSET_HZ)

-- `reference`, of the powers `side` and `interior`: never below the smallest normal f64
unfoldable pub reference_from : List Float → List Float → Float
reference_from side interior = max_of (max_of (median_of side) (fraction 1 (10 ^ 12) ⊗ median_of interior)) MIN_POSITIVE

-- of so many blocks with the means z at the carrier, where `gap` and `interior` tell the blocks of these classes
unfoldable pub reference_by : (Float → ℕ → Complex) → Float → (ℕ → Bool) → (ℕ → Bool) → (ℕ → Complex) → ℕ → Float
reference_by mean carrier gap interior z blocks = reference_from (side_of mean carrier gap blocks) (picked interior (block_power z) blocks)
