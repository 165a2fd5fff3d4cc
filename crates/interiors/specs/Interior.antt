-- The interior of an element in whole samples, and the block of the slope fit (01, part 4: `fit_elements`).
-- Definitions only.
use Rattle.std.specs.Prelude.{ℕ, Bool, ◌||◌, cond, Float, Some, None}
use Rattle.std.specs.declared.option.Option.{Option}
use Rattle.std.specs.Float.Ieee.{lt, to_unsigned}
use Rattle.float.specs.Ops.{◌⊕◌, ◌⊖◌, ◌⊗◌, of, plus_zero, one}
use Rattle.float.specs.Compare.{max_of}
use Rattle.float.specs.Whole.{floor_of, ceil_of, round_of}
use Rattle.constants.specs.Constants.{RISE_S, MIN_INTERIOR_S, SLOPE_BLOCK_S}
use Rattle.row.specs.declared.span.Span.{Span}

-- `lo` and `hi`: the whole samples in start + RISE_S × fs .. end − RISE_S × fs
unfoldable pub lo_of : Float → Float → Float
lo_of fs start = ceil_of (start ⊕ RISE_S ⊗ fs)

unfoldable pub hi_of : Float → Float → Float
hi_of fs end = floor_of (end ⊖ RISE_S ⊗ fs)

-- `min_len`: the fewest samples of an interior that is fitted
unfoldable pub min_len : Float → ℕ
min_len fs = to_unsigned 64 (ceil_of (MIN_INTERIOR_S ⊗ fs))

-- lo < 0, or hi > n, or hi − lo < min_len: the interior leaves the recording or is too short
unfoldable pub unfit : ℕ → Float → Float → Float → Bool
unfit n fs start end =
    let lo = lo_of fs start in
    let hi = hi_of fs end in
    lt lo plus_zero || (lt (of n) hi || lt (hi ⊖ lo) (of (min_len fs)))

-- the samples from i0 on, up to but without i1
abbrev pub inside : ℕ → ℕ → Option Span
inside i0 i1 = Some record { lo = i0; hi = i1 }

-- those of an element; nothing where it is skipped
unfoldable pub interior_of : ℕ → Float → Float → Float → Option Span
interior_of n fs start end = cond (unfit n fs start end) None (inside (to_unsigned 64 (lo_of fs start)) (to_unsigned 64 (hi_of fs end)))

-- `block`: the samples of a block of the slope fit
unfoldable pub slope_block : Float → ℕ
slope_block fs = to_unsigned 64 (max_of (round_of (SLOPE_BLOCK_S ⊗ fs)) one)
