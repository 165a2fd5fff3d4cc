-- `percentile` (01, part 2). Definitions only.
use Rattle.std.specs.Prelude.{ℕ, ◌-◌, min, List, [], ◌∷◌, length, get_or, Float, Some, None}
use Rattle.std.specs.declared.option.Option.{Option}
use Rattle.std.specs.Float.{nan}
use Rattle.std.specs.Float.Ieee.{to_unsigned}
use Rattle.float.specs.Ops.{◌⊗◌, of}
use Rattle.float.specs.Whole.{round_of}
use Rattle.rank.specs.Order.{sorted}

-- Rank, counted from 0, is round((count − 1) × p), and at most count − 1
unfoldable pub rank_of : ℕ → Float → ℕ
rank_of count p = min (to_unsigned 64 (round_of (of (count - 1) ⊗ p))) (count - 1)

-- the value at that rank, in `total_cmp` order; an empty list answers none
unfoldable pub percentile_of : List Float → Float → Option Float
unfolding sorted rank_of
percentile_of [] p = None
percentile_of (x ∷ xs) p = Some (get_or (sorted (x ∷ xs)) (rank_of (length (x ∷ xs)) p) nan)
