-- The offset of a second carrier (01, part 6: `second_carrier_evidence`): a number or absent. `mean c` is the row of
-- block means at the carrier c. Definitions only.
use Rattle.std.specs.Prelude.{ℕ, cond, List, eqb, Float, Some, None}
use Rattle.std.specs.declared.option.Option.{Option}
use Rattle.std.specs.Float.Ieee.{lt}
use Rattle.float.specs.Ops.{◌⊕◌, ◌⊖◌, ◌⊗◌, ◌⊘◌, minus_zero}
use Rattle.lists.specs.Sums.{sum_over}
use Rattle.trig.specs.Consts.{TAU}
use Rattle.complex.specs.declared.value.Complex.{Complex}
use Rattle.complex.specs.Value.{c_arg}
use Rattle.gaps.specs.declared.pairs.Pairs.{Pairs}
use Rattle.prepared.specs.Powers.{block_power}

-- `power`: the sum of the powers of some blocks at the carrier + f. Rust's `.sum()` starts at −0.0.
unfoldable pub power_at : (Float → ℕ → Complex) → Float → List ℕ → Float → Float
power_at mean carrier blocks f = sum_over (block_power (mean (carrier ⊕ f))) minus_zero blocks

-- a later one wins only when strictly stronger
abbrev pub stronger : (Float → Float) → Float → Float → Float
stronger p best f = cond (lt (p best) (p f)) f best

-- of f0, f0 − rate, f0 + rate, in this order
unfoldable pub strongest : (Float → Float) → Float → Float → Float
strongest p f0 rate = stronger p (stronger p f0 (f0 ⊖ rate)) (f0 ⊕ rate)

-- `f0`: the angle of the pairs' sum as a frequency, at so many blocks a second
abbrev pub f0_of : Pairs → Float → Float
f0_of pairs rate = c_arg pairs.sum ⊗ rate ⊘ TAU

-- the offset, of the pairs and the blocks in them; absent where there is no pair
unfoldable pub offset_from : (Float → ℕ → Complex) → Float → Float → Pairs → List ℕ → Option Float
offset_from mean carrier rate pairs blocks =
    cond (eqb pairs.count 0) None (Some (strongest (power_at mean carrier blocks) (f0_of pairs rate) rate))
