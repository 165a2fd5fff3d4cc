-- The edge table's ranks, and the order at its ends: antt computes them. Assumes nothing.
use mathlib.Core.Path.{◌≡◌, refl}
use mathlib.Core.List.{[], ◌∷◌}
use lib.Ieee.{nan, inf, lt, eq, is_nan, to_unsigned, of_int, of_bits, mul}
use mathlib.Core.Bool.{true, false}
use Rattle.float.specs.Ops.{half, plus_zero, minus_zero, one}
use Rattle.float.specs.Whole.{round_of}
use Rattle.rank.specs.Order.{sorted}
use Rattle.rank.specs.Select.{rank_of}

-- Rank at p = 0.5: 2 for four values, 2 for five
pub rank_of_four : rank_of 4 half ≡ 2
unfolding rank_of to_unsigned round_of mul of_int of_bits
rank_of_four = refl

pub rank_of_five : rank_of 5 half ≡ 2
unfolding rank_of to_unsigned round_of mul of_int of_bits
rank_of_five = refl

-- −∞, −0, +0, 1, +∞ and a NaN
pub in_order : sorted (one ∷ nan ∷ plus_zero ∷ inf false ∷ minus_zero ∷ inf true ∷ []) ≡ inf true ∷ minus_zero ∷ plus_zero ∷ one ∷ inf false ∷ nan ∷ []
unfolding sorted of_bits lt eq is_nan
in_order = refl
