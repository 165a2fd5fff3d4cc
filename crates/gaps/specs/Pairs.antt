-- Hot gap blocks, and pairs of consecutive gap blocks (01, part 6: `second_carrier_evidence`): of a row of block means
-- z, a test `gap` that tells the gap blocks, and a reference. Definitions only.
use Rattle.std.specs.Prelude.{ℕ, zero, suc, ◌+◌, ◌-◌, ◌<◌, ◌≡◌, Bool, true, false, ◌&&◌, ◌||◌, List, [], ◌∷◌, ltb, Float}
use Rattle.std.specs.Float.Ieee.{lt}
use Rattle.float.specs.Ops.{◌⊗◌}
use Rattle.float.specs.Ops as float
use Rattle.lists.specs.Count.{count_to}
use Rattle.lists.specs.Those.{picked}
use Rattle.lists.specs.Sums.{sum_over}
use Rattle.constants.specs.Constants.{HOT_FACTOR, PAIR_FACTOR}
use Rattle.complex.specs.declared.value.Complex.{Complex}
use Rattle.complex.specs.Value.{c_zero, c_add, c_mul, c_conj, c_norm}
use Rattle.gaps.specs.declared.pairs.Gaps.{Gaps}
use Rattle.gaps.specs.declared.pairs.Pairs.{Pairs}
use Rattle.prepared.specs.Powers.{block_power}

-- a gap block whose power is above a level
unfoldable pub above : (ℕ → Bool) → (ℕ → Complex) → Float → ℕ → Bool
above gap z level b = gap b && lt level (block_power z b)

-- A gap block is hot above HOT_FACTOR × reference.
abbrev pub hot : (ℕ → Bool) → (ℕ → Complex) → Float → ℕ → Bool
hot gap z ref = above gap z (HOT_FACTOR ⊗ ref)

-- Both blocks of a pair are above PAIR_FACTOR × reference.
abbrev pub strong : (ℕ → Bool) → (ℕ → Complex) → Float → ℕ → Bool
strong gap z ref = above gap z (PAIR_FACTOR ⊗ ref)

-- Blocks b and b + 1 are consecutive gap blocks, both above PAIR_FACTOR × reference, as a property: `absent_exactly` of
-- crate measure says that the offset is absent exactly when no block b has it.
pub record IsPair (gap : ℕ → Bool) (z : ℕ → Complex) (ref : Float) (blocks b : ℕ) : Type 0 where
  pub inside : b + 1 < blocks
  pub first_gap : gap b ≡ true
  pub second_gap : gap (b + 1) ≡ true
  pub first_above : lt (PAIR_FACTOR ⊗ ref) (block_power z b) ≡ true
  pub second_above : lt (PAIR_FACTOR ⊗ ref) (block_power z (b + 1)) ≡ true

-- how many gap blocks there are, and how many of them are hot
unfoldable pub gaps_of : (ℕ → Bool) → (ℕ → Complex) → Float → ℕ → Gaps
gaps_of gap z ref blocks = record { blocks = count_to gap blocks; hot = count_to (hot gap z ref) blocks }

-- ---- pairs, of a test `s` that tells the strong gap blocks

-- the block before block b passes; there is none before block 0
unfoldable pub preceded : (ℕ → Bool) → ℕ → Bool
preceded s zero = false
preceded s (suc a) = s a

-- the block after block b passes; there is none after the last
unfoldable pub followed : (ℕ → Bool) → ℕ → ℕ → Bool
followed s blocks b = ltb (b + 1) blocks && s (b + 1)

-- a pair ends at block b: b − 1 and b are consecutive gap blocks, both strong
unfoldable pub pair_at : (ℕ → Bool) → ℕ → Bool
pair_at s b = preceded s b && s b

-- `p`: the product of the pair that ends at block b
abbrev pub lagged : (ℕ → Complex) → ℕ → Complex
lagged z b = c_mul (z b) (c_conj (z (b - 1)))

-- the products of all pairs, in order
abbrev pub products : (ℕ → Bool) → (ℕ → Complex) → ℕ → List Complex
products s z blocks = picked (pair_at s) (lagged z) blocks

-- `acc`: complex numbers added up from the left, to a start
unfoldable pub c_over : Complex → List Complex → Complex
c_over start [] = start
c_over start (x ∷ xs) = c_over (c_add start x) xs

-- how many pairs there are, the sum `acc` of their products, and `mag`, that of the products' sizes
unfoldable pub pairs_of : (ℕ → Bool) → (ℕ → Complex) → ℕ → Pairs
pairs_of s z blocks =
    record { count = count_to (pair_at s) blocks; sum = c_over c_zero (products s z blocks); size = sum_over c_norm float.plus_zero (products s z blocks) }

-- block b is in a pair: it is strong, and so is a neighbour
unfoldable pub in_pair : (ℕ → Bool) → ℕ → ℕ → Bool
in_pair s blocks b = s b && (preceded s b || followed s blocks b)

-- `pair_blocks`: the blocks that are in a pair, each once, in order
abbrev pub pair_blocks : (ℕ → Bool) → ℕ → List ℕ
pair_blocks s blocks = picked (in_pair s blocks) (λ b. b) blocks
