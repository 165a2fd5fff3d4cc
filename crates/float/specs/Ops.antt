-- The single operations of IEEE 754 at 64 bits, the f64 nearest to a fraction of whole numbers, and the small literals
-- of the code. What rounding means says specs/Nearest.antt. Definitions only.
use Rattle.std.specs.Prelude.{ℕ, false, pos, from_bits, Float}
use Rattle.std.specs.Float.{binary64}
use Rattle.std.specs.Float.Ieee.{add, sub, mul, div, of_int, round}

infixl 6 ◌⊕◌
abbrev pub ◌⊕◌ : Float → Float → Float
x ⊕ y = add binary64 x y

infixl 6 ◌⊖◌
abbrev pub ◌⊖◌ : Float → Float → Float
x ⊖ y = sub binary64 x y

infixl 7 ◌⊗◌
abbrev pub ◌⊗◌ : Float → Float → Float
x ⊗ y = mul binary64 x y

infixl 7 ◌⊘◌
abbrev pub ◌⊘◌ : Float → Float → Float
x ⊘ y = div binary64 x y

-- the f64 that a whole number is, rounded where it has too many digits
abbrev pub of : ℕ → Float
of n = of_int binary64 (pos n)

-- the f64 nearest to a / c
unfoldable pub fraction : ℕ → ℕ → Float
fraction a c = round binary64 false a c

-- A literal of the code is its bit pattern; `literals` of proofs/Literals.antt says which number each is.
abbrev pub bits : ℕ → Float
bits n = from_bits binary64 n

abbrev pub plus_zero : Float
plus_zero = bits 0

abbrev pub minus_zero : Float
minus_zero = bits 0x8000_0000_0000_0000

abbrev pub half : Float
half = bits 0x3fe0_0000_0000_0000

abbrev pub one : Float
one = bits 0x3ff0_0000_0000_0000

abbrev pub two : Float
two = bits 0x4000_0000_0000_0000

abbrev pub eight : Float
eight = bits 0x4020_0000_0000_0000
