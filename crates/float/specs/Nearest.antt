-- What rounding comes to, in whole numbers: a finite value of a format is a number of units of its smallest value
-- (`in_units`). No contract cites this. `round_rounded` of proofs/Rounding.antt proves `Rounded` of what `round` gives,
-- in either format and of any fraction, and `sqrt_nearest` of proofs/Meaning.antt proves `RootRounded` of what
-- `sqrt_of` gives, of any value above zero. Definitions only.
use Rattle.std.specs.Prelude.{◌≡◌, ℕ, suc, ◌+◌, ◌-◌, ◌*◌, ◌/◌, ◌%◌, ◌^◌, ◌<◌, ◌≤◌, Bool, false, cond, T, ◌⊎◌, ◌↔◌, Float}
use Rattle.std.specs.Bool.{beq}
use Rattle.std.specs.Float.{inf, Format}
use Rattle.std.specs.Float.Ieee.{prec, emax, low, size, fits}
use Rattle.std.specs.Float.Ieee.Exact.{HasValue}

-- ---- a fraction, rounded

-- the distance of ± a and ± b
abbrev pub apart : Bool → ℕ → Bool → ℕ → ℕ
apart s a t b = cond (beq s t) (a - b + (b - a)) (a + b)

-- the last of the digits that the format keeps of a value of r units: 0 where it is even
abbrev pub last_digit : Format → ℕ → ℕ
last_digit f r = r / 2 ^ (size r - prec f) % 2

-- l is less than g; or they are the same, and the last digit of r is even, and that of b is odd
abbrev pub Closer : Format → ℕ → ℕ → ℕ → ℕ → Type 0
Closer f r b l g = (l < g) ⊎ ((l ≡ g) × (last_digit f r ≡ 0) × (last_digit f b ≡ 1))

-- x is ± r units of 2 ^ -low. Each value y of the format, ± b units, that is another number is farther from ± a / c;
-- or it is as far, and the last digit of x is even and that of y is odd. (The distances are times c * 2 ^ low.)
pub record Near (f : Format) (s : Bool) (a c : ℕ) (x : Float) : Type 0 where
  pub r : ℕ
  pub value : HasValue x s r (2 ^ low f)
  pub nearest : (y : Float) (t : Bool) (b : ℕ) → T (fits f y) → HasValue y t b (2 ^ low f) → 0 < apart s r t b → Closer f r b (apart s (a * 2 ^ low f) s (r * c)) (apart s (a * 2 ^ low f) t (b * c))

-- a / c is (2 ^ prec - 1/2) * 2 ^ (emax + 1 - prec) at least: the largest finite value and half of its last digit
abbrev pub Overflows : Format → ℕ → ℕ → Type 0
Overflows f a c = (2 ^ suc (prec f) - 1) * 2 ^ (suc (emax f) - prec f) * c ≤ 2 * a

-- x is ± a / c rounded to the format: an infinity if a / c overflows, and else the nearest value, a tie to the even one
pub record Rounded (f : Format) (s : Bool) (a c : ℕ) (x : Float) : Type 0 where
  pub held : T (fits f x)
  pub infinite : (x ≡ inf s) ↔ Overflows f a c
  pub near : (Overflows f a c → ⊥) → Near f s a c x

-- ---- a square root, rounded

-- r units are nearer to the root of n, in the same units, than any other value of the format, y, of b units: the
-- half-way point, (r + b) / 2, lies beyond the root. (No root lies half-way, so there is no tie.)
pub record Nearest (f : Format) (n r : ℕ) : Type 0 where
  pub above : (y : Float) (b : ℕ) → T (fits f y) → HasValue y false b (2 ^ low f) → r < b → 4 * n < (r + b) * (r + b)
  pub below : (y : Float) (b : ℕ) → T (fits f y) → HasValue y false b (2 ^ low f) → b < r → (r + b) * (r + b) < 4 * n

-- z is the root of a units, rounded to the format: a units are a * 2 ^ -low, so their root is that of a * 2 ^ low units
pub record RootRounded (f : Format) (a : ℕ) (z : Float) : Type 0 where
  pub r : ℕ
  pub held : T (fits f z)
  pub value : HasValue z false r (2 ^ low f)
  pub nearest : Nearest f (a * 2 ^ low f) r
