-- What the small literals of the code are, and 01's two examples of rounding: round(1.5) = 2, round(−2.5) = −3, and
-- rem_euclid(−2^−60, 1) = 1.0.
use Rattle.std.proofs.Common.{◌≡◌, true, negsuc, refl}
use lib.Ieee.{fin, neg, of_bits, of_int, add, rem, lt}
use Rattle.float.specs.Ops.{of, fraction, plus_zero, minus_zero, half, one, two, eight}
use Rattle.float.specs.Compare.{abs_of}
use Rattle.float.specs.Whole.{round_of}
use Rattle.float.specs.Remainder.{rem_euclid_of}

pub literals : (plus_zero ≡ of 0) × (minus_zero ≡ neg plus_zero) × (half ≡ fraction 1 2) × (one ≡ of 1) × (two ≡ of 2) × (eight ≡ of 8)
unfolding of_bits of_int neg fraction
literals = (refl, refl, refl, refl, refl, refl)

-- a half goes away from zero
pub round_halves : (round_of (fraction 3 2) ≡ of 2) × (round_of (neg (fraction 5 2)) ≡ neg (of 3))
unfolding round_of fraction of_int neg
round_halves = (refl, refl)

-- the sum is rounded up to |b|
pub rem_reaches_one : rem_euclid_of (fin true 1 (negsuc 59)) one ≡ one
unfolding rem_euclid_of rem lt of_bits add abs_of
rem_reaches_one = refl
