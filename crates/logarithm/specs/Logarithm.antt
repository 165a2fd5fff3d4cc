-- The logarithm to base 10 of document 01, part 1. Definitions only; `split` of proofs/Octaves.antt proves `Split` of
-- each y above 0.
use Rattle.std.specs.Prelude.{ℕ, zero, suc, ◌+◌, ◌-◌, ◌*◌, ◌/◌, ◌^◌, ◌<◌, true, false, T, ℤ, pos, ◌+ℤ◌, Float}
use Rattle.std.specs.Float.{nan, inf, fin, binary64}
use Rattle.std.specs.Float.Ieee.{up, down, size, lt, le, of_int}
use Rattle.std.specs.Float.Ieee.Exact.{HasValue}
use Rattle.float.specs.Ops.{of, fraction, ◌⊕◌, ◌⊖◌, ◌⊗◌, ◌⊘◌}
use Rattle.trig.specs.Consts.{LN_2, LN_10}

-- the k with 0.75 ≤ n / 2^k < 1.5, for n above 0: 2^k is the largest power of two up to 4n/3
unfoldable pub octave : ℕ → ℕ
unfolding size
octave n = size (4 * n / 3) - 1

-- y = n·2^p is m·2^e with m = n / 2^k and e = p + k
unfoldable pub mantissa_of : Float → Float
unfolding octave fraction
mantissa_of nan = nan
mantissa_of (inf s) = nan
mantissa_of (fin s n p) = fraction n (2 ^ octave n)

unfoldable pub exponent_of : Float → ℤ
unfolding octave
exponent_of nan = pos 0
exponent_of (inf s) = pos 0
exponent_of (fin s n p) = p +ℤ pos (octave n)

-- what 01 says of m and e: 0.75 ≤ m < 1.5 and y = m·2^e, exactly
pub record Split (y m : Float) (e : ℤ) : Type 0 where
  pub low : T (le (fraction 3 4) m)
  pub high : T (lt m (fraction 3 2))
  pub value : (a c : ℕ) → 0 < c → HasValue m false a c → HasValue y false (a * up e) (c * down e)

-- q^k, multiplied left to right
unfoldable pub power : Float → ℕ → Float
power q zero = of 1
power q (suc zero) = q
power q (suc (suc k)) = power q (suc k) ⊗ q

-- q^(2k+1)/(2k+1)
abbrev pub term : Float → ℕ → Float
term q k = power q (2 * k + 1) ⊘ of (2 * k + 1)

-- s and then the terms from k - 1 down to 0
unfoldable pub added_to : Float → Float → ℕ → Float
unfolding power
added_to q s zero = s
added_to q s (suc k) = added_to q (s ⊕ term q k) k

-- the sum over k = 0..11, added from k = 11 down
unfoldable pub series : Float → Float
unfolding added_to
series q = added_to q (term q 11) 11

-- (e·LN_2 + 2 × sum)/LN_10 with q = (m − 1)/(m + 1)
unfoldable pub log_of : Float → Float → Float
log_of m e = (e ⊗ LN_2 ⊕ of 2 ⊗ series ((m ⊖ of 1) ⊘ (m ⊕ of 1))) ⊘ LN_10

-- 0 gives −∞, ∞ gives ∞, NaN and negatives give NaN
unfoldable pub log10_of : Float → Float
log10_of nan = nan
log10_of (inf true) = nan
log10_of (inf false) = inf false
log10_of (fin s zero p) = inf true
log10_of (fin true (suc n) p) = nan
log10_of (fin false (suc n) p) = log_of (mantissa_of (fin false (suc n) p)) (of_int binary64 (exponent_of (fin false (suc n) p)))
