-- Blocks of samples: a block lies within the recording, and where the next one starts.
use Prim.Native.Nat.{ℕ, ◌+◌, ◌*◌, ◌/◌, ◌≤◌, ◌<◌}
use native.Mathlib.Nat.{mul-le-mul_right, suc-mul, div-mul-le_self, div-le_self}
use native.Mathlib.Numerals.{add-one}
use native.Mathlib.Omega.{arith}
use mathlib.Core.Path.{◌≡◌}
use mir.Val.{Fits}
use mir.Syntax.{w64}
use mathlib.Core.List.{List}
use lib.ListN.{length}
use lib.Ieee.{Float}
use Rattle.complex.specs.declared.value.Complex.{Complex}
use Rattle.row.specs.Window.{samples, blocks}
use Rattle.row.specs.Blocks.{mean_from, block_mean}

-- a recording of at most 2^20 samples has at most so many blocks
pub blocks_short : (iq : List Float) (len : ℕ) → length iq ≤ 2097152 → blocks iq len ≤ 1048576
blocks_short iq len h = omega (arith, div-le_self (samples iq) len)

-- block b lies within the recording
pub block_fits : (n len b : ℕ) → b < n / 2 / len → 2 * (b * len + len) ≤ n
block_fits n len b h = omega (arith, mul-le-mul_right len h, suc-mul b len, div-mul-le_self (n / 2) len)

-- ---- a loop over blocks that adds their starts up: the block from there lies within the recording, so that the start
-- can be raised by the length, and then it is the start of the next one
pub start_within : (n len b from : ℕ) → from ≡ b * len → b < n / 2 / len → 2 * (from + len) ≤ n
start_within n len b from e h = rw e (block_fits n len b h)

pub raised_fits : (n len b from : ℕ) → from ≡ b * len → b < n / 2 / len → n ≤ 2097152 → Fits w64 (from + len)
raised_fits n len b from e h g = record { fits = omega (arith, start_within n len b from e h) }

pub start_next : (b len from next : ℕ) → from ≡ b * len → next ≡ from + len → next ≡ (b + 1) * len
start_next b len from next e h = rw (add-one, suc-mul, ← e) h

-- the mean from there is that of the block
pub block_mean_is : (iq : List Float) (cyc : Float) (len b from : ℕ) (m : Complex) → from ≡ b * len → m ≡ mean_from iq cyc from len → m ≡ block_mean iq cyc len b
unfolding block_mean
block_mean_is iq cyc len b from m e h = rw (h, e)
