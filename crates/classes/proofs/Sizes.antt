-- How large a window and the start of a block are, and the centre of a block as the code computes it.
use Prim.Native.Nat.{ℕ, ◌+◌, ◌*◌, ◌≤◌}
use native.Mathlib.Nat.{mul-le-mul}
use native.Mathlib.Omega.{arith}
use mathlib.Core.Path.{◌≡◌, refl}
use mir.Val.{Fits}
use mir.Syntax.{w64}
use lib.Ieee.{Float}
use Rattle.float.specs.Ops.{◌⊕◌, of}
use Rattle.row.specs.Window.{Rate, window_of, centre_of}
use Rattle.row.proofs.Steps.{step_high}
use Rattle.classes.specs.Inner.{to_centre}

pub window_small : (fs : Float) (len : ℕ) → Rate fs → len ≡ window_of fs → len ≤ 512
window_small fs len r e = omega (arith, step_high fs r)

pub centre_is : (len from : ℕ) (h a : Float) → h ≡ to_centre len → a ≡ of from → a ⊕ h ≡ centre_of from len
centre_is len from h a e f = rw (e, f)

-- a block starts at sample 2^26 at most
start_small : (b len m from : ℕ) → b ≤ m → m ≤ 131072 → len ≤ 512 → from ≡ b * len → from ≤ 67108864
start_small b len m from h g s e = let few : b ≤ 131072 = omega arith in omega (arith, mul-le-mul few s)

-- the first start of a loop, and a start raised by the length, fit in 64 bits
pub start_fits : (b len m : ℕ) → b ≤ m → m ≤ 131072 → len ≤ 512 → Fits w64 (b * len)
start_fits b len m h g s = record { fits = let small = start_small b len m (b * len) h g s refl in omega arith }

pub next_fits : (b len m from : ℕ) → b ≤ m → m ≤ 131072 → len ≤ 512 → from ≡ b * len → Fits w64 (from + len)
next_fits b len m from h g s e = record { fits = let small = start_small b len m from h g s e in omega arith }

-- and a start is a float exactly
pub start_exact : (b len m from : ℕ) → b ≤ m → m ≤ 131072 → len ≤ 512 → from ≡ b * len → from ≤ 9007199254740992
start_exact b len m from h g s e = let small = start_small b len m from h g s e in omega arith
