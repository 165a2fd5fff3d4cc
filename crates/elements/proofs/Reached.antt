-- An amplitude lies below a threshold or reaches it: never both, and one of the two where neither is a NaN. Assumes
-- nothing.
use Prim.Native.Nat.{ℕ, zero, suc, ◌+◌, ◌*◌, ◌<◌}
use native.Mathlib.Omega.{arith}
use mathlib.Core.Path.{◌≡◌, refl}
use mathlib.Core.Bool.{Bool, true, false, ◌&&◌, ◌||◌, and-false, false≢true}
use lib.Dec.{eqb}
use lib.Ieee.Bits.{is_true}
use lib.Ieee.{Float, nan, inf, fin, up, down, lt, eq, le, is_nan, below, level}
use Rattle.float.proofs.Compared.{no}
use Rattle.float.proofs.Monotone.{not_lt_le}
use borrow.Author.Tests.{ltb-true, le-ltb, ne_eqb}

-- ---- the same of two numbers with signs, ±a and ±b
not_both_zero : (a b : ℕ) → 0 < a + b → (eqb b a && eqb b 0) ≡ false
not_both_zero a zero h = rw (ne_eqb 0 a (omega arith))
not_both_zero a (suc b) h = rw (ne_eqb (suc b) 0 (omega arith)) (and-false (eqb (suc b) a))

below_not : (s t : Bool) (a b : ℕ) → below s a t b ≡ true → (below t b s a || level t b s a) ≡ false
below_not false false a b h = let g = ltb-true a b h in rw (le-ltb b a (omega arith), ne_eqb b a (omega arith))
below_not false true a b h = absurd (false≢true h)
below_not true false a b h = not_both_zero a b (ltb-true 0 (a + b) h)
below_not true true a b h = let g = ltb-true b a h in rw (le-ltb a b (omega arith), ne_eqb b a (omega arith))

-- ---- of two floats
pub not_reached : (x t : Float) → lt x t ≡ true → le t x ≡ false
unfolding lt eq le
not_reached nan t h = absurd (false≢true h)
not_reached (inf s) nan h = absurd (false≢true h)
not_reached (inf true) (inf true) h = absurd (false≢true h)
not_reached (inf true) (inf false) h = refl
not_reached (inf false) (inf t) h = absurd (false≢true h)
not_reached (inf true) (fin t n d) h = refl
not_reached (inf false) (fin t n d) h = absurd (false≢true h)
not_reached (fin s m e) nan h = absurd (false≢true h)
not_reached (fin s m e) (inf true) h = absurd (false≢true h)
not_reached (fin s m e) (inf false) h = refl
not_reached (fin s m e) (fin t n d) h = below_not s t (m * up e * down d) (n * up d * down e) h

pub reached : (x t : Float) → is_nan x ≡ false → is_nan t ≡ false → lt x t ≡ false → le t x ≡ true
reached x t p q h = is_true (le t x) (not_lt_le x t (no p) (no q) (no h))

-- a threshold that is reached is no NaN
pub reached_number : (x t : Float) → le t x ≡ true → is_nan t ≡ false
unfolding lt eq le is_nan
reached_number x nan h = absurd (false≢true h)
reached_number x (inf s) h = refl
reached_number x (fin s m e) h = refl
