-- Slices that agree in part.
use Prim.Native.Nat.{ℕ, ◌+◌, ◌*◌, ◌<◌}
use native.Mathlib.Omega.{arith}
use mathlib.Core.Path.{◌≡◌, sym, ap, ◌∙◌}
use mathlib.Core.List.{List, ◌++◌}
use lib.ListN.{length, get_or, take, get_or-append}
use lib.Seq.{get_or-take}
use lib.Ieee.{Float, nan}
use Rattle.complex.specs.Rows.{z_at}

-- complex number k of two slices that agree there
pub z_at_same : (v w : List Float) (k : ℕ) → ((i : ℕ) → i < 2 * k + 2 → get_or v i nan ≡ get_or w i nan) → z_at v k ≡ z_at w k
z_at_same v w k e = rw (e (2 * k) (omega arith), e (2 * k + 1) (omega arith))

-- the same where the first m numbers agree
pub z_at_below : (v w : List Float) (m : ℕ) → take m v ≡ take m w → (k : ℕ) → 2 * k + 1 < m → z_at v k ≡ z_at w k
z_at_below v w m e k h =
    z_at_same v w k
    (λ i l. let g : i < m = omega arith in sym (get_or-take m v i nan g) ∙ ap (λ n. get_or n i nan) e ∙ get_or-take m w i nan g)

-- a row, and what it was made from: v before u, and the first numbers of w
pub z_at_front : (v u : List Float) (k : ℕ) → 2 * k + 1 < length v → z_at (v ++ u) k ≡ z_at v k
z_at_front v u k h = z_at_same (v ++ u) v k (λ i l. get_or-append v u nan i (omega arith))

pub z_at_taken : (w v : List Float) (m k : ℕ) → v ≡ take m w → 2 * k + 1 < m → z_at v k ≡ z_at w k
z_at_taken w v m k e h = z_at_same v w k (λ i l. ap (λ n. get_or n i nan) e ∙ get_or-take m w i nan (omega arith))
