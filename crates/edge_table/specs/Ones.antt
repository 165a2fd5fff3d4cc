-- The recordings of 01's edge table: samples 0 or (1, 0). Definitions only.
use Rattle.std.specs.Prelude.{ℕ, zero, suc, ◌+◌, ◌-◌, Bool, ◌&&◌, cond, List, [], ◌∷◌, ◌++◌, leb, Float}
use Rattle.float.specs.Ops.{of}

-- whether sample k is (1, 0): "ones at a..e"
unfoldable pub is_one : ℕ → ℕ → ℕ → Bool
is_one a e k = leb a k && leb k e

-- ones at a..e of n, as 2 n numbers
unfoldable pub ones_of : ℕ → ℕ → ℕ → List Float
unfolding is_one
ones_of a e zero = []
ones_of a e (suc k) = ones_of a e k ++ (of (cond (is_one a e k) 1 0) ∷ of 0 ∷ [])

-- m ones from sample a on, of n
abbrev pub ones_from : ℕ → ℕ → ℕ → List Float
ones_from a m n = ones_of a (a + m - 1) n
