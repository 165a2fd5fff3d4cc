-- The Rust's own way to the pairs and to `pair_blocks`. No contract cites it: `rust_products` and `rust_blocks` of the
-- proofs say that it comes to the products and the blocks of specs/Pairs.antt. Definitions only.
use Rattle.std.specs.Prelude.{ℕ, ◌+◌, Bool, false, ◌&&◌, cond, List, [], ◌∷◌, ◌++◌, eqb}
use Rattle.lists.specs.Those.{those, picked}

pub record Window : Type 0 where
  pub a : ℕ
  pub b : ℕ

abbrev pub window : ℕ → ℕ → Window
window x y = record { a = x; b = y }

-- `gap_idx`
abbrev pub gap_idx : (ℕ → Bool) → ℕ → List ℕ
gap_idx gap blocks = picked gap (λ k. k) blocks

-- `.windows(2)`
unfoldable pub windows : List ℕ → List Window
windows [] = []
windows (x ∷ []) = []
windows (x ∷ y ∷ l) = window x y ∷ windows (y ∷ l)

-- `b == a + 1`, and both blocks pass the test on their power
abbrev pub passes : (ℕ → Bool) → Window → Bool
passes loud w = eqb w.b (w.a + 1) && loud w.a && loud w.b

-- the windows that pass
abbrev pub passing : (ℕ → Bool) → (ℕ → Bool) → ℕ → List Window
passing gap loud blocks = those (passes loud) (windows (gap_idx gap blocks))

-- `pair_blocks.last() == Some(&a)`
unfoldable pub last_is : ℕ → List ℕ → Bool
last_is a [] = false
last_is a (x ∷ []) = eqb x a
last_is a (x ∷ y ∷ l) = last_is a (y ∷ l)

-- `if pair_blocks.last() != Some(&a) { pair_blocks.push(a); } pair_blocks.push(b);`
unfoldable pub push : List ℕ → Window → List ℕ
push l w = cond (last_is w.a l) (l ++ (w.b ∷ [])) (l ++ (w.a ∷ w.b ∷ []))

-- for each window in turn
unfoldable pub pushed : List ℕ → List Window → List ℕ
pushed l [] = l
pushed l (w ∷ ws) = pushed (push l w) ws
