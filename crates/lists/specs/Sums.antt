-- Sums of f64, term by term from the left, each rounded. Definitions only.
use Rattle.std.specs.Prelude.{ℕ, zero, suc, List, [], ◌∷◌, Float}
use Rattle.float.specs.Ops.{◌⊕◌, minus_zero}

-- start, then f 0, f 1, .. added to it, n terms
unfoldable pub f_sum : Float → (ℕ → Float) → ℕ → Float
f_sum start f zero = start
f_sum start f (suc n) = f_sum start f n ⊕ f n

-- Rust's `.sum()` of f64 starts at −0.0
abbrev pub total : (ℕ → Float) → ℕ → Float
total = f_sum minus_zero

-- start, then a figure of each member of a list added to it, in order
unfoldable pub sum_over : {A : Type 0} → (A → Float) → Float → List A → Float
sum_over figure start [] = start
sum_over figure start (x ∷ xs) = sum_over figure (start ⊕ figure x) xs
