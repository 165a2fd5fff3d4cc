-- What passes a test, in order. Definitions only.
use Rattle.std.specs.Prelude.{ℕ, zero, suc, ◌+◌, Bool, cond, List, [], ◌∷◌, ◌++◌, set}
use Rattle.lists.specs.Count.{count_to}

-- those of a list that pass a test
unfoldable pub those : {A : Type 0} → (A → Bool) → List A → List A
those p [] = []
those p (x ∷ xs) = cond (p x) (x ∷ those p xs) (those p xs)

-- the values of a row at those indices below n that pass a test
unfoldable pub picked : {A : Type 0} → (ℕ → Bool) → (ℕ → A) → ℕ → List A
picked p f zero = []
picked p f (suc n) = picked p f n ++ cond (p n) (f n ∷ []) []

-- the same values stored in a list one after the other, from at on
unfoldable pub keep : {A : Type 0} → List A → ℕ → (ℕ → Bool) → (ℕ → A) → ℕ → List A
keep l at p f zero = l
keep l at p f (suc n) = cond (p n) (set (keep l at p f n) (at + count_to p n) (f n)) (keep l at p f n)
