-- A row of values stored in a list. Definitions only.
use Rattle.std.specs.Prelude.{ℕ, zero, suc, ◌+◌, List, set}

-- f 0, .., f (n - 1) stored at at, .., at + n - 1
unfoldable pub fill : {A : Type 0} → List A → ℕ → (ℕ → A) → ℕ → List A
fill l at f zero = l
fill l at f (suc n) = set (fill l at f n) (at + n) (f n)
