-- A recording (01, head and questions 2 and 3): n complex samples lent as 2 n f32, real then imaginary. Definitions
-- only.
use Rattle.std.specs.Prelude.{ℕ, ◌≤◌, ◌≡◌, Bool, true, List, T, length, get_or, Float}
use Rattle.std.specs.Float.{nan, binary32}
use Rattle.std.specs.Float.Ieee.{fits}
use Rattle.lists.specs.Every.{every}
use Rattle.float.specs.Size.{finite_f}

-- Every number fits an f32, as those of every slice of f32 do. Past the end of the list it is the NaN, which fits too.
abbrev pub Singles : List Float → Type 0
Singles l = (k : ℕ) → T (fits binary32 (get_or l k nan))

-- the first n numbers are finite
unfoldable pub finite_to : List Float → ℕ → Bool
finite_to l n = every (λ k. finite_f (get_or l k nan)) n

-- question 3: is every sample finite?
abbrev pub all_finite : List Float → Bool
all_finite l = finite_to l (length l)

-- what the functions behind questions 2 and 3 require of a recording
pub record Iq (l : List Float) : Type 0 where
  pub short : length l ≤ 2097152
  pub finite : all_finite l ≡ true
