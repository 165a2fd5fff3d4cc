-- When numbers are the same (01, part 1: in comparisons all NaNs are one and both zeros are one). Definitions only.
use Rattle.std.specs.Prelude.{ℕ, ◌+◌, ◌-◌, ◌*◌, ◌/◌, min, Bool, not, ◌&&◌, ◌||◌, List, length, ◌==◌, is_nan, nat_le, slice_index_or, Float}
use Rattle.std.specs.Float.{nan}
use Rattle.std.specs.Float.Ieee.{eq}
use Rattle.float.specs.Ops.{bits}
use Rattle.lists.specs.Count.{count_to}
use Rattle.lists.specs.Every.{every}
use Rattle.stored.specs.Units.{double_at}

-- two numbers: both a NaN, or equal, as IEEE 754 has it: a NaN equals nothing, and -0.0 equals 0.0
unfoldable pub same_number : Float → Float → Bool
same_number a b = (is_nan a && is_nan b) || eq a b

-- the first n numbers of two rows, each with each
unfoldable pub same_to : (ℕ → Float) → (ℕ → Float) → ℕ → Bool
same_to f g n = every (λ k. same_number (f k) (g k)) n

-- a list as a row
abbrev pub row : List Float → ℕ → Float
row l k = slice_index_or l k nan

-- the first n numbers of two lists, both of which have so many
unfoldable pub same_firsts : List Float → List Float → ℕ → Bool
same_firsts a b n = nat_le n (length a) && nat_le n (length b) && same_to (row a) (row b) n

-- ---- what lists and work slices hold before a call: -7.25
abbrev pub LENT : Float
LENT = bits 0xc01d_0000_0000_0000

-- a list holds it at n places from one on, and at all that follow
unfoldable pub lent_to : List Float → ℕ → ℕ → Bool
lent_to l from n = every (λ k. eq (row l (from + k)) LENT) n

abbrev pub lent_from : List Float → ℕ → Bool
lent_from l from = lent_to l from (length l - from)

-- a record's f64 numbers as a row
abbrev pub stored_row : List ℕ → ℕ → Float
stored_row bytes k = double_at bytes (2 * k)

-- figures and those that a record has: as many, and each the same
unfoldable pub same_figures : List Float → List ℕ → Bool
same_figures figures stored =
    (length stored == 8 * length figures) && same_to (row figures) (stored_row stored) (length figures)

-- sample k of two rows, two floats each
unfoldable pub same_sample : List Float → List Float → ℕ → Bool
same_sample a b k = same_number (row a (2 * k)) (row b (2 * k)) && same_number (row a (2 * k + 1)) (row b (2 * k + 1))

-- in how many of the first n samples two rows differ, and in how many as far as both go
unfoldable pub changed_to : List Float → List Float → ℕ → ℕ
changed_to a b n = count_to (λ k. not (same_sample a b k)) n

abbrev pub changed_in : List Float → List Float → ℕ
changed_in a b = changed_to a b (min (length a / 2) (length b / 2))
