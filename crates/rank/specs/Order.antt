-- `total_cmp` order, and a list in that order. Definitions only. The logic has one NaN, which stands above +∞.
use Rattle.std.specs.Prelude.{ℕ, zero, suc, Bool, false, not, ◌&&◌, ◌||◌, cond, List, [], ◌∷◌, length, get_or, Float}
use Rattle.std.specs.Float.{nan, inf, fin}
use Rattle.std.specs.Float.Ieee.{lt, eq, is_nan}
use Rattle.lists.specs.Count.{count_to}

-- −0, which stands before +0
unfoldable pub is_minus_zero : Float → Bool
is_minus_zero nan = false
is_minus_zero (inf s) = false
is_minus_zero (fin s zero e) = s
is_minus_zero (fin s (suc m) e) = false

-- x stands strictly before y: by value, −0 before +0, and a NaN after all others
unfoldable pub precedes : Float → Float → Bool
unfolding is_minus_zero
precedes x y = lt x y || (eq x y && is_minus_zero x && not (is_minus_zero y)) || (is_nan y && not (is_nan x))

-- x put into a sorted list, before the first that x precedes
unfoldable pub insert : Float → List Float → List Float
unfolding precedes
insert x [] = x ∷ []
insert x (y ∷ ys) = cond (precedes x y) (x ∷ y ∷ ys) (y ∷ insert x ys)

unfoldable pub sorted : List Float → List Float
unfolding insert
sorted [] = []
sorted (x ∷ xs) = insert x (sorted xs)

-- how many of the list stand before x, and how many do not stand after it
unfoldable pub before : List Float → Float → ℕ
unfolding precedes count_to
before l x = count_to (λ i. precedes (get_or l i nan) x) (length l)

unfoldable pub up_to : List Float → Float → ℕ
unfolding precedes count_to
up_to l x = count_to (λ i. not (precedes x (get_or l i nan))) (length l)
