-- Members of a list that label in turn: the loop over them, and a list behind another.
use Prim.Native.Nat.{ℕ, ◌+◌, ◌≤◌}
use native.Mathlib.Numerals.{add-one}
use native.Mathlib.Omega.{arith}
use mathlib.Core.Path.{◌≡◌, refl}
use mathlib.Core.List.{List, [], ◌∷◌, ◌++◌, map}
use Rattle.lists.specs.Firsts.{firsts}
use Rattle.classes.specs.Classify.{in_turn}

module _ {A B : Type 0} (labels : A → B → B) where
  pub turns_append : (xs ys : List A) (b : B) → in_turn labels (xs ++ ys) b ≡ in_turn labels ys (in_turn labels xs b)
  unfolding in_turn
  turns_append [] ys b = refl
  turns_append (x ∷ xs) ys b = turns_append xs ys (labels x b)

  -- the loop over the first members of a row: before it, a turn of it, and after it
  module _ (row : ℕ → A) (b : B) where
    pub turns_none : b ≡ in_turn labels (firsts row 0) b
    unfolding in_turn firsts
    turns_none = refl

    pub turns_next : (k : ℕ) (cur new : B) (x : A) → cur ≡ in_turn labels (firsts row k) b → x ≡ row k → new ≡ labels x cur → new ≡ in_turn labels (firsts row (k + 1)) b
    unfolding in_turn firsts
    turns_next k cur new x c e n = rw (n, e, c, add-one, turns_append (firsts row k) (row k ∷ []) b)

    pub turns_done : (n k : ℕ) (cur : B) → cur ≡ in_turn labels (firsts row k) b → k ≤ n → n ≤ k → cur ≡ in_turn labels (firsts row n) b
    turns_done n k cur c h g = let all : k ≡ n = omega arith in rw all at c

pub turns_map : {A B C : Type 0} (labels : A → B → B) (f : C → A) (xs : List C) (b : B) → in_turn labels (map f xs) b ≡ in_turn (λ x. labels (f x)) xs b
unfolding in_turn
turns_map labels f [] b = refl
turns_map labels f (x ∷ xs) b = turns_map labels f xs (labels (f x) b)
