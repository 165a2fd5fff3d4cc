-- What is in a list: its places, and what passes a test.
use Prim.Native.Nat.{ℕ, zero, suc, ◌+◌, ◌<◌}
use native.Mathlib.Nat.{not-suc-le-zero, le_of_suc-le-suc}
use native.Mathlib.Omega.{arith}
use mathlib.Core.Path.{◌≡◌, refl, sym, ap, ◌∙◌}
use mathlib.Core.Logic.{⊎_elim, ◌↔◌}
use mathlib.Core.Bool.{Bool, true, false, not, cond, false≢true}
use mathlib.Core.List.Memᴰ
use mathlib.Core.List.{List, [], ◌∷◌, map, Memᴰ}
use lib.ListN.{length, get_or}
use Rattle.lists.specs.Those.{those}

-- what stands at a place
pub member_at : {A : Type 0} (l : List A) (k : ℕ) (d : A) → k < length l → Memᴰ (get_or l k d) l
member_at [] k d h = absurd (not-suc-le-zero h)
member_at (x ∷ l) zero d h = Memᴰ.head refl
member_at (x ∷ l) (suc k) d h = Memᴰ.tail (member_at l k d (le_of_suc-le-suc h))

-- functions that agree on the members of a list
pub map_same : {A B : Type 0} (f g : A → B) (l : List A) → ((x : A) → Memᴰ x l → f x ≡ g x) → map f l ≡ map g l
map_same f g [] h = refl
map_same f g (x ∷ l) h = rw (h x (Memᴰ.head refl), map_same f g l (λ y m. h y (Memᴰ.tail m)))

-- ---- those that pass a test
module _ {A : Type 0} (p : A → Bool) where
  module _ (y : A) where
    chosen_is : (x : A) (t : Bool) (some all : List A) → p x ≡ t → (Memᴰ y some → Memᴰ y all × (p y ≡ true))
        → Memᴰ y (cond t (x ∷ some) some) → Memᴰ y (x ∷ all) × (p y ≡ true)
    chosen_is x true some all e below m =
        ⊎_elim (λ q. (Memᴰ.head q, ap p q ∙ e)) (λ r. (Memᴰ.tail (below r).0, (below r).1)) (Memᴰ.cases_cons m)
    chosen_is x false some all e below m = (Memᴰ.tail (below m).0, (below m).1)

    is_chosen : (x : A) (t : Bool) (some all : List A) → p x ≡ t → p y ≡ true → (Memᴰ y all → Memᴰ y some)
        → Memᴰ y (x ∷ all) → Memᴰ y (cond t (x ∷ some) some)
    is_chosen x true some all e h below m = ⊎_elim (λ q. Memᴰ.head q) (λ r. Memᴰ.tail (below r)) (Memᴰ.cases_cons m)
    is_chosen x false some all e h below m =
        ⊎_elim (λ q. absurd (false≢true (sym e ∙ (sym (ap p q) ∙ h)))) below (Memᴰ.cases_cons m)

    are_of : (l : List A) → Memᴰ y (those p l) → Memᴰ y l × (p y ≡ true)
    unfolding those
    are_of [] m = absurd (Memᴰ.not-nil m)
    are_of (x ∷ l) m = chosen_is x (p x) (those p l) l refl (are_of l) m

    all_of : (l : List A) → p y ≡ true → Memᴰ y l → Memᴰ y (those p l)
    unfolding those
    all_of [] h m = m
    all_of (x ∷ l) h m = is_chosen x (p x) (those p l) l refl h (all_of l h) m

  -- which ones they are
  pub those_are : (l : List A) (y : A) → Memᴰ y (those p l) ↔ (Memᴰ y l × (p y ≡ true))
  those_are l y = (are_of y l, λ h. all_of y l h.1 h.0)

  -- with those that do not pass they are all
  one_of_two : (t : Bool) (x : A) (a b : List A) (n : ℕ) → n ≡ length a + length b
      → suc n ≡ length (cond t (x ∷ a) a) + length (cond (not t) (x ∷ b) b)
  one_of_two true x a b n e = omega arith
  one_of_two false x a b n e = omega arith

  pub those_others : (l : List A) → length l ≡ length (those p l) + length (those (λ x. not (p x)) l)
  unfolding those
  those_others [] = omega arith
  those_others (x ∷ l) = one_of_two (p x) x (those p l) (those (λ y. not (p y)) l) (length l) (those_others l)

  -- tests that agree on the members of a list
  pub those_same : (q : A → Bool) (l : List A) → ((x : A) → Memᴰ x l → p x ≡ q x) → those p l ≡ those q l
  unfolding those
  those_same q [] h = refl
  those_same q (x ∷ l) h = rw (h x (Memᴰ.head refl), those_same q l (λ y m. h y (Memᴰ.tail m)))
