-- What passes a test: of two lists one behind the other, and how many.
use Prim.Native.Nat.{ℕ, zero, suc, ◌+◌, ◌<◌, ◌≤◌}
use native.Mathlib.Omega.{arith}
use mathlib.Core.Path.{◌≡◌, refl}
use mathlib.Core.Bool.{Bool, true, false, cond}
use mathlib.Core.List.{List, [], ◌∷◌, ◌++◌}
use lib.ListN.{length, length-append}
use Rattle.lists.specs.Count.{count_to}
use Rattle.lists.specs.Those.{those, picked}

module _ {A : Type 0} where
  cond_append : (t : Bool) (x : A) (a b : List A) → cond t (x ∷ (a ++ b)) (a ++ b) ≡ cond t (x ∷ a) a ++ b
  cond_append true x a b = refl
  cond_append false x a b = refl

  pub those_append : (p : A → Bool) (a b : List A) → those p (a ++ b) ≡ those p a ++ those p b
  unfolding those
  those_append p [] b = refl
  those_append p (x ∷ a) b = rw (those_append p a b) (cond_append (p x) x (those p a) (those p b))

  cond_shorter : (t : Bool) (x : A) (a : List A) (n : ℕ) → length a ≤ n → length (cond t (x ∷ a) a) ≤ suc n
  cond_shorter true x a n h = omega arith
  cond_shorter false x a n h = omega arith

  pub those_shorter : (p : A → Bool) (xs : List A) → length (those p xs) ≤ length xs
  unfolding those
  those_shorter p [] = omega arith
  those_shorter p (x ∷ xs) = cond_shorter (p x) x (those p xs) (length xs) (those_shorter p xs)

  -- the values at the indices that pass: a row and a test that agree there have the same
  pub picked_cong : (p q : ℕ → Bool) (f g : ℕ → A) (n : ℕ)
      → ((k : ℕ) → k < n → p k ≡ q k) → ((k : ℕ) → k < n → q k ≡ true → f k ≡ g k) → picked p f n ≡ picked q g n
  unfolding picked
  picked_cong p q f g zero h e = refl
  picked_cong p q f g (suc n) h e =
      rw (h n (omega arith), picked_cong p q f g n (λ k b. h k (omega arith)) (λ k b. e k (omega arith))) (last (q n) refl)
    where
      last : (t : Bool) → q n ≡ t → picked q g n ++ cond (q n) (f n ∷ []) [] ≡ picked q g n ++ cond (q n) (g n ∷ []) []
      last true i = rw (i, e n (omega arith) i)
      last false i = rw i

  pub length_picked : (p : ℕ → Bool) (f : ℕ → A) (n : ℕ) → length (picked p f n) ≡ count_to p n
  unfolding picked count_to
  length_picked p f zero = refl
  length_picked p f (suc n) = rw (length-append (picked p f n) (cond (p n) (f n ∷ []) []), length_picked p f n) (last (p n))
    where
      last : (t : Bool) → count_to p n + length (cond t (f n ∷ []) []) ≡ count_to p n + cond t 1 0
      last true = refl
      last false = refl
