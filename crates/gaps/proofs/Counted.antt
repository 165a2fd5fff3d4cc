-- The blocks that pass a test, counted: by a turn of a loop that passes or does not, and by a filter.
use Prim.Native.Nat.{ℕ, zero, suc, ◌+◌, ◌<◌}
use native.Mathlib.Nat.{zero-add, add-zero, not-suc-le-zero, eq-or-lt_of_le, le_of_suc-le-suc}
use native.Mathlib.Numerals.{add-one}
use native.Mathlib.Omega.{arith}
use mathlib.Core.Path.{◌≡◌, ◌∙◌}
use mathlib.Core.Logic.{⊎_elim}
use mathlib.Core.Bool.{Bool, true, false, cond}
use mathlib.Core.List.{[], ◌∷◌, ◌++◌, append-nil}
use lib.ListN.{length}
use Rattle.std.specs.List.{fold, filter, range_with_len}
use Rattle.std.proofs.lemmas.List.Sums.{length-filter}
use Rattle.lists.specs.Count.{count_to}
use Rattle.lists.specs.Those.{picked}

module _ (p : ℕ → Bool) where
  pub count_yes : (n m r : ℕ) (t : Bool) → m ≡ count_to p n → t ≡ p n → t ≡ true → r ≡ m + 1 → r ≡ count_to p (n + 1)
  unfolding count_to
  count_yes n m r t c q h e = rw (e, add-one n, ← q, h, c)

  pub count_no : (n m r : ℕ) (t : Bool) → m ≡ count_to p n → t ≡ p n → t ≡ false → r ≡ m → r ≡ count_to p (n + 1)
  unfolding count_to
  count_no n m r t c q h e = let more : count_to p n + 0 ≡ count_to p n = omega arith in rw (e, add-one n, ← q, h, more) c

  -- one that is there is counted
  pub count_there : (n k : ℕ) → k < n → p k ≡ true → 0 < count_to p n
  unfolding count_to
  count_there zero k h e = absurd (not-suc-le-zero h)
  count_there (suc n) k h e =
      ⊎_elim (λ q. rw (← q, e) (omega arith)) (λ l. let less = count_there n k l e in omega arith) (eq-or-lt_of_le (le_of_suc-le-suc h))

-- those that a filter lets pass of the numbers below n
counted_from : (p : ℕ → Bool) (a n : ℕ) → fold (λ m k. m + cond (p k) 1 0) (count_to p a) (range_with_len a n) ≡ count_to p (a + n)
unfolding count_to
counted_from p a zero = rw (add-zero a)
counted_from p a (suc n) =
    let here : count_to p (a + 1) ≡ count_to p a + cond (p a) 1 0 = rw (add-one a) in
    let ends : a + 1 + n ≡ a + suc n = omega arith in
    rw (here, ends) at (counted_from p (a + 1) n)

pub filtered : (p : ℕ → Bool) (n : ℕ) → length (filter p (range_with_len 0 n)) ≡ count_to p n
unfolding count_to
filtered p n = length-filter p (range_with_len 0 n) ∙ rw (zero-add n) at (counted_from p 0 n)

-- one more index of those that are picked
module _ {A : Type 0} (p : ℕ → Bool) (f : ℕ → A) (n : ℕ) where
  pub picked_yes : p n ≡ true → picked p f (n + 1) ≡ picked p f n ++ (f n ∷ [])
  unfolding picked
  picked_yes t = rw (add-one n, t)

  pub picked_no : p n ≡ false → picked p f (n + 1) ≡ picked p f n
  unfolding picked
  picked_no t = rw (add-one n, t) (append-nil (picked p f n))
