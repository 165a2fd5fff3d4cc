-- The first numbers of a row as a list: its length, its members, and the list that a row agrees with.
use Prim.Native.Nat.{ℕ, zero, suc, ◌<◌, ◌≤◌}
use native.Mathlib.Nat.{not-suc-le-zero, eq-or-lt_of_le, le_of_suc-le-suc, le_refl}
use native.Mathlib.Omega.{arith}
use mathlib.Core.Path.{◌≡◌, refl, ◌∙◌}
use mathlib.Core.Logic.{⊎_elim}
use mathlib.Core.List.{List, [], ◌∷◌}
use lib.ListN.{length, get_or, take, length-append, get_or-append}
use lib.Seq.{get_or_at, take-suc, take-length}
use Rattle.lists.specs.Firsts.{firsts}

module _ {A : Type 0} where
  pub length_firsts : (f : ℕ → A) (n : ℕ) → length (firsts f n) ≡ n
  unfolding firsts
  length_firsts f zero = refl
  length_firsts f (suc n) = simp (length-append, length_firsts f n) (omega arith)

  pub get_d_firsts : (f : ℕ → A) (n i : ℕ) (d : A) → i < n → get_or (firsts f n) i d ≡ f i
  unfolding firsts
  get_d_firsts f zero i d h = absurd (not-suc-le-zero h)
  get_d_firsts f (suc n) i d h =
      ⊎_elim
      (λ e. rw e (get_or_at (firsts f n) (f n) [] d n (length_firsts f n)))
      (λ b. get_or-append (firsts f n) (f n ∷ []) d i (rw (length_firsts f n) b) ∙ get_d_firsts f n i d b)
      (eq-or-lt_of_le (le_of_suc-le-suc h))

  pub firsts_cong : (f g : ℕ → A) (n : ℕ) → ((i : ℕ) → i < n → f i ≡ g i) → firsts f n ≡ firsts g n
  unfolding firsts
  firsts_cong f g zero h = refl
  firsts_cong f g (suc n) h = rw (firsts_cong f g n (λ k b. h k (omega arith)), h n (omega arith))

  -- a row that agrees with a list has the list as its first numbers
  pub firsts_take : (f : ℕ → A) (l : List A) (d : A) (n : ℕ) → n ≤ length l → ((k : ℕ) → k < n → f k ≡ get_or l k d) → firsts f n ≡ take n l
  unfolding firsts
  firsts_take f l d zero h e = refl
  firsts_take f l d (suc n) h e = rw (firsts_take f l d n (omega arith) (λ k b. e k (omega arith)), e n (omega arith), take-suc l n d h)

  pub firsts_all : (f : ℕ → A) (l : List A) (d : A) → ((k : ℕ) → k < length l → f k ≡ get_or l k d) → firsts f (length l) ≡ l
  firsts_all f l d e = firsts_take f l d (length l) (le_refl (length l)) e ∙ take-length l
