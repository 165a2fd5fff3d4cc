-- A row stored in a list: the loop that stores it, and what is read back.
use Prim.Native.Nat.{ℕ, zero, suc, ◌+◌, ◌-◌, ◌<◌, ◌≤◌}
use native.Mathlib.Numerals.{add-one}
use native.Mathlib.Nat.{not-suc-le-zero, eq-or-lt_of_le, le_of_suc-le-suc}
use native.Mathlib.Omega.{arith}
use mathlib.Core.Path.{◌≡◌, refl, sym, ◌∙◌}
use mathlib.Core.Logic.{⊎_elim}
use mathlib.Core.List.{List, ◌++◌}
use lib.ListN.{length, get_or, set, take, drop, length-set, length-drop}
use lib.Seq.{get_or-set_same, get_or-set_other, length-take-le, get_or-take, get_or-drop, take_all, ext_get_or}
use Rattle.std.proofs.lemmas.List.{set-append_left, set-append_right}
use Rattle.lists.specs.Fill.{fill}
use Rattle.lists.specs.Firsts.{firsts}
use Rattle.lists.proofs.Firsts.{length_firsts, get_d_firsts}

module _ {A : Type 0} where
  pub length_fill : (l : List A) (at : ℕ) (f : ℕ → A) (n : ℕ) → length (fill l at f n) ≡ length l
  unfolding fill
  length_fill l at f zero = refl
  length_fill l at f (suc n) = simp length-set (length_fill l at f n)

  -- before a loop that stores, a turn of it, and after it
  pub fill_none : (l : List A) (at : ℕ) (f : ℕ → A) → l ≡ fill l at f 0
  unfolding fill
  fill_none l at f = refl

  pub fill_turn : (l : List A) (at : ℕ) (f : ℕ → A) (n : ℕ) (cur : List A) (v : A)
      → cur ≡ fill l at f n → v ≡ f n → set cur (at + n) v ≡ fill l at f (n + 1)
  unfolding fill
  fill_turn l at f n cur v p e = rw (add-one, p, e)

  -- a turn of a loop that stores from the start of a list on
  pub fill_turn0 : (l : List A) (f : ℕ → A) (n : ℕ) (cur : List A) (v : A) → cur ≡ fill l 0 f n → v ≡ f n → set cur n v ≡ fill l 0 f (n + 1)
  fill_turn0 l f n cur v p e = let here : 0 + n ≡ n = omega arith in rw here at (fill_turn l 0 f n cur v p e)

  pub fill_done : (l : List A) (at : ℕ) (f : ℕ → A) (n k : ℕ) (cur : List A) → cur ≡ fill l at f k → k ≤ n → n ≤ k → cur ≡ fill l at f n
  fill_done l at f n k cur p h g = let all : k ≡ n = omega arith in rw all at p

  pub fill_cong : (l : List A) (at : ℕ) (f g : ℕ → A) (n : ℕ) → ((k : ℕ) → k < n → f k ≡ g k) → fill l at f n ≡ fill l at g n
  unfolding fill
  fill_cong l at f g zero h = refl
  fill_cong l at f g (suc n) h = rw (fill_cong l at f g n (λ k b. h k (omega arith)), h n (omega arith))

  -- what lies below the row, or above it, is as it was
  pub get_d_fill_below : (l : List A) (at : ℕ) (f : ℕ → A) (n k : ℕ) (d : A) → k < at → get_or (fill l at f n) k d ≡ get_or l k d
  unfolding fill
  get_d_fill_below l at f zero k d h = refl
  get_d_fill_below l at f (suc n) k d h = get_or-set_other (fill l at f n) (at + n) k (f n) d (omega arith) ∙ get_d_fill_below l at f n k d h

  pub get_d_fill_above : (l : List A) (at : ℕ) (f : ℕ → A) (n k : ℕ) (d : A) → at + n ≤ k → get_or (fill l at f n) k d ≡ get_or l k d
  unfolding fill
  get_d_fill_above l at f zero k d h = refl
  get_d_fill_above l at f (suc n) k d h =
      get_or-set_other (fill l at f n) (at + n) k (f n) d (omega arith) ∙ get_d_fill_above l at f n k d (omega arith)

  -- what was stored is read back
  pub get_d_fill : (l : List A) (at : ℕ) (f : ℕ → A) (n k : ℕ) (d : A) → k < n → at + n ≤ length l → get_or (fill l at f n) (at + k) d ≡ f k
  unfolding fill
  get_d_fill l at f zero k d h g = absurd (not-suc-le-zero h)
  get_d_fill l at f (suc n) k d h g =
      let room : at + n < length (fill l at f n) = rw (length_fill l at f n) (omega arith) in
      ⊎_elim (λ e. rw e (get_or-set_same (fill l at f n) (at + n) (f n) d room))
      (λ b. get_or-set_other (fill l at f n) (at + n) (at + k) (f n) d (omega arith) ∙ get_d_fill l at f n k d b (omega arith))
      (eq-or-lt_of_le (le_of_suc-le-suc h))

  -- a row that is stored in the first part of a list, or in what follows it, is stored in the list
  pub fill_front : (xs ys : List A) (f : ℕ → A) (n : ℕ) → n ≤ length xs → fill xs 0 f n ++ ys ≡ fill (xs ++ ys) 0 f n
  unfolding fill
  fill_front xs ys f zero h = refl
  fill_front xs ys f (suc n) h =
      let room : 0 + n < length (fill xs 0 f n) = rw (length_fill xs 0 f n) (omega arith) in
      rw (← set-append_left (fill xs 0 f n) ys (0 + n) (f n) room, fill_front xs ys f n (omega arith))

  pub fill_behind : (xs ys : List A) (at : ℕ) (f : ℕ → A) (n : ℕ) → length xs ≡ at → xs ++ fill ys 0 f n ≡ fill (xs ++ ys) at f n
  unfolding fill
  fill_behind xs ys at f zero h = refl
  fill_behind xs ys at f (suc n) h =
      let here : at + n - at ≡ 0 + n = omega arith in
      rw (← fill_behind xs ys at f n h, set-append_right xs (fill ys 0 f n) at (at + n) (f n) h (omega arith), here)

  -- a row stored in a slice is the list of the row
  pub part_fill : (l : List A) (at : ℕ) (f : ℕ → A) (n : ℕ) (d : A) → at + n ≤ length l → take n (drop at (fill l at f n)) ≡ firsts f n
  part_fill l at f n d h =
      let room : n ≤ length (drop at (fill l at f n)) = simp (length-drop, length_fill) (omega arith) in
      let long : length (take n (drop at (fill l at f n))) ≡ n = length-take-le n (drop at (fill l at f n)) room in
      ext_get_or d (take n (drop at (fill l at f n))) (firsts f n) (long ∙ sym (length_firsts f n))
      (λ i b.
      let g : i < n = omega arith in
      get_or-take n (drop at (fill l at f n)) i d g ∙ get_or-drop at (fill l at f n) i d ∙ get_d_fill l at f n i d g h ∙ sym (get_d_firsts f n i d g))

  -- a row stored over a whole list is the list of the row
  pub fill_all : (l : List A) (f : ℕ → A) (n : ℕ) (d : A) → length l ≡ n → fill l 0 f n ≡ firsts f n
  fill_all l f n d h =
      let long : length (fill l 0 f n) ≡ n = length_fill l 0 f n ∙ h in
      sym (take_all n (fill l 0 f n) (omega arith)) ∙ part_fill l 0 f n d (omega arith)
