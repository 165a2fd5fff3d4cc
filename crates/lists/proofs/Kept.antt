-- The values at the indices that pass a test, stored one after the other: the loop that stores them, and what the list
-- holds then.
use Prim.Native.Nat.{ℕ, zero, suc, ◌+◌, ◌<◌, ◌≤◌}
use native.Mathlib.Numerals.{add-one}
use native.Mathlib.Decide.{dec_lt}
use native.Mathlib.Omega.{arith}
use mathlib.Core.Path.{◌≡◌, refl, sym, ◌∙◌}
use mathlib.Core.Bool.{Bool, true, false, cond}
use mathlib.Core.List.{List, [], ◌∷◌, ◌++◌}
use lib.ListN.{length, get_or, set, take, drop, length-set, length-drop, get_or-append}
use lib.Seq.{get_or-set_same, get_or-set_other, length-take-le, get_or_at, get_or-take, get_or-drop, ext_get_or}
use Rattle.lists.specs.Count.{count_to}
use Rattle.lists.specs.Those.{picked, keep}
use Rattle.lists.proofs.Count.{count_most}
use Rattle.lists.proofs.Those.{length_picked}

module _ {A : Type 0} where
  pub length_keep : (l : List A) (at : ℕ) (p : ℕ → Bool) (f : ℕ → A) (n : ℕ) → length (keep l at p f n) ≡ length l
  unfolding keep
  length_keep l at p f zero = refl
  length_keep l at p f (suc n) = go (p n) (length_keep l at p f n)
    where
      go : (t : Bool) → length (keep l at p f n) ≡ length l
          → length (cond t (set (keep l at p f n) (at + count_to p n) (f n)) (keep l at p f n)) ≡ length l
      go true e = simp length-set e
      go false e = e

  -- the loop: before it, a turn that keeps a value, and one that does not
  pub keep_none : (l : List A) (at : ℕ) (p : ℕ → Bool) (f : ℕ → A) → l ≡ keep l at p f 0
  unfolding keep
  keep_none l at p f = refl

  pub keep_yes : (l : List A) (at : ℕ) (p : ℕ → Bool) (f : ℕ → A) (n m : ℕ) (cur new : List A) (v : A)
      → cur ≡ keep l at p f n → m ≡ count_to p n → p n ≡ true → v ≡ f n → new ≡ set cur (at + m) v → new ≡ keep l at p f (n + 1)
  unfolding keep
  keep_yes l at p f n m cur new v e c t q h = rw (add-one, t, h, e, c, q)

  pub keep_no : (l : List A) (at : ℕ) (p : ℕ → Bool) (f : ℕ → A) (n : ℕ) (cur : List A)
      → cur ≡ keep l at p f n → p n ≡ false → cur ≡ keep l at p f (n + 1)
  unfolding keep
  keep_no l at p f n cur e t = rw (add-one, t) e

  -- what lies below is as it was
  pub get_d_keep_below : (l : List A) (at : ℕ) (p : ℕ → Bool) (f : ℕ → A) (n k : ℕ) (d : A) → k < at → get_or (keep l at p f n) k d ≡ get_or l k d
  unfolding keep
  get_d_keep_below l at p f zero k d h = refl
  get_d_keep_below l at p f (suc n) k d h = go (p n) (get_d_keep_below l at p f n k d h)
    where
      go : (t : Bool) → get_or (keep l at p f n) k d ≡ get_or l k d
          → get_or (cond t (set (keep l at p f n) (at + count_to p n) (f n)) (keep l at p f n)) k d ≡ get_or l k d
      go true e = get_or-set_other (keep l at p f n) (at + count_to p n) k (f n) d (omega arith) ∙ e
      go false e = e

  -- what was kept is read back
  pub get_d_keep : (l : List A) (at : ℕ) (p : ℕ → Bool) (f : ℕ → A) (n k : ℕ) (d : A)
      → k < count_to p n → at + count_to p n ≤ length l → get_or (keep l at p f n) (at + k) d ≡ get_or (picked p f n) k d
  unfolding keep picked count_to
  get_d_keep l at p f zero k d h g = absurd (omega (arith, h))
  get_d_keep l at p f (suc n) k d h g = go (p n) (get_d_keep l at p f n k d) h g
    where
      size : length (picked p f n) ≡ count_to p n
      size = length_picked p f n

      last : Dec (k < count_to p n) → at + count_to p n < length (keep l at p f n)
          → (k < count_to p n → get_or (keep l at p f n) (at + k) d ≡ get_or (picked p f n) k d) → k < count_to p n + 1
          → get_or (set (keep l at p f n) (at + count_to p n) (f n)) (at + k) d ≡ get_or (picked p f n ++ (f n ∷ [])) k d
      last (yes b) room less h =
          get_or-set_other (keep l at p f n) (at + count_to p n) (at + k) (f n) d (omega arith)
          ∙ less b
          ∙ sym (get_or-append (picked p f n) (f n ∷ []) d k (rw size b))
      last (no b) room less h =
          let here : k ≡ count_to p n = omega arith in
          rw here (get_or-set_same (keep l at p f n) (at + count_to p n) (f n) d room ∙ sym (get_or_at (picked p f n) (f n) [] d (count_to p n) size))

      go : (t : Bool) → (k < count_to p n → at + count_to p n ≤ length l → get_or (keep l at p f n) (at + k) d ≡ get_or (picked p f n) k d)
          → k < count_to p n + cond t 1 0 → at + (count_to p n + cond t 1 0) ≤ length l
          → get_or (cond t (set (keep l at p f n) (at + count_to p n) (f n)) (keep l at p f n)) (at + k) d ≡ get_or (picked p f n ++ cond t (f n ∷ []) []) k d
      go false less h g = less (omega arith) (omega arith) ∙ sym (get_or-append (picked p f n) [] d k (rw size (omega arith)))
      go true less h g =
          let room : at + count_to p n < length (keep l at p f n) = rw (length_keep l at p f n) (omega arith) in
          last (dec_lt k (count_to p n)) room (λ b. less b (omega arith)) h

  -- the part of the list that they fill is the list of them
  pub keep_part : (l : List A) (at : ℕ) (p : ℕ → Bool) (f : ℕ → A) (n : ℕ) (d : A)
      → at + n ≤ length l → take (count_to p n) (drop at (keep l at p f n)) ≡ picked p f n
  keep_part l at p f n d h =
      let few : count_to p n ≤ n = count_most p n in
      let whole = keep l at p f n in
      let room : count_to p n ≤ length (drop at whole) = simp (length-drop, length_keep) (omega arith) in
      let long : length (take (count_to p n) (drop at whole)) ≡ count_to p n = length-take-le (count_to p n) (drop at whole) room in
      ext_get_or d (take (count_to p n) (drop at whole)) (picked p f n) (long ∙ sym (length_picked p f n))
      (λ i b.
      let g : i < count_to p n = omega arith in
      get_or-take (count_to p n) (drop at whole) i d g ∙ get_or-drop at whole i d ∙ get_d_keep l at p f n i d g (omega arith))
