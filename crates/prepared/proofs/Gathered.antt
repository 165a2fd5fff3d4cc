-- The powers of the blocks of a class: the loop that gathers them, and the list that they then are.
use Prim.Native.Nat.{ℕ, ◌+◌, ◌≤◌}
use native.Mathlib.Numerals.{add-one}
use native.Mathlib.Nat.{zero-add}
use native.Mathlib.Omega.{arith}
use mathlib.Core.Path.{◌≡◌, sym, ap, ◌∙◌}
use mathlib.Core.Bool.{Bool, true, false}
use mathlib.Core.List.{List}
use lib.ListN.{length, set, take}
use lib.Ieee.{Float, nan}
use Rattle.std.specs.declared.option.Option.{Option}
use Rattle.lists.specs.Count.{count_to}
use Rattle.lists.specs.Those.{picked, keep}
use Rattle.lists.proofs.Those.{length_picked}
use Rattle.lists.proofs.Kept.{keep_yes, keep_no, keep_part}
use Rattle.rank.specs.Select.{percentile_of}

-- The loop that stores f b for each b that passes: a turn that stores, one that does not, and after it.
module _ (w : List Float) (p : ℕ → Bool) (f : ℕ → Float) where
  pub gather_yes : (cur new : List Float) (b m : ℕ) (v : Float)
      → cur ≡ keep w 0 p f b → m ≡ count_to p b → p b ≡ true → v ≡ f b → new ≡ set cur m v → (m + 1 ≡ count_to p (b + 1)) × (new ≡ keep w 0 p f (b + 1))
  unfolding count_to
  gather_yes cur new b m v e c t i j = (rw (add-one b, t, c), keep_yes w 0 p f b m cur new v e c t i (rw (zero-add m) j))

  pub gather_no : (cur : List Float) (b m : ℕ)
      → cur ≡ keep w 0 p f b → m ≡ count_to p b → p b ≡ false → (m ≡ count_to p (b + 1)) × (cur ≡ keep w 0 p f (b + 1))
  unfolding count_to
  gather_no cur b m e c t =
      let more : count_to p b + 0 ≡ count_to p b = omega arith in
      (rw (add-one b, t, more) c, keep_no w 0 p f b cur e t)

-- the part that they fill is the list of them
pub gathered : (w v : List Float) (p : ℕ → Bool) (f : ℕ → Float) (n r : ℕ) → r ≡ count_to p n → v ≡ keep w 0 p f n → n ≤ length w → take r v ≡ picked p f n
gathered w v p f n r c e h = rw (e, c) (keep_part w 0 p f n nan (omega arith))

pub level_is : (w v : List Float) (p : ℕ → Bool) (f : ℕ → Float) (n r : ℕ) (x : Option Float) (q : Float) → r ≡ count_to p n → v ≡ keep w 0 p f n → n ≤ length w
    → x ≡ percentile_of (take r v) q → (x ≡ percentile_of (picked p f n) q) × (r ≡ length (picked p f n))
level_is w v p f n r x q c e h i = (i ∙ ap (λ l. percentile_of l q) (gathered w v p f n r c e h), c ∙ sym (length_picked p f n))
