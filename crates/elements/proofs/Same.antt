-- Two rows that agree at every position up to `last` have the same key-downs, counts and elements there. Assumes
-- nothing.
use Prim.Native.Nat.{ℕ, zero, suc, ◌-◌, ◌≤◌}
use native.Mathlib.Omega.{arith}
use mathlib.Core.Path.{◌≡◌, refl, ap}
use mathlib.Core.Bool.{not}
use mathlib.Core.List.{Memᴰ}
use lib.Ieee.{Float}
use Rattle.elements.specs.Keying.{upward, downward, KeyDown, pending, row_key_downs, crossed_at, element_of, long, listed_of, short_of, counts, elements_of, found_to, elements_to}
use Rattle.lists.specs.Those.{those}
use Rattle.lists.proofs.Members.{map_same, those_are, those_same}
use Rattle.elements.proofs.KeyDowns.{members}

module _ (f g : ℕ → Float) (thr : Float) (last : ℕ) (same : (i : ℕ) → i ≤ last → f i ≡ g i) where
  upward_same : (i : ℕ) → i ≤ last → upward f thr i ≡ upward g thr i
  unfolding upward
  upward_same i h = rw (same (i - 1) (omega arith), same i h)

  downward_same : (i : ℕ) → i ≤ last → downward f thr i ≡ downward g thr i
  unfolding downward
  downward_same i h = rw (same (i - 1) (omega arith), same i h)

  pending_same : (j : ℕ) → j ≤ last → pending f thr j ≡ pending g thr j
  unfolding pending
  pending_same zero h = refl
  pending_same (suc j) h = rw (upward_same (suc j) h, downward_same (suc j) h, pending_same j (omega arith))

  key_downs_agree : (j : ℕ) → j ≤ last → row_key_downs f thr j ≡ row_key_downs g thr j
  unfolding row_key_downs
  key_downs_agree zero h = refl
  key_downs_agree (suc j) h = rw (downward_same (suc j) h, pending_same j (omega arith), key_downs_agree j (omega arith))

  module _ (step : ℕ) (fs : Float) where
    element_same : (k : KeyDown) → Memᴰ k (row_key_downs g thr last) → element_of f thr step k ≡ element_of g thr step k
    unfolding element_of crossed_at
    element_same k m =
        let s = (members g thr last k m).0 in
        let a = s.later in
        let b = s.within in
        rw (same (k.up - 1) (omega arith), same k.up (omega arith), same (k.down - 1) (omega arith), same k.down (omega arith))

    long_same : (k : KeyDown) → Memᴰ k (row_key_downs g thr last) → long f thr step fs k ≡ long g thr step fs k
    unfolding long
    long_same k m = rw (element_same k m)

    listed_same : listed_of f thr step fs (row_key_downs g thr last) ≡ listed_of g thr step fs (row_key_downs g thr last)
    unfolding listed_of
    listed_same = those_same (long f thr step fs) (long g thr step fs) (row_key_downs g thr last) long_same

    short_same : short_of f thr step fs (row_key_downs g thr last) ≡ short_of g thr step fs (row_key_downs g thr last)
    unfolding short_of
    short_same = those_same (λ k. not (long f thr step fs k)) (λ k. not (long g thr step fs k)) (row_key_downs g thr last) (λ k m. ap not (long_same k m))

    pub found_same : found_to f thr step fs last ≡ found_to g thr step fs last
    unfolding found_to counts
    found_same = rw (key_downs_agree last (omega arith), listed_same, short_same)

    pub elements_same : elements_to f thr step fs last ≡ elements_to g thr step fs last
    unfolding elements_to elements_of listed_of
    elements_same =
        let p = long g thr step fs in
        rw (key_downs_agree last (omega arith), listed_so)
        (map_same (element_of f thr step) (element_of g thr step) (those p (row_key_downs g thr last)) (λ k m. element_same k ((those_are p (row_key_downs g thr last) k).0 m).0))
      where
        listed_so : those (long f thr step fs) (row_key_downs g thr last) ≡ those (long g thr step fs) (row_key_downs g thr last)
        listed_so = listed_same
