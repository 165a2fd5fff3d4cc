-- Lists of key-downs: what each count, and the list of elements, is over one list put behind another. Assumes nothing.
use Prim.Native.Nat.{ℕ, ◌+◌, ◌-◌, ◌*◌, ◌≤◌}
use native.Mathlib.Nat.{add-mul}
use native.Mathlib.Omega.{arith}
use mathlib.Core.Path.{◌≡◌}
use mathlib.Core.Bool.{Bool, true, false, not, cond}
use mathlib.Core.List.{List, [], ◌∷◌, ◌++◌, map-append}
use lib.ListN.{length-append}
use lib.Ieee.{Float}
use Rattle.elements.specs.Keying.{KeyDown, element_of, long, airtime_of, listed_of, short_of, counts, elements_of}
use Rattle.elements.specs.Inner.{found_plus}
use Rattle.lists.specs.Those.{those}
use Rattle.lists.proofs.Those.{those_append}

pub airtime_append : (step : ℕ) (a b : List KeyDown) → airtime_of step (a ++ b) ≡ airtime_of step a + airtime_of step b
unfolding airtime_of
airtime_append step [] b = omega arith
airtime_append step (k ∷ a) b = omega (arith, airtime_append step a b)

-- counted in samples or in steps
pub airtime_steps : (step : ℕ) (ks : List KeyDown) → airtime_of step ks ≡ airtime_of 1 ks * step
unfolding airtime_of
airtime_steps step [] = omega arith
airtime_steps step (k ∷ ks) = omega (arith, airtime_steps step ks, add-mul ((k.down - k.up) * 1) (airtime_of 1 ks) step)

cond_less : (t : Bool) (step : ℕ) (k : KeyDown) (a : List KeyDown) (n : ℕ)
    → airtime_of step a ≤ n → airtime_of step (cond t (k ∷ a) a) ≤ (k.down - k.up) * step + n
unfolding airtime_of
cond_less true step k a n h = omega arith
cond_less false step k a n h = omega arith

pub those_less : (p : KeyDown → Bool) (step : ℕ) (ks : List KeyDown) → airtime_of step (those p ks) ≤ airtime_of step ks
unfolding those airtime_of
those_less p step [] = omega arith
those_less p step (k ∷ ks) = cond_less (p k) step k (those p ks) (airtime_of step ks) (those_less p step ks)

module _ (row : ℕ → Float) (thr : Float) (step : ℕ) (fs : Float) where
  pub counts_append : (a b : List KeyDown) → counts row thr step fs (a ++ b) ≡ found_plus (counts row thr step fs a) (counts row thr step fs b)
  unfolding counts listed_of short_of
  counts_append a b =
      let p = long row thr step fs in
      let q : KeyDown → Bool = λ k. not (long row thr step fs k) in
      rw (those_append p a b, those_append q a b, length-append a b, length-append (those p a) (those p b), length-append (those q a) (those q b), airtime_append step (those p a) (those p b))

  pub elements_append : (a b : List KeyDown) → elements_of row thr step fs (a ++ b) ≡ elements_of row thr step fs a ++ elements_of row thr step fs b
  unfolding elements_of listed_of
  elements_append a b =
      let p = long row thr step fs in
      rw (those_append p a b) (map-append (element_of row thr step) (those p a) (those p b))
