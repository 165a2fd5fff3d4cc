-- From the ranges that the code computes to the rule's words: near an element, inside one, at an edge, on the rim.
-- Literals of the code are bit patterns here, as the code's own are.
use Prim.Native.Nat.{ℕ, ◌+◌, ◌*◌}
use native.Mathlib.Nat.{zero-add}
use native.Mathlib.Omega.{arith}
use mathlib.Core.Path.{◌≡◌, refl, ◌∙◌}
use mathlib.Core.Bool.{Bool, true, false, ◌&&◌, ◌||◌, and_assoc}
use mathlib.Core.List.{List}
use lib.Ieee.{Float, lt, of_bits, of_int}
use Rattle.float.specs.Ops.{◌⊕◌, ◌⊖◌, ◌⊗◌, bits, of, two}
use Rattle.constants.proofs.Bits.{rise_bits, edge_zone_bits, rim_bits}
use Rattle.row.specs.Window.{window_of, centre_of}
use Rattle.classes.specs.Classify.{Times, block_centre, in_range, near, inside, at_edge, on_rim}
use Rattle.classes.specs.Inner.{labelled, amid}
use Rattle.classes.proofs.Labelled.{labelled_cong, labelled_nowhere}

-- RISE_S, EDGE_ZONE_S, RIM_S, 3.0 and 4.0
abbrev rise : Float
rise = bits 0x3f74_7ae1_47ae_147b

abbrev zone : Float
zone = bits 0x3f64_7ae1_47ae_147b

abbrev rim : Float
rim = bits 0x3fc9_9999_9999_999a

abbrev three : Float
three = bits 0x4008_0000_0000_0000

abbrev four : Float
four = bits 0x4010_0000_0000_0000

three_is : of 3 ≡ three
unfolding of_bits of_int
three_is = refl

four_is : of 4 ≡ four
unfolding of_bits of_int
four_is = refl

module _ (fs : Float) (len : ℕ) (w : len ≡ window_of fs) (l cur : List Float) (x : Float) where
  pub near_is : (t : Times) → cur ≡ labelled l (in_range len (t.start ⊖ three ⊗ (rise ⊗ fs)) (t.end ⊕ three ⊗ (rise ⊗ fs))) x → cur ≡ labelled l (near fs t) x
  unfolding near
  near_is t c = c ∙ labelled_cong l x _ (near fs t) (λ b g. rw (three_is, rise_bits, ← w))

  pub edge_is : (t : Float) → cur ≡ labelled l (in_range len (t ⊖ zone ⊗ fs) (t ⊕ zone ⊗ fs)) x → cur ≡ labelled l (at_edge fs t) x
  unfolding at_edge
  edge_is t c = c ∙ labelled_cong l x _ (at_edge fs t) (λ b g. rw (edge_zone_bits, ← w))

  pub inside_is : (t : Times) → lt (four ⊗ (rise ⊗ fs)) (t.end ⊖ t.start) ≡ true
      → cur ≡ labelled l (amid len (t.start ⊕ two ⊗ (rise ⊗ fs)) (t.end ⊖ two ⊗ (rise ⊗ fs))) x → cur ≡ labelled l (inside fs t) x
  unfolding inside amid
  inside_is t long c =
      c
      ∙ labelled_cong l x _ (inside fs t)
      (λ b g.
      let lo = t.start ⊕ two ⊗ (rise ⊗ fs) in
      let hi = t.end ⊖ two ⊗ (rise ⊗ fs) in
      rw (four_is, rise_bits, ← w, long, and_assoc (in_range len lo hi b) (lt lo (block_centre len b)) (lt (block_centre len b) hi)))

-- the code's test of a centre k, with `whole` for the number of samples
abbrev pub rimmed : Float → Float → Float → Bool
rimmed fs whole k = lt k (rim ⊗ fs) || lt (whole ⊖ rim ⊗ fs) k

pub rim_is : (fs : Float) (n len : ℕ) → len ≡ window_of fs → (l cur : List Float) (x whole : Float) → whole ≡ of n
    → cur ≡ labelled l (λ b. rimmed fs whole (centre_of (0 + b * len) len)) x → cur ≡ labelled l (on_rim fs n) x
unfolding on_rim
rim_is fs n len w l cur x whole e c = c ∙ labelled_cong l x _ (on_rim fs n) (λ b g. rw (zero-add, rim_bits, e, w))

-- an element that is too short has no interior
pub inside_none : (fs : Float) (l : List Float) (x : Float) (t : Times) → lt (four ⊗ (rise ⊗ fs)) (t.end ⊖ t.start) ≡ false → l ≡ labelled l (inside fs t) x
unfolding inside
inside_none fs l x t short = labelled_nowhere l x (inside fs t) (λ b h. rw (four_is, rise_bits, short))

-- block b of a part that begins at block a
pub amid_from : (lo hi : Float) (len a b : ℕ)
    → (lt lo (block_centre len (a + b)) && lt (block_centre len (a + b)) hi)
    ≡ (lt lo (centre_of (a * len + b * len) len) && lt (centre_of (a * len + b * len) len) hi)
amid_from lo hi len a b = let at : (a + b) * len ≡ a * len + b * len = omega arith in rw at
