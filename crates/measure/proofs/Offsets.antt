-- The offset: the loop that sums a figure of the blocks that pass a test, and the candidates.
use Rattle.std.proofs.Common.{Some, None}
use Prim.Native.Nat.{ℕ, ◌+◌, ◌≤◌}
use native.Mathlib.Omega.{arith}
use mathlib.Core.Path.{◌≡◌, refl, sym, ap, ap₂, ◌∙◌}
use mathlib.Core.Bool.{Bool, true, false, cond}
use mathlib.Core.List.{List}
use lib.Ieee.{Float, neg, lt, of_bits}
use borrow.Author.Tests.{eq-eqb, ne_eqb}
use Rattle.float.specs.Ops.{◌⊕◌, ◌⊖◌, ◌⊗◌, ◌⊘◌, of, bits, plus_zero, minus_zero}
use Rattle.lists.specs.Those.{picked}
use Rattle.lists.specs.Sums.{sum_over}
use Rattle.lists.proofs.Sums.{over_more}
use Rattle.trig.proofs.Bits.{tau_bits}
use Rattle.complex.specs.declared.value.Complex.{Complex}
use Rattle.complex.specs.Value.{c_arg}
use Rattle.row.specs.Window.{window_of}
use Rattle.row.specs.Blocks.{block_mean}
use Rattle.measure.specs.declared.offset.Candidate.{Candidate}
use Rattle.gaps.specs.declared.pairs.Pairs.{Pairs}
use Rattle.prepared.specs.Powers.{block_power}
use Rattle.measure.specs.Offset.{power_at, stronger, strongest, offset_from}
use Rattle.gaps.specs.Reference.{mean_at}
use Rattle.gaps.proofs.Counted.{picked_yes, picked_no}

-- ---- the loop: before it, a turn that adds a figure, one that does not, and after it. The code's −0.0 is 0.0 negated.

module _ (p : ℕ → Bool) (f : ℕ → Float) where
  pub over_none : neg plus_zero ≡ sum_over f minus_zero (picked p (λ k. k) 0)
  unfolding picked sum_over of_bits neg
  over_none = refl

  pub over_yes : (n : ℕ) (acc v r : Float) (t : Bool)
      → acc ≡ sum_over f minus_zero (picked p (λ k. k) n) → t ≡ p n → t ≡ true → v ≡ f n → r ≡ acc ⊕ v
      → r ≡ sum_over f minus_zero (picked p (λ k. k) (n + 1))
  over_yes n acc v r t e q h i g =
      rw (picked_yes p (λ k. k) n (sym q ∙ h), over_more f minus_zero (picked p (λ k. k) n) n, g, e, i)

  pub over_no : (n : ℕ) (acc r : Float) (t : Bool)
      → acc ≡ sum_over f minus_zero (picked p (λ k. k) n) → t ≡ p n → t ≡ false → r ≡ acc → r ≡ sum_over f minus_zero (picked p (λ k. k) (n + 1))
  over_no n acc r t e q h g = rw (picked_no p (λ k. k) n (sym q ∙ h), g, e)

  pub over_done : (n k : ℕ) (acc : Float) → acc ≡ sum_over f minus_zero (picked p (λ k. k) k) → k ≤ n → n ≤ k → acc ≡ sum_over f minus_zero (picked p (λ k. k) n)
  over_done n k acc e h g = let all : k ≡ n = omega arith in rw all at e

-- ---- the power at an offset, and the strongest of three offsets

pub measured_is : (iq : List Float) (fs carrier : Float) (len : ℕ) (blocks : List ℕ) (f r : Float)
    → r ≡ sum_over (block_power (block_mean iq ((carrier ⊕ f) ⊘ fs) len)) minus_zero blocks → len ≡ window_of fs → r ≡ power_at (mean_at iq fs) carrier blocks f
unfolding power_at
measured_is iq fs carrier len blocks f r e w = rw (e, w)

-- x is the offset f with its power
abbrev Holds : (Float → Float) → Float → Candidate → Type 0
Holds p f x = (x.hz ≡ f) × (x.power ≡ p f)

stronger_holds : (p : Float → Float) (f g : Float) (x y r : Candidate)
    → Holds p f x → Holds p g y → r ≡ cond (lt x.power y.power) y x → Holds p (stronger p f g) r
stronger_holds p f g x y r hx hy e = go (lt (p f) (p g)) (e ∙ ap (λ t. cond t y x) (ap₂ lt hx.1 hy.1))
  where
    go : (t : Bool) → r ≡ cond t y x → Holds p (cond t g f) r
    go true q = rw q hy
    go false q = rw q hx

pub strongest_is : (p : Float → Float) (f0 rate : Float) (x y z b r : Candidate)
    → Holds p f0 x → Holds p (f0 ⊖ rate) y → Holds p (f0 ⊕ rate) z
    → b ≡ cond (lt x.power y.power) y x → r ≡ cond (lt b.power z.power) z b → r.hz ≡ strongest p f0 rate
unfolding strongest
strongest_is p f0 rate x y z b r hx hy hz e h =
    (stronger_holds p (stronger p f0 (f0 ⊖ rate)) (f0 ⊕ rate) b z r (stronger_holds p f0 (f0 ⊖ rate) x y b hx hy e) hz h).0

-- ---- the ways out of `find_offset`

module _ (mean : Float → ℕ → Complex) (carrier : Float) (pairs : Pairs) (blocks : List ℕ) where
  pub offset_none : (rate : Float) → pairs.count ≡ 0 → None ≡ offset_from mean carrier rate pairs blocks
  unfolding offset_from
  offset_none rate e = rw (eq-eqb pairs.count 0 e)

  pub offset_some : (fs : Float) (len : ℕ) (d a r : Float) → (pairs.count ≡ 0 → ⊥) → d ≡ of len → len ≡ window_of fs → a ≡ c_arg pairs.sum
      → r ≡ strongest (power_at mean carrier blocks) (a ⊗ (fs ⊘ d) ⊘ bits 0x4019_21fb_5444_2d18) (fs ⊘ d)
      → Some r ≡ offset_from mean carrier (fs ⊘ of (window_of fs)) pairs blocks
  unfolding offset_from
  offset_some fs len d a r n e w q h = rw (ne_eqb pairs.count 0 n, h, q, e, w, tau_bits)
