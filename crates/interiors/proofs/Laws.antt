-- Laws on what the loops of a fit read and add.
use Prim.Native.Nat.{ℕ, ◌+◌, ◌*◌, ◌/◌, ◌≤◌, ◌<◌}
use native.Mathlib.Numerals.{add-one}
use native.Mathlib.Nat.{add-zero}
use native.Mathlib.Omega.{arith}
use mathlib.Core.Path.{◌≡◌, refl, ap, ◌∙◌}
use mathlib.Core.Bool.{true, false}
use mathlib.Core.List.{List, []}
use borrow.Author.Tests.{le-leb}
use lib.Dec.{lit<}
use lib.ListN.{length, get_or}
use lib.Ieee.{Float, nan, neg, of_bits, lt}
use Rattle.std.specs.Simd.{first_chunks}
use Rattle.float.specs.Ops.{◌⊘◌, plus_zero}
use Rattle.lists.specs.Sums.{f_sum, total}
use Rattle.lists.proofs.Chunks.{chunk_read}
use Rattle.complex.specs.declared.value.Complex.{Complex}
use Rattle.complex.specs.Value.{c_new, c_add, c_norm, c_arg}
use Rattle.complex.specs.Rows.{c_sum}
use Rattle.complex.proofs.RowLaws.{c_sum_turn0}
use Rattle.row.specs.Blocks.{derot}
use Rattle.interiors.specs.Line.{weighted, moment, line_slope}
use Rattle.interiors.specs.Slope.{phase_on, phase_of}
use Rattle.interiors.specs.Gain.{hann, leveled}
use Rattle.interiors.specs.Inner.{point_of, phase_in, weight_in, leveled_by}

-- −0.0 of the code is 0.0 negated
pub total_none : (f : ℕ → Float) → neg plus_zero ≡ total f 0
unfolding f_sum of_bits neg
total_none f = refl

-- ---- point b, read from the pairs of the points
pub phase_read : (l : List Float) (points : List (List Float)) (b : ℕ) → points ≡ first_chunks 2 (length l / 2) l → b < length l / 2 → get_or (get_or points b []) 0 nan ≡ phase_in l b
phase_read l points b e h = rw e (chunk_read 2 (length l / 2) l b 0 [] nan h (lit< tt) ∙ ap (λ j. get_or l j nan) (add-zero (2 * b)))

pub weight_read : (l : List Float) (points : List (List Float)) (b : ℕ) → points ≡ first_chunks 2 (length l / 2) l → b < length l / 2 → get_or (get_or points b []) 1 nan ≡ weight_in l b
weight_read l points b e h = rw e (chunk_read 2 (length l / 2) l b 1 [] nan h (lit< tt))

-- ---- the unwrapped phase, block by block
pub phase_first : (z : ℕ → Complex) (mean : Complex) (r : Float) → mean ≡ z 0 → r ≡ c_arg mean → r ≡ phase_of z 0
unfolding phase_of
phase_first z mean r e p = rw (p, e)

pub phase_turn : (z : ℕ → Complex) (k b : ℕ) (phase r : Float) (before next : Complex)
    → b ≡ k + 1 → phase ≡ phase_of z k → before ≡ z k → next ≡ z b → r ≡ phase_on phase before next → r ≡ phase_of z b
unfolding phase_of
phase_turn z k b phase r before next more p e f q = rw (q, p, e, f, more, add-one)

pub point_is : (z : ℕ → Complex) (b : ℕ) (phase : Float) (mean r : Complex) → phase ≡ phase_of z b → mean ≡ z b → r ≡ c_new phase (c_norm mean) → r ≡ point_of z b
point_is z b phase mean r p e q = rw (q, p, e)

-- ---- the sum of the terms, from term 0 on
pub c_sum_turn00 : (f : ℕ → Complex) (n : ℕ) (acc x r : Complex) → acc ≡ c_sum f 0 n → x ≡ f n → r ≡ c_add acc x → r ≡ c_sum f 0 (n + 1)
c_sum_turn00 f n acc x r p q e = let here : 0 + n ≡ n = omega arith in c_sum_turn0 f 0 n acc x r p (rw here q) e

pub leveled_is : (iq : List Float) (cyc : Float) (i0 len : ℕ) (slope ref : Float) (j : ℕ) (w : Float) (z r : Complex)
    → w ≡ hann len j → z ≡ derot iq cyc (i0 + j) → r ≡ leveled_by slope ref (i0 + j) w z → r ≡ leveled iq cyc i0 len slope ref j
leveled_is iq cyc i0 len slope ref j w z r e d p = rw (p, e, d)

-- ---- the three ways out of a line's slope, of two points or more
module _ (w t p : ℕ → Float) (n : ℕ) (ws wt wp : Float) (more : 2 ≤ n) (e : ws ≡ total w n) where
  pub slope_weightless : lt plus_zero ws ≡ false → plus_zero ≡ line_slope w t p n
  unfolding line_slope
  slope_weightless h = rw (le-leb 2 n more, ← e, h)

  module _ (f : wt ≡ weighted w t n) (g : wp ≡ weighted w p n) (num den : Float) (i : num ≡ moment w t (wt ⊘ ws) p (wp ⊘ ws) n) (j : den ≡ moment w t (wt ⊘ ws) t (wt ⊘ ws) n) (h : lt plus_zero ws ≡ true) where
    pub slope_level : lt plus_zero den ≡ false → plus_zero ≡ line_slope w t p n
    unfolding line_slope
    slope_level k = rw (le-leb 2 n more, ← e, ← f, ← j, h, k)

    pub slope_steep : lt plus_zero den ≡ true → num ⊘ den ≡ line_slope w t p n
    unfolding line_slope
    slope_steep k = rw (le-leb 2 n more, ← e, ← f, ← g, ← i, ← j, h, k)
