-- The Rust takes a fit off sample by sample, each from the mean of the block that it finds by a division. The residual
-- check's definition takes it off block by block. Both leave the same of every mean (`as_sampled`). Assumes nothing.
use Prim.Native.Nat.{ℕ, zero, suc, ◌+◌, ◌-◌, ◌*◌, ◌/◌, ◌≤◌, ◌<◌, min, max}
use native.Mathlib.Nat.{div-mul-le_self, lt-div-mul-add, mul-le-mul_right, suc-mul, add-zero, add-suc, add-sub_of_le, le-add_right, le_trans, le_of_lt, le_of_eq, le-max_left, le-max_right, max-le, min-le_left, min-eq_left}
use native.Mathlib.Decide.{dec_lt}
use native.Mathlib.Omega.{arith}
use mathlib.Core.Path.{◌≡◌, refl, sym, ap, ◌∙◌}
use mathlib.Core.Logic.{◌≢◌}
use mathlib.Core.Bool.{Bool, true, false, cond}
use mathlib.Core.List.{List, [], ◌∷◌}
use borrow.Author.Tests.{eqb-true, eqb-false}
use lib.Dec.{eqb}
use lib.Ieee.{Float}
use Rattle.float.specs.Ops.{of}
use Rattle.complex.specs.declared.value.Complex.{Complex}
use Rattle.complex.specs.Value.{c_sub, c_div}
use Rattle.fits.specs.declared.fit.ElementFit.{ElementFit}
use Rattle.synth.specs.Span.{span_of}
use Rattle.synth.specs.Baseband.{synth_at}
use Rattle.synth.proofs.Spans.{span_ordered}
use Rattle.prepared.specs.Left.{less_from, less_fit, less_fits}

-- `for k in lo..hi { z[k / len] -= synth_baseband(f, fs, k) / len as f64; }`, its first n turns
unfoldable pub sampled : Float → ℕ → ElementFit → (ℕ → Complex) → ℕ → ℕ → ℕ → Complex
sampled fs len f z lo zero b = z b
sampled fs len f z lo (suc n) b =
    let left = sampled fs len f z lo n b in
    cond (eqb ((lo + n) / len) b) (c_sub left (c_div (synth_at fs f (lo + n)) (of len))) left

-- `for f in &est.fits`, with `fit_span(f, fs, blocks * len)`
unfoldable pub sampled_all : Float → ℕ → ℕ → List ElementFit → (ℕ → Complex) → ℕ → Complex
sampled_all fs len blocks [] z b = z b
sampled_all fs len blocks (f ∷ fits) z b =
    let s = span_of fs (blocks * len) f in
    sampled_all fs len blocks fits (sampled fs len f z s.lo (s.hi - s.lo)) b

-- a sample lies in block b exactly where the division gives b
inside : (len k b : ℕ) → 0 < len → k / len ≡ b → (b * len ≤ k) × (k < b * len + len)
inside len k b p e = rw (← e) (div-mul-le_self k len, lt-div-mul-add p)

outside : (len k b : ℕ) → 0 < len → k / len ≢ b → (b * len ≤ k) → b * len + len ≤ k
outside len k b p e h = go (dec_lt b (k / len))
  where
    go : Dec (b < k / len) → b * len + len ≤ k
    go (yes l) = omega (arith, mul-le-mul_right len l, suc-mul b len, div-mul-le_self k len)
    go (no l) =
        let less : suc (k / len) ≤ b = omega arith in
        omega (arith, mul-le-mul_right len less, suc-mul (k / len) len, lt-div-mul-add {a = k} {b = len} p)

-- The samples from lo up to k that lie in c .. d are those from max lo c up to min k d. One sample more, k, is one more
-- of them where it lies in c .. d, and else none.
nothing_left : (m a : ℕ) → m ≤ a → m - a ≡ 0
nothing_left m a h = omega arith

next_of : (k a : ℕ) → a ≤ k → suc k - a ≡ suc (k - a)
next_of k a h = omega arith

module _ (lo c d k : ℕ) where
  one_more : lo ≤ k → c ≤ k → k < d → min (suc k) d - max lo c ≡ suc (min k d - max lo c)
  one_more l g h = rw (min-eq_left h, min-eq_left (le_of_lt h)) (next_of k (max lo c) (max-le l g))

  the_next : lo ≤ k → c ≤ k → k < d → max lo c + (min k d - max lo c) ≡ k
  the_next l g h = rw (min-eq_left (le_of_lt h)) (add-sub_of_le (max-le l g))

  before : k < c → min (suc k) d - max lo c ≡ min k d - max lo c
  before h =
      let low = le_trans h (le-max_right lo c) in
      nothing_left (min (suc k) d) (max lo c) (le_trans (min-le_left (suc k) d) low)
      ∙ sym (nothing_left (min k d) (max lo c) (le_trans (min-le_left k d) (le_of_lt low)))

  past : d ≤ k → min (suc k) d - max lo c ≡ min k d - max lo c
  past h = let same : min (suc k) d ≡ min k d = omega arith in rw same

-- a fit: the samples of block b among the first n
by_block : (fs : Float) (len : ℕ) (f : ElementFit) (z : ℕ → Complex) (lo n b : ℕ) → 0 < len
    → sampled fs len f z lo n b ≡ less_from fs len f (z b) (max lo (b * len)) (min (lo + n) (b * len + len) - max lo (b * len))
unfolding sampled less_from
by_block fs len f z lo zero b p =
    rw (nothing_left (min (lo + 0) (b * len + len)) (max lo (b * len)) (le_trans (min-le_left (lo + 0) (b * len + len)) (le_trans (le_of_eq (add-zero lo)) (le-max_left lo (b * len)))))
by_block fs len f z lo (suc n) b p = rw (add-suc lo n) (go (eqb ((lo + n) / len) b) refl (by_block fs len f z lo n b p))
  where
    k : ℕ
    k = lo + n

    a : ℕ
    a = max lo (b * len)

    same : k / len ≢ b → Dec (k < b * len) → min (suc k) (b * len + len) - a ≡ min k (b * len + len) - a
    same o (yes l) = before lo (b * len) (b * len + len) k l
    same o (no l) = past lo (b * len) (b * len + len) k (outside len k b p o (omega arith))

    go : (t : Bool) → eqb (k / len) b ≡ t → sampled fs len f z lo n b ≡ less_from fs len f (z b) a (min k (b * len + len) - a)
        → cond t (c_sub (sampled fs len f z lo n b) (c_div (synth_at fs f k) (of len))) (sampled fs len f z lo n b)
        ≡ less_from fs len f (z b) a (min (suc k) (b * len + len) - a)
    go true e less =
        let here = inside len k b p (eqb-true (k / len) b e) in
        rw (
          one_more lo (b * len) (b * len + len) k (le-add_right lo n) here.0 here.1,
          the_next lo (b * len) (b * len + len) k (le-add_right lo n) here.0 here.1,
          less,
        )
    go false e less = rw (same (eqb-false (k / len) b e) (dec_lt k (b * len))) less

pub less_as_sampled : (fs : Float) (len blocks : ℕ) (f : ElementFit) (z : ℕ → Complex) (b : ℕ) → 0 < len
    → let s = span_of fs (blocks * len) f in sampled fs len f z s.lo (s.hi - s.lo) b ≡ less_fit fs len blocks f b (z b)
unfolding less_fit
less_as_sampled fs len blocks f z b p =
    let s = span_of fs (blocks * len) f in
    let end : s.lo + (s.hi - s.lo) ≡ s.hi = omega (arith, span_ordered fs (blocks * len) f) in
    rw (by_block fs len f z s.lo (s.hi - s.lo) b p, end)

-- all fits
pub as_sampled : (fs : Float) (len blocks : ℕ) (fits : List ElementFit) (z : ℕ → Complex) (b : ℕ) → 0 < len → sampled_all fs len blocks fits z b ≡ less_fits fs len blocks fits b (z b)
unfolding sampled_all less_fits
as_sampled fs len blocks [] z b p = refl
as_sampled fs len blocks (f ∷ fits) z b p =
    let s = span_of fs (blocks * len) f in
    as_sampled fs len blocks fits (sampled fs len f z s.lo (s.hi - s.lo)) b p ∙ ap (less_fits fs len blocks fits b) (less_as_sampled fs len blocks f z b p)
