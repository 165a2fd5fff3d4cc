-- Fits taken off the blocks' means: the loops over the samples of a block, over the blocks of a span and over the fits.
use Prim.Native.Nat.{ℕ, suc, ◌+◌, ◌-◌, ◌*◌, ◌/◌, ◌%◌, ◌≤◌, ◌<◌, min, max}
use native.Mathlib.Numerals.{add-one}
use native.Mathlib.Decide.{dec_lt}
use native.Mathlib.Nat.{eq-or-lt_of_le, le_of_suc-le-suc, le-div_iff_mul-le, mul-le-mul_right, suc-mul, div-add-mod'}
use native.Mathlib.Omega.{arith}
use mathlib.Core.Path.{◌≡◌, refl, sym, ◌∙◌}
use mathlib.Core.Logic.{⊎_elim}
use mathlib.Core.List.{List, [], ◌∷◌, ◌++◌}
use lib.ListN.{length}
use lib.Ieee.{Float}
use Rattle.std.proofs.lemmas.Grind.{div_ceil_times}
use Rattle.float.specs.Ops.{of}
use Rattle.complex.specs.declared.value.Complex.{Complex}
use Rattle.complex.specs.Value.{c_sub, c_div}
use Rattle.complex.specs.Rows.{z_at, z_set}
use Rattle.complex.proofs.RowLaws.{z_at_z_set_same, z_at_z_set_other}
use Rattle.lists.specs.Firsts.{firsts}
use Rattle.fits.specs.List.{fit_at, fits_in}
use Rattle.fits.specs.declared.fit.ElementFit.{ElementFit}
use Rattle.row.specs.declared.span.Span.{Span}
use Rattle.synth.specs.Span.{span_of}
use Rattle.synth.specs.Baseband.{synth_at}
use Rattle.synth.proofs.Spans.{span_inside}
use Rattle.prepared.specs.Left.{less_from, less_span, less_fit, less_fits}

-- ---- the samples of a block that a span covers, from a up to e: before the loop, a turn of it, and after it
module _ (fs : Float) (len : ℕ) (f : ElementFit) (z : Complex) (a : ℕ) where
  pub less_from_none : z ≡ less_from fs len f z a (a - a)
  unfolding less_from
  less_from_none = let none : a - a ≡ 0 = omega arith in rw none

  pub less_from_turn : (k : ℕ) (left s q r : Complex) (d : Float) → a ≤ k
      → left ≡ less_from fs len f z a (k - a) → s ≡ synth_at fs f k → q ≡ c_div s d → d ≡ of len → r ≡ c_sub left q → r ≡ less_from fs len f z a (k + 1 - a)
  unfolding less_from
  less_from_turn k left s q r d g p e h i j =
      let next : k + 1 - a ≡ suc (k - a) = omega arith in
      let here : a + (k - a) ≡ k = omega arith in
      rw (next, here, j, p, h, e, i)

  pub less_from_done : (s : Span) (from e k : ℕ) (left : Complex) → a ≡ max s.lo from → e ≡ min s.hi (from + len)
      → left ≡ less_from fs len f z a (k - a) → e ≤ k → k - a ≤ e - a → left ≡ less_span fs len f s from z
  less_from_done s from e k left i j p h g = let all : k - a ≡ e - a = omega arith in rw (← i, ← j, ← all) p

-- none of them, where the span ends before it or at it
span_none : (fs : Float) (len : ℕ) (f : ElementFit) (s : Span) (from : ℕ) (z : Complex) → min s.hi (from + len) ≤ max s.lo from → z ≡ less_span fs len f s from z
unfolding less_from
span_none fs len f s from z h = let none : min s.hi (from + len) - max s.lo from ≡ 0 = omega arith in rw none

-- ---- the blocks of a span

-- block b of the row is done, and none after it
pub record Turned (fs : Float) (len blocks : ℕ) (f : ElementFit) (first row : List Float) (b : ℕ) : Type 0 where
  pub done : (j : ℕ) → j < b → z_at row j ≡ less_fit fs len blocks f j (z_at first j)
  pub rest : (j : ℕ) → b ≤ j → z_at row j ≡ z_at first j

module _ (fs : Float) (len blocks : ℕ) (f : ElementFit) (s : Span) (e : s ≡ span_of fs (blocks * len) f) (first : List Float) where
  -- a block that the span does not reach keeps its mean
  before_span : (j : ℕ) (z : Complex) → j * len + len ≤ s.lo → less_fit fs len blocks f j z ≡ z
  unfolding less_fit
  before_span j z h = rw (← e) (sym (span_none fs len f s (j * len) z (omega arith)))

  after_span : (j : ℕ) (z : Complex) → s.hi ≤ j * len → less_fit fs len blocks f j z ≡ z
  unfolding less_fit
  after_span j z h = rw (← e) (sym (span_none fs len f s (j * len) z (omega arith)))

  -- the loop over the blocks: before it, a turn of it, and after it
  pub turned_none : 0 < len → Turned fs len blocks f first first (s.lo / len)
  turned_none p =
      record {
        done = λ j h. sym (before_span j (z_at first j) (omega (arith, (le-div_iff_mul-le {k = len} {x = suc j} {y = s.lo} p).0 h, suc-mul j len)));
        rest = λ j h. refl;
      }

  pub turned_turn : (cur new : List Float) (b from : ℕ) (z r : Complex)
      → Turned fs len blocks f first cur b → from ≡ b * len → z ≡ z_at cur b → r ≡ less_span fs len f s from z → new ≡ z_set cur b r → 2 * b + 1 < length cur
      → Turned fs len blocks f first new (b + 1)
  unfolding less_fit
  turned_turn cur new b from z r t g q p n room =
      let here : r ≡ less_fit fs len blocks f b (z_at first b) = rw (p, g, q, t.rest b (omega arith), e) in
      record {
        done =
            λ j h.
            ⊎_elim
            (λ (i : j ≡ b). rw (n, i) (z_at_z_set_same cur b r room ∙ here))
            (λ (l : j < b). rw n (z_at_z_set_other cur b j r (omega arith)) ∙ t.done j l)
            (eq-or-lt_of_le (le_of_suc-le-suc (rw add-one at h)));
        rest = λ j h. rw n (z_at_z_set_other cur b j r (omega arith)) ∙ t.rest j (omega arith);
      }

  pub turned_done : 0 < len → (cur : List Float) (b end : ℕ) → Turned fs len blocks f first cur b → end ≡ s.hi / len + min 1 (s.hi % len) → end ≤ b → (j : ℕ) → z_at cur j ≡ less_fit fs len blocks f j (z_at first j)
  turned_done p cur b end t i h j = go (dec_lt j b)
    where
      go : Dec (j < b) → z_at cur j ≡ less_fit fs len blocks f j (z_at first j)
      go (yes l) = t.done j l
      go (no l) =
          let past : b ≤ j = omega arith in
          let low = mul-le-mul_right len (rw i at h) in
          let ends = div_ceil_times s.hi len p in
          t.rest j past ∙ sym (after_span j (z_at first j) (omega (arith, mul-le-mul_right len past, ends.0)))

-- where the block of sample lo starts
pub first_start : (lo len : ℕ) → lo - lo % len ≡ lo / len * len
first_start lo len = omega (arith, div-add-mod' lo len)

-- a block of a span is one of the whole blocks
inside : (blocks len b from hi : ℕ) → 0 < len → from ≡ b * len → b < hi / len + min 1 (hi % len) → hi ≤ blocks * len
    → (b < blocks) × (from + len ≤ blocks * len)
inside blocks len b from hi p e h g =
    let ends = div_ceil_times hi len p in
    let turns : suc b * len ≤ (hi / len + min 1 (hi % len)) * len = mul-le-mul_right len h in
    let here : b < blocks = go (dec_lt b blocks) (omega (arith, ends.1, suc-mul b len)) in
    (here, omega (arith, mul-le-mul_right len here, suc-mul b len))
  where
    never : blocks * len ≤ b * len → b * len < blocks * len → ⊥
    never q r = omega arith

    go : Dec (b < blocks) → b * len < blocks * len → b < blocks
    go (yes l) r = l
    go (no l) r = let past : blocks ≤ b = omega arith in absurd (never (mul-le-mul_right len past) r)

pub block_inside : (fs : Float) (len blocks : ℕ) (f : ElementFit) (s : Span) (b from end : ℕ) → 0 < len → s ≡ span_of fs (blocks * len) f
    → end ≡ s.hi / len + min 1 (s.hi % len) → from ≡ b * len → b < end → (b < blocks) × (from + len ≤ blocks * len)
block_inside fs len blocks f s b from end p e t i h =
    let last : s.hi ≤ blocks * len = rw e (span_inside fs (blocks * len) f) in
    inside blocks len b from s.hi p i (rw t at h) last

-- ---- the fits, one after the other
module _ (fs : Float) (len blocks : ℕ) where
  fits_more : (xs : List ElementFit) (f : ElementFit) (b : ℕ) (z : Complex) → less_fits fs len blocks (xs ++ (f ∷ [])) b z ≡ less_fit fs len blocks f b (less_fits fs len blocks xs b z)
  unfolding less_fits
  fits_more [] f b z = refl
  fits_more (x ∷ xs) f b z = fits_more xs f b (less_fit fs len blocks x b z)

  module _ (l : List Float) (b : ℕ) (first : Complex) where
    pub fits_none : first ≡ less_fits fs len blocks (fits_in l 0) b first
    unfolding fits_in firsts less_fits
    fits_none = refl

    pub fits_turn : (k : ℕ) (f : ElementFit) (z r : Complex)
        → z ≡ less_fits fs len blocks (fits_in l k) b first → f ≡ fit_at l k → r ≡ less_fit fs len blocks f b z → r ≡ less_fits fs len blocks (fits_in l (k + 1)) b first
    unfolding fits_in firsts
    fits_turn k f z r p e q = rw (add-one k, fits_more (firsts (fit_at l) k) (fit_at l k) b first, ← e, ← p) q

    pub fits_done : (n k : ℕ) (z : Complex) → z ≡ less_fits fs len blocks (fits_in l k) b first → k ≤ n → n ≤ k → z ≡ less_fits fs len blocks (fits_in l n) b first
    fits_done n k z p h g = let all : k ≡ n = omega arith in rw all at p
