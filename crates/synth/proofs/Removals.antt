-- The loops that take fits off: of one fit over a part of a buffer, and of all fits over the buffer.
use Prim.Native.Nat.{ℕ, ◌+◌, ◌-◌, ◌*◌, ◌/◌, ◌≤◌}
use native.Mathlib.Numerals.{add-one}
use native.Mathlib.Omega.{arith}
use mathlib.Core.Path.{◌≡◌, refl, sym, ap, ap₂, ◌∙◌}
use mathlib.Core.List.{List, [], ◌∷◌, ◌++◌}
use lib.ListN.{length}
use lib.Ieee.{Float}
use borrow.Rule.Slice.PartMut.{mid_of, put_mid}
use Rattle.complex.specs.declared.value.Complex.{Complex}
use Rattle.complex.specs.Rows.{z_at, z_set}
use Rattle.complex.proofs.RowLaws.{z_fill_none, z_fill_turn0, z_fill_cong, length_z_fill}
use Rattle.lists.specs.Firsts.{firsts}
use Rattle.row.specs.Window.{samples}
use Rattle.fits.specs.declared.fit.ElementFit.{ElementFit}
use Rattle.fits.specs.List.{fit_at, fits_in}
use Rattle.row.specs.declared.span.Span.{Span}
use Rattle.synth.specs.Span.{span_of}
use Rattle.synth.specs.Removal.{less_single, sent_at, less_at, less_by, subtracted}
use Rattle.synth.specs.Inner.{less_part}
use Rattle.synth.proofs.Spans.{span_ordered, span_inside}
use Rattle.synth.proofs.Parts.{z_at_z_fill_above, part_length, part_sample, part_filled}

-- ---- one fit over a part: before the loop, and a turn of it
module _ (fs cyc : Float) (f : ElementFit) (lo : ℕ) (part : List Float) where
  pub part_none : part ≡ less_part fs cyc f lo part 0
  unfolding less_part
  part_none = z_fill_none _ _ _

  -- sample j is as it was until its turn
  pub part_turn : (j : ℕ) (cur new : List Float) (s : Complex)
      → cur ≡ less_part fs cyc f lo part j → s ≡ sent_at fs cyc f (lo + j) → new ≡ z_set cur j (less_single (z_at cur j) s) → new ≡ less_part fs cyc f lo part (j + 1)
  unfolding less_part
  part_turn j cur new s p e h =
      let as-was : z_at cur j ≡ z_at part j = rw p (z_at_z_fill_above part 0 (λ i. less_at fs cyc f (lo + i) (z_at part i)) j j (omega arith)) in
      z_fill_turn0 part (λ i. less_at fs cyc f (lo + i) (z_at part i)) j cur new (less_single (z_at cur j) s) p (ap₂ less_single as-was e) h

-- ---- one fit over the buffer

module _ (fs cyc : Float) where
  pub length_less : (f : ElementFit) (buf : List Float) → length (less_by fs cyc f buf) ≡ length buf
  unfolding less_by
  length_less f buf = length_z_fill _ _ _ _

  -- the part that the span covers comes back with the fit taken off
  pub part_less : (f : ElementFit) (buf : List Float)
      → (let s = span_of fs (samples buf) f in
      let part = mid_of (2 * s.lo) (2 * s.hi - 2 * s.lo) buf in
      put_mid (2 * s.lo) (2 * s.hi - 2 * s.lo) buf (less_part fs cyc f s.lo part (length part / 2)) ≡ less_by fs cyc f buf)
  unfolding less_by less_part
  part_less f buf =
      let s = span_of fs (samples buf) f in
      let lo = s.lo in
      let hi = s.hi in
      let part = mid_of (2 * lo) (2 * hi - 2 * lo) buf in
      let ordered : lo ≤ hi = span_ordered fs (samples buf) f in
      let within : hi ≤ samples buf = span_inside fs (samples buf) f in
      let inside : 2 * hi ≤ length buf = omega arith in
      let long : length part ≡ 2 * hi - 2 * lo = part_length buf lo hi ordered inside in
      let count : length part / 2 ≡ hi - lo = omega arith in
      rw count
      (ap (λ z. put_mid (2 * lo) (2 * hi - 2 * lo) buf z) (z_fill_cong part 0 _ _ (hi - lo) (λ j h. ap (λ x. less_at fs cyc f (lo + j) x) (part_sample buf lo hi ordered inside j h)))
      ∙ part_filled buf lo hi ordered inside (λ j. less_at fs cyc f (lo + j) (z_at buf (lo + j))))

  -- ---- all fits, in order

  -- one more at the end of the list
  pub subtracted_more : (buf : List Float) (fits : List ElementFit) (f : ElementFit) → subtracted fs cyc buf (fits ++ (f ∷ [])) ≡ less_by fs cyc f (subtracted fs cyc buf fits)
  unfolding subtracted
  subtracted_more buf [] f = refl
  subtracted_more buf (g ∷ fits) f = subtracted_more (less_by fs cyc g buf) fits f

  pub length_subtracted : (buf : List Float) (fits : List ElementFit) → length (subtracted fs cyc buf fits) ≡ length buf
  unfolding subtracted
  length_subtracted buf [] = refl
  length_subtracted buf (f ∷ fits) = length_subtracted (less_by fs cyc f buf) fits ∙ length_less f buf

  -- the loop over the fits of a list, at place p: before it, and a turn of it
  module _ (buf l : List Float) where
    pub subtracted_none : buf ≡ subtracted fs cyc buf (fits_in l 0)
    unfolding subtracted fits_in firsts
    subtracted_none = refl

    pub subtracted_turn : (p : ℕ) (cur part : List Float) (f : ElementFit) (s : Span)
        → cur ≡ subtracted fs cyc buf (fits_in l p) → f ≡ fit_at l p → s ≡ span_of fs (length buf / 2) f
        → part ≡ less_part fs cyc f s.lo (mid_of (2 * s.lo) (2 * s.hi - 2 * s.lo) cur) (length (mid_of (2 * s.lo) (2 * s.hi - 2 * s.lo) cur) / 2)
        → put_mid (2 * s.lo) (2 * s.hi - 2 * s.lo) cur part ≡ subtracted fs cyc buf (fits_in l (p + 1))
    unfolding fits_in firsts
    subtracted_turn p cur part f s e at span taken =
        let same : length cur ≡ length buf = rw e (length_subtracted buf (fits_in l p)) in
        let here : s ≡ span_of fs (samples cur) f = span ∙ ap (λ n. span_of fs (n / 2) f) (sym same) in
        rw (taken, here, part_less f cur, add-one, subtracted_more buf (firsts (fit_at l) p) (fit_at l p), ← at, ← e)
