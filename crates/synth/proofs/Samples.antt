-- What `subtract` leaves, sample by sample: each sample is what the fits whose spans cover it leave of it, in their
-- order (`subtracted_at`); one that no span covers is as it was (`outside_spans`).
use Prim.Native.Nat.{ℕ, ◌+◌, ◌-◌, ◌/◌, ◌≤◌, ◌<◌}
use native.Mathlib.Omega.{arith}
use mathlib.Core.Path.{◌≡◌, refl, sym, ap, ◌∙◌}
use mathlib.Core.Bool.{Bool, true, false, ◌&&◌, cond}
use mathlib.Core.List.{List, [], ◌∷◌, Memᴰ}
use borrow.Author.Tests.{leb-true, leb-false, ltb-true, ltb-false}
use lib.Dec.{leb, ltb}
use lib.Ieee.{Float}
use Rattle.complex.specs.declared.value.Complex.{Complex}
use Rattle.complex.specs.Rows.{z_at}
use Rattle.row.specs.Window.{samples}
use Rattle.fits.specs.declared.fit.ElementFit.{ElementFit}
use Rattle.synth.specs.Span.{span_of, covers}
use Rattle.synth.specs.Removal.{less_at, less_by, subtracted, left_at}
use Rattle.synth.proofs.Spans.{span_ordered, span_inside}
use Rattle.synth.proofs.Parts.{z_at_z_fill_below, z_at_z_fill_above, z_at_z_fill_from}
use Rattle.synth.proofs.Removals.{length_less}

module _ (fs cyc : Float) where
  -- one fit
  pub less_sample : (f : ElementFit) (buf : List Float) (k : ℕ)
      → z_at (less_by fs cyc f buf) k ≡ cond (covers (span_of fs (samples buf) f) k) (less_at fs cyc f k (z_at buf k)) (z_at buf k)
  unfolding less_by
  less_sample f buf k = go (leb lo k) (ltb k hi) refl refl
    where
      lo : ℕ
      lo = (span_of fs (samples buf) f).lo

      hi : ℕ
      hi = (span_of fs (samples buf) f).hi

      go : (t u : Bool) → leb lo k ≡ t → ltb k hi ≡ u → z_at (less_by fs cyc f buf) k ≡ cond (t && u) (less_at fs cyc f k (z_at buf k)) (z_at buf k)
      go false u below e = z_at_z_fill_below buf lo _ (hi - lo) k (leb-false lo k below)
      go true false from above =
          let ordered : lo ≤ hi = span_ordered fs (samples buf) f in
          let past : hi ≤ k = ltb-false k hi above in
          z_at_z_fill_above buf lo _ (hi - lo) k (omega arith)
      go true true from inside =
          let ordered : lo ≤ hi = span_ordered fs (samples buf) f in
          let within : hi ≤ samples buf = span_inside fs (samples buf) f in
          let after : lo ≤ k = leb-true lo k from in
          let before : k < hi = ltb-true k hi inside in
          let at : lo + (k - lo) ≡ k = omega arith in
          ap (λ i. z_at (less_by fs cyc f buf) i) (sym at)
          ∙ z_at_z_fill_from buf lo _ (hi - lo) (k - lo) (omega arith) (omega arith)
          ∙ ap (λ i. less_at fs cyc f i (z_at buf i)) at

  -- all fits, in order
  pub subtracted_at : (buf : List Float) (fits : List ElementFit) (k : ℕ) → z_at (subtracted fs cyc buf fits) k ≡ left_at fs cyc (samples buf) fits k (z_at buf k)
  unfolding subtracted left_at
  subtracted_at buf [] k = refl
  subtracted_at buf (f ∷ fits) k =
      subtracted_at (less_by fs cyc f buf) fits k
      ∙ ap (λ n. left_at fs cyc (n / 2) fits k (z_at (less_by fs cyc f buf) k)) (length_less fs cyc f buf)
      ∙ ap (λ z. left_at fs cyc (samples buf) fits k z) (less_sample f buf k)

  left_outside : (n : ℕ) (fits : List ElementFit) (k : ℕ) (x : Complex) → ((f : ElementFit) → Memᴰ f fits → covers (span_of fs n f) k ≡ false) → left_at fs cyc n fits k x ≡ x
  unfolding left_at
  left_outside n [] k x h = refl
  left_outside n (f ∷ fits) k x h = rw (h f (Memᴰ.head refl)) (left_outside n fits k x (λ g m. h g (Memᴰ.tail m)))

  -- a sample that no fit's span covers is as it was
  pub outside_spans : (buf : List Float) (fits : List ElementFit) (k : ℕ) → ((f : ElementFit) → Memᴰ f fits → covers (span_of fs (samples buf) f) k ≡ false)
      → z_at (subtracted fs cyc buf fits) k ≡ z_at buf k
  outside_spans buf fits k h = subtracted_at buf fits k ∙ left_outside (samples buf) fits k (z_at buf k) h
