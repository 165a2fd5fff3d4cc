-- A span lies within the recording: lo ≤ hi ≤ n.
use Prim.Native.Nat.{ℕ, ◌≤◌}
use native.Mathlib.Nat.{min-le_right}
use mathlib.Core.Path.{◌≡◌}
use lib.Ieee.{Float}
use Rattle.fits.specs.declared.fit.ElementFit.{ElementFit}
use Rattle.row.specs.declared.span.Span.{Span}
use Rattle.synth.specs.Span.{span_of}

module _ (fs : Float) (n : ℕ) (f : ElementFit) where
  pub span_ordered : (span_of fs n f).lo ≤ (span_of fs n f).hi
  unfolding span_of
  span_ordered = min-le_right _ _

  pub span_inside : (span_of fs n f).hi ≤ n
  unfolding span_of
  span_inside = min-le_right _ _

  -- the same of a span that a call answers
  pub span_within : (s : Span) → s ≡ span_of fs n f → (s.lo ≤ s.hi) × (s.hi ≤ n)
  span_within s e = rw e (span_ordered, span_inside)
