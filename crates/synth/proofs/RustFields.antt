-- A fit's span and synthesis, and so what `subtract` leaves, go by the Rust's own fields of a fit alone: the positions
-- `up` and `down`, which 01 adds, have no part in them.
use Prim.Native.Nat.{ℕ, ◌+◌}
use native.Mathlib.Omega.{arith}
use mathlib.Core.Path.{◌≡◌, refl, ap, ◌∙◌}
use mathlib.Core.List.{List, [], ◌∷◌, map}
use lib.Ieee.{Float}
use Rattle.complex.specs.Value.{c_mul}
use Rattle.complex.specs.Rows.{z_at}
use Rattle.complex.proofs.RowLaws.{z_fill_cong}
use Rattle.row.specs.Window.{samples}
use Rattle.row.specs.Blocks.{rotor_of}
use Rattle.fits.specs.declared.fit.ElementFit.{ElementFit}
use Rattle.synth.specs.Span.{span_of}
use Rattle.synth.specs.Baseband.{envelope_of, synth_at}
use Rattle.synth.specs.Removal.{less_single, sent_at, less_by, subtracted}
use Rattle.synth.specs.RustFields.{rust_of}

module _ (fs : Float) (f g : ElementFit) (same : rust_of f ≡ rust_of g) where
  pub span_alike : (n : ℕ) → span_of fs n f ≡ span_of fs n g
  unfolding span_of
  span_alike n = rw (ap (λ r. r.start) same, ap (λ r. r.end) same)

  pub synth_alike : (k : ℕ) → synth_at fs f k ≡ synth_at fs g k
  unfolding synth_at envelope_of
  synth_alike k = rw (
    ap (λ r. r.start) same,
    ap (λ r. r.end) same,
    ap (λ r. r.gain) same,
    ap (λ r. r.slope) same,
    ap (λ r. r.reference) same,
  )

  pub sent_alike : (cyc : Float) (k : ℕ) → sent_at fs cyc f k ≡ sent_at fs cyc g k
  unfolding sent_at
  sent_alike cyc k = ap (λ z. c_mul z (rotor_of cyc k)) (synth_alike k)

  pub less_from_alike : (cyc : Float) (buf : List Float) → less_by fs cyc f buf ≡ less_by fs cyc g buf
  unfolding less_by
  less_from_alike cyc buf =
      let lo = (span_of fs (samples buf) g).lo in
      rw (span_alike (samples buf)) (z_fill_cong buf lo _ _ _ (λ j h. ap (less_single (z_at buf (lo + j))) (sent_alike cyc (lo + j))))

-- two lists of fits that are one to the Rust
pub subtracted_alike : (fs cyc : Float) (buf : List Float) (fits others : List ElementFit) → map rust_of fits ≡ map rust_of others → subtracted fs cyc buf fits ≡ subtracted fs cyc buf others
unfolding subtracted
subtracted_alike fs cyc buf [] [] same = refl
subtracted_alike fs cyc buf [] (g ∷ others) same = let z : ◌≡◌ {A = ℕ} 0 1 = cc in absurd (omega arith)
subtracted_alike fs cyc buf (f ∷ fits) [] same = let z : ◌≡◌ {A = ℕ} 0 1 = cc in absurd (omega arith)
subtracted_alike fs cyc buf (f ∷ fits) (g ∷ others) same =
    let first : rust_of f ≡ rust_of g = cc in
    let rest : map rust_of fits ≡ map rust_of others = cc in
    ap (λ b. subtracted fs cyc b fits) (less_from_alike fs f g first cyc buf) ∙ subtracted_alike fs cyc (less_by fs cyc g buf) fits others rest
