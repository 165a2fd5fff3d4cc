-- What `subtract` leaves of a buffer (01, part 7: "`subtract` takes fits in order; each works on the part of the buffer
-- its span covers"). A carrier enters as cycles per sample, cyc = carrier_hz / fs. Definitions only.
use Rattle.std.specs.Prelude.{ℕ, ◌+◌, ◌-◌, cond, List, [], ◌∷◌, Float}
use Rattle.std.specs.Float.{binary32}
use Rattle.std.specs.Float.Ieee.{sub}
use Rattle.float.specs.Single.{narrow_of}
use Rattle.complex.specs.declared.value.Complex.{Complex}
use Rattle.complex.specs.Value.{c_new, c_mul}
use Rattle.complex.specs.Rows.{z_at, z_fill}
use Rattle.row.specs.Window.{samples}
use Rattle.row.specs.Blocks.{rotor_of}
use Rattle.fits.specs.declared.fit.ElementFit.{ElementFit}
use Rattle.synth.specs.Span.{span_of, covers}
use Rattle.synth.specs.Baseband.{synth_at}

-- x less s, each part of s made an f32 first: `*x -= Complex32::new(s.re as f32, s.im as f32)`
abbrev pub less_single : Complex → Complex → Complex
less_single x s = c_new (sub binary32 x.re (narrow_of s.re)) (sub binary32 x.im (narrow_of s.im))

module _ (fs cyc : Float) where
  -- `s`: the fit's synthesis at sample k, at the carrier
  unfoldable pub sent_at : ElementFit → ℕ → Complex
  sent_at f k = c_mul (synth_at fs f k) (rotor_of cyc k)

  -- sample k, where it is x, less that
  abbrev pub less_at : ElementFit → ℕ → Complex → Complex
  less_at f k x = less_single x (sent_at f k)

  -- one fit: the samples of its span are replaced, and all else is as it was
  unfoldable pub less_by : ElementFit → List Float → List Float
  less_by f buf =
      let s = span_of fs (samples buf) f in
      z_fill buf s.lo (λ j. less_at f (s.lo + j) (z_at buf (s.lo + j))) (s.hi - s.lo)

  -- all fits, in order
  unfoldable pub subtracted : List Float → List ElementFit → List Float
  subtracted buf [] = buf
  subtracted buf (f ∷ fits) = subtracted (less_by f buf) fits

  -- ---- what the definition comes to, sample by sample: `subtracted_at` of `proofs/Samples.antt` proves it

  -- sample k of n, where it is x, after all fits: each whose span covers it takes its synthesis off, in order
  unfoldable pub left_at : ℕ → List ElementFit → ℕ → Complex → Complex
  left_at n [] k x = x
  left_at n (f ∷ fits) k x = left_at n fits k (cond (covers (span_of fs n f) k) (less_at f k x) x)
