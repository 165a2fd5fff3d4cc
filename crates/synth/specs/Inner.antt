-- What the functions that `subtract` is made of ensure: no public promise needs it. Definitions only.
use Rattle.std.specs.Prelude.{ℕ, ◌+◌, List, Float}
use Rattle.complex.specs.Rows.{z_at, z_fill}
use Rattle.fits.specs.declared.fit.ElementFit.{ElementFit}
use Rattle.synth.specs.Removal.{less_at}

-- a part of a buffer, whose first sample is number lo of the recording, with its first n samples less the fit's
-- synthesis
unfoldable pub less_part : Float → Float → ElementFit → ℕ → List Float → ℕ → List Float
less_part fs cyc f lo part n = z_fill part 0 (λ j. less_at fs cyc f (lo + j) (z_at part j)) n
