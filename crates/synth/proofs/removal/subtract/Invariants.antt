use mathlib.Core.Path.{◌≡◌}
use Rattle.float.specs.Ops.{◌⊘◌}
use Rattle.fits.specs.List.{fits_in}
use Rattle.synth.specs.Removal.{subtracted}
use Rattle.synth.proofs.removal.subtract.Given as goal

abbrev pub invariant-loop-place : goal.invariant-loop-place
invariant-loop-place l = l.buf ≡ subtracted l.fs (l.carrier ⊘ l.fs) l.initial.buf (fits_in l.fits.numbers.now l.place-index)
