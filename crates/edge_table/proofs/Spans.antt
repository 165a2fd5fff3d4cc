-- The row of 01's edge table that speaks of a span: ones at 100..199 of 300. Assumes nothing.
use mathlib.Core.Path.{◌≡◌, refl, ap}
use mathlib.Core.List.{[], ◌∷◌, map}
use lib.Ieee.{round, add, sub, mul, lt, is_nan, of_int, of_bits, to_unsigned}
use Rattle.float.specs.Ops.{of, fraction}
use Rattle.float.specs.Compare.{max_of}
use Rattle.float.specs.Whole.{floor_of, ceil_of, whole_by}
use Rattle.constants.specs.Constants.{RISE_S}
use Rattle.fits.specs.declared.fit.ElementFit.{ElementFit}
use Rattle.fits.specs.Estimate.{fits_found}
use Rattle.synth.specs.Span.{span_of}
use Rattle.edge_table.specs.Ones.{ones_of}
use Rattle.edge_table.proofs.Fits.{fitted_100}

-- a fit of an element from 99.5 to 199.5, of 300 samples
span_edge : (f : ElementFit) → f.element.start ≡ fraction 995 10 → f.element.end ≡ fraction 1995 10 → span_of (of 3000) 300 f ≡ record { lo = 69; hi = 230 }
unfolding span_of RISE_S max_of floor_of ceil_of whole_by fraction round add sub mul lt is_nan of_int of_bits to_unsigned
span_edge f s e = rw (s, e)

pub spanned : map (span_of (of 3000) 300) (fits_found (ones_of 100 199 300) (of 3000) (of 0)) ≡ (record { lo = 69; hi = 230 } ∷ [])
spanned = rw fitted_100.0 (ap (λ s. s ∷ []) (span_edge _ refl refl))
