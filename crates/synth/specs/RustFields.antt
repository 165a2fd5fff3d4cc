-- A fit in the Rust's own fields, of which `up` and `down`, which 01 adds to an element, are none. Definitions only.
use Rattle.std.specs.Prelude.{Float}
use Rattle.complex.specs.declared.value.Complex.{Complex}
use Rattle.fits.specs.declared.fit.ElementFit.{ElementFit}

-- the Rust's ElementFit
pub record RustFit : Type 0 where
  pub start : Float
  pub end : Float
  pub gain : Complex
  pub slope : Float
  pub reference : Float

abbrev pub rust_of : ElementFit → RustFit
rust_of f = record { start = f.element.start; end = f.element.end; gain = f.gain; slope = f.slope_rad_per_sample; reference = f.ref_sample }
