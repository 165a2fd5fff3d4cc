-- A fit's synthesis at sample k, derotated to the carrier (the Rust's `synth_baseband`). Definitions only.
use Rattle.std.specs.Prelude.{ℕ, cond, Float}
use Rattle.std.specs.Float.Ieee.{eq}
use Rattle.float.specs.Ops.{◌⊖◌, ◌⊗◌, ◌⊘◌, of, plus_zero}
use Rattle.float.specs.Remainder.{rem_euclid_of}
use Rattle.trig.specs.Consts.{TAU}
use Rattle.complex.specs.declared.value.Complex.{Complex}
use Rattle.complex.specs.Value.{c_zero, c_mul, c_polar}
use Rattle.elements.specs.declared.element.KeyedElement.{KeyedElement}
use Rattle.fits.specs.declared.fit.ElementFit.{ElementFit}
use Rattle.synth.specs.Rise.{rc_of}

-- `env`: the element's amplitude at sample k, which rises at its start and falls at its end
unfoldable pub envelope_of : Float → KeyedElement → ℕ → Float
envelope_of fs e k = rc_of ((of k ⊖ e.start) ⊘ fs) ⊖ rc_of ((of k ⊖ e.end) ⊘ fs)

-- `tilt`: the angle that the slope has come to at sample k, none at the reference sample
abbrev pub tilt_at : ElementFit → ℕ → Float
tilt_at f k = rem_euclid_of (f.slope_rad_per_sample ⊗ (of k ⊖ f.ref_sample)) TAU

unfoldable pub synth_at : Float → ElementFit → ℕ → Complex
synth_at fs f k =
    let env = envelope_of fs f.element k in
    cond (eq env plus_zero) c_zero (c_mul f.gain (c_polar env (tilt_at f k)))
