-- The fit of an element (01, part 4: `fit_elements`). Definitions only.
use Rattle.std.specs.Prelude.{ℕ, ◌-◌, cond, List, Float, Some, None}
use Rattle.std.specs.declared.option.Option.{Option}
use Rattle.std.specs.Float.Ieee.{le}
use Rattle.float.specs.Ops.{plus_zero}
use Rattle.complex.specs.Value.{c_div}
use Rattle.row.specs.Window.{samples}
use Rattle.elements.specs.declared.element.KeyedElement.{KeyedElement}
use Rattle.row.specs.declared.span.Span.{Span}
use Rattle.fits.specs.declared.fit.ElementFit.{ElementFit}
use Rattle.interiors.specs.Interior.{interior_of, slope_block}
use Rattle.interiors.specs.Slope.{slope_of}
use Rattle.interiors.specs.Gain.{ref_sample_of, gain_sum, hann_sum}

-- The fit over the samples from i0 up to, not including, i1. A fit holds its element, gain, slope and reference sample.
-- The gain is acc / wacc; an element whose weights add up to 0 or less is skipped.
unfoldable pub fit_inside : List Float → Float → ℕ → KeyedElement → ℕ → ℕ → Option ElementFit
fit_inside iq cyc block e i0 i1 =
    let len = i1 - i0 in
    let slope = slope_of iq cyc i0 len block in
    let ref = ref_sample_of i0 i1 in
    let gain = c_div (gain_sum iq cyc i0 len slope ref) (hann_sum len) in
    cond (le (hann_sum len) plus_zero) None (Some record { element = e; gain = gain; slope_rad_per_sample = slope; ref_sample = ref })

-- an element with no interior is skipped
unfoldable pub fit_within : List Float → Float → ℕ → KeyedElement → Option Span → Option ElementFit
fit_within iq cyc block e (Some i) = fit_inside iq cyc block e i.lo i.hi
fit_within iq cyc block e None = None

-- the fit of an element in a recording at a rate, derotated by cyc cycles a sample
unfoldable pub fit_of : List Float → Float → Float → KeyedElement → Option ElementFit
fit_of iq fs cyc e = fit_within iq cyc (slope_block fs) e (interior_of (samples iq) fs e.start e.end)
