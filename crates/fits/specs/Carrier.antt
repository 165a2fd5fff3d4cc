-- The mean slope of fits in Hz (01, part 4: `mean_slope_hz`). Definitions only.
use Rattle.std.specs.Prelude.{cond, List, Float}
use Rattle.std.specs.Float.Ieee.{lt}
use Rattle.float.specs.Ops.{◌⊖◌, ◌⊗◌, ◌⊘◌, plus_zero, two}
use Rattle.float.specs.Compare.{max_of}
use Rattle.trig.specs.Consts.{TAU}
use Rattle.complex.specs.Value.{c_norm}
use Rattle.constants.specs.Constants.{RISE_S}
use Rattle.fits.specs.declared.fit.ElementFit.{ElementFit}
use Rattle.lists.specs.Sums.{sum_over}

-- the weight of a fit: interior length × |gain|
unfoldable pub fit_weight : Float → ElementFit → Float
fit_weight fs f = max_of (f.element.end ⊖ f.element.start ⊖ two ⊗ RISE_S ⊗ fs) plus_zero ⊗ c_norm f.gain

abbrev pub weighted_slope : Float → ElementFit → Float
weighted_slope fs f = fit_weight fs f ⊗ f.slope_rad_per_sample

-- the weighted mean of the slopes, in Hz; 0 where the weights do not add up to more than 0
unfoldable pub mean_slope : Float → List ElementFit → Float
mean_slope fs fits =
    let num = sum_over (weighted_slope fs) plus_zero fits in
    let den = sum_over (fit_weight fs) plus_zero fits in
    cond (lt plus_zero den) (num ⊘ den ⊗ fs ⊘ TAU) plus_zero
