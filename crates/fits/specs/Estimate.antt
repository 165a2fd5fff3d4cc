-- The estimate of a strong sender (01, part 4: `estimate_strong`): a find and fit at the hint, the carrier refined by
-- the mean slope, and a second find and fit at the refined carrier, over the same recording. Definitions only.
use Rattle.std.specs.Prelude.{List, length, Float}
use Rattle.float.specs.Ops.{◌⊕◌}
use Rattle.elements.specs.declared.element.KeyedElement.{KeyedElement}
use Rattle.elements.specs.Find.{found_of, elements_found}
use Rattle.fits.specs.declared.fit.ElementFit.{ElementFit}
use Rattle.fits.specs.declared.estimate.Estimate.{Estimate}
use Rattle.fits.specs.List.{fits_of}
use Rattle.fits.specs.Carrier.{mean_slope}

module _ (iq : List Float) (fs : Float) where
  -- the fits of the elements found at a carrier
  unfoldable pub fits_found : Float → List ElementFit
  fits_found carrier = fits_of iq fs carrier (elements_found iq fs carrier)

  module _ (hint : Float) where
    -- the carrier step, from the first pass, and the refined carrier
    unfoldable pub carrier_step : Float
    carrier_step = mean_slope fs (fits_found hint)

    unfoldable pub refined : Float
    refined = hint ⊕ carrier_step

    -- The second pass is the second find and fit. The counts, the elements and the fits are those of the second pass.
    unfoldable pub strong_elements : List KeyedElement
    strong_elements = elements_found iq fs refined

    unfoldable pub strong_fits : List ElementFit
    strong_fits = fits_found refined

    unfoldable pub strong_estimate : Estimate
    strong_estimate = record { carrier_hz = refined; carrier_step_hz = carrier_step; found = found_of iq fs refined; fitted = length strong_fits }
