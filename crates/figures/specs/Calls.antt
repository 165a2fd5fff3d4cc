-- The figures of find_elements, fit_elements and estimate_strong, in their order (include/cancel.h). Definitions only.
use Rattle.std.specs.Prelude.{ℕ, List, [], ◌∷◌, Float}
use Rattle.float.specs.Ops.{of}
use Rattle.elements.specs.declared.keying.Found.{Found}
use Rattle.fits.specs.declared.estimate.Estimate.{Estimate}

-- of find_elements: key-downs, listed, short, airtime
abbrev pub found_figures : Found → List Float
found_figures f = of f.key_downs ∷ of f.listed ∷ of f.short ∷ of f.airtime ∷ []

-- of fit_elements: fitted
abbrev pub fitted_figures : ℕ → List Float
fitted_figures fitted = of fitted ∷ []

-- of estimate_strong: carrier_hz, carrier_step_hz, key-downs, listed, short, airtime, fitted
abbrev pub estimate_figures : Estimate → List Float
estimate_figures e =
    e.carrier_hz ∷ e.carrier_step_hz ∷ of e.found.key_downs ∷ of e.found.listed ∷ of e.found.short ∷ of e.found.airtime
    ∷ of e.fitted ∷ []
