-- Not needed to read a public promise: what the functions behind `fit_elements` and `estimate_strong` require and
-- ensure. Definitions only.
use Rattle.std.specs.Prelude.{ℕ, ◌+◌, ◌*◌, ◌<◌, List, T, set, Float}
use Rattle.float.specs.Size.{sized}
use Rattle.elements.specs.declared.element.KeyedElement.{KeyedElement}
use Rattle.elements.specs.Element.{ELEMENT, element_at}
use Rattle.lists.specs.Records.{stored_by}
use Rattle.elements.specs.Inner.{put_element_from}
use Rattle.fits.specs.declared.fit.ElementFit.{ElementFit}
use Rattle.fits.specs.List.{FIT}

-- ---- what is required of the elements of a list: their times are finite, and of size at most 2^200
pub record Timed (e : KeyedElement) : Type 0 where
  pub first : T (sized e.start)
  pub last : T (sized e.end)

pub record AllTimed (l : List Float) (n : ℕ) : Type 0 where
  pub each : (k : ℕ) → k < n → Timed (element_at l k)

-- ---- fits stored in a list

-- a list with a fit stored from number `at` on, and at place p
abbrev pub put_fit_from : List Float → ℕ → ElementFit → List Float
put_fit_from l at f =
    let element = put_element_from l at f.element in
    let gain = set (set element (at + ELEMENT) f.gain.re) (at + ELEMENT + 1) f.gain.im in
    set (set gain (at + ELEMENT + 2) f.slope_rad_per_sample) (at + ELEMENT + 3) f.ref_sample

abbrev pub put_fit : List Float → ℕ → ElementFit → List Float
put_fit l p f = put_fit_from l (FIT * p) f

-- fits stored one after the other, from place p on and from the start on
abbrev pub fits_from : List Float → ℕ → List ElementFit → List Float
fits_from l p fs = stored_by FIT put_fit_from l p fs

abbrev pub fits_stored : List Float → List ElementFit → List Float
fits_stored l fs = fits_from l 0 fs
