-- Fits in a lent list (01, "Where cancel.rs leans on Rust"), and `fit_elements` of a list of elements (01, part 4).
-- Definitions only.
use Rattle.std.specs.Prelude.{ℕ, ◌+◌, ◌*◌, Bool, true, false, List, [], ◌∷◌, ◌++◌, get_or, Float, Some, None}
use Rattle.std.specs.declared.option.Option.{Option}
use Rattle.std.specs.Float.{nan}
use Rattle.float.specs.Ops.{◌⊘◌}
use Rattle.lists.specs.Firsts.{firsts}
use Rattle.lists.specs.Those.{those}
use Rattle.complex.specs.Value.{c_new}
use Rattle.elements.specs.declared.element.KeyedElement.{KeyedElement}
use Rattle.lists.specs.Records.{Handed, handed}
use Rattle.elements.specs.Element.{ELEMENT, element_from}
use Rattle.fits.specs.declared.fit.ElementFit.{ElementFit}
use Rattle.fits.specs.Fit.{fit_of}

-- A fit has the numbers of its element and four more; a place is one record.
abbrev pub FIT : ℕ
FIT = ELEMENT + 4

-- the fit whose numbers begin at number `at` of a list: those of its element, the gain's two, slope and reference
abbrev pub fit_from : List Float → ℕ → ElementFit
fit_from l at =
    record {
      element = element_from l at;
      gain = c_new (get_or l (at + ELEMENT) nan) (get_or l (at + ELEMENT + 1) nan);
      slope_rad_per_sample = get_or l (at + ELEMENT + 2) nan;
      ref_sample = get_or l (at + ELEMENT + 3) nan;
    }

-- the fit at place p, and those at the first `count` places
abbrev pub fit_at : List Float → ℕ → ElementFit
fit_at l p = fit_from l (FIT * p)

unfoldable pub fits_in : List Float → ℕ → List ElementFit
fits_in l count = firsts (fit_at l) count

-- what a list hands out at its first `count` places of fits
unfoldable pub handed_fits : List Float → ℕ → Handed ElementFit
handed_fits l count = handed FIT (fits_in l count) l

-- ---- the fits of a list of elements

-- the fit of an element that gets one, as a list
abbrev pub if_fitted : Option ElementFit → List ElementFit
if_fitted (Some f) = f ∷ []
if_fitted None = []

-- `fit_elements`: the fits of those elements, in order, that get one
unfoldable pub fits_of : List Float → Float → Float → List KeyedElement → List ElementFit
fits_of iq fs carrier [] = []
fits_of iq fs carrier (e ∷ es) = if_fitted (fit_of iq fs (carrier ⊘ fs) e) ++ fits_of iq fs carrier es

-- Skipped = listed and not fitted.
abbrev pub is_skipped : Option ElementFit → Bool
is_skipped (Some f) = false
is_skipped None = true

unfoldable pub skipped_of : List Float → Float → Float → List KeyedElement → List KeyedElement
skipped_of iq fs carrier es = those (λ e. is_skipped (fit_of iq fs (carrier ⊘ fs) e)) es
