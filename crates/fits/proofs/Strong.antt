-- What `estimate_strong` hands out: the elements of the long key-downs at the refined carrier, and the fits of those of
-- them that get one. Assumes nothing.
use Rattle.std.proofs.Common.{Some, None}
use Prim.Native.Nat.{ℕ, ◌+◌, ◌-◌}
use native.Mathlib.Omega.{arith}
use mathlib.Core.Path.{◌≡◌}
use mathlib.Core.Bool.{not}
use mathlib.Core.List.{List, [], map, Memᴰ}
use lib.ListN.{length}
use lib.Ieee.{Float}
use Rattle.float.specs.Ops.{◌⊘◌}
use Rattle.lists.specs.Those.{those}
use Rattle.row.specs.Samples.{Singles, Iq}
use Rattle.row.specs.Window.{step_of}
use Rattle.row.specs.Envelope.{row_of, row_length}
use Rattle.lists.specs.Records.{handed}
use Rattle.elements.specs.Element.{ELEMENT, elements_in, handed_elements}
use Rattle.elements.specs.Keying.{LongKeyDowns}
use Rattle.elements.specs.Find.{threshold_of, elements_found}
use Rattle.elements.proofs.Exactly.{found_exactly, found_nothing}
use Rattle.elements.proofs.Records.{elements_read}
use Rattle.elements.proofs.Recording.{listed_counted}
use Rattle.fits.specs.declared.fit.ElementFit.{ElementFit}
use Rattle.fits.specs.Fit.{fit_of}
use Rattle.fits.specs.List.{FIT, fits_in, handed_fits, is_skipped, skipped_of}
use Rattle.fits.specs.Estimate.{fits_found, refined, strong_elements, strong_fits, strong_estimate}
use Rattle.fits.proofs.Fitted.{fits_are, fit_is, fitted_or_skipped}
use Rattle.fits.proofs.Records.{fits_read}

module _ (iq : List Float) (fs hint : Float) where
  abbrev carrier : Float
  carrier = refined iq fs hint

  -- the second find: at the refined carrier, the long key-downs, each once, in order, and nothing else
  pub strong_exactly : Singles iq → Iq iq → (thr : Float) → threshold_of iq fs (refined iq fs hint) ≡ Some thr
      → LongKeyDowns (row_of iq fs (refined iq fs hint)) thr (row_length iq fs - 1) (step_of fs) fs (strong_elements iq fs hint)
  unfolding strong_elements
  strong_exactly = found_exactly iq fs carrier

  pub strong_nothing : threshold_of iq fs (refined iq fs hint) ≡ None → strong_elements iq fs hint ≡ []
  unfolding strong_elements
  strong_nothing = found_nothing iq fs carrier

  -- the second fit: of these elements, in order, those that get a fit
  pub strong_fits_are : map (λ f. f.element) (strong_fits iq fs hint) ≡ those (λ e. not (is_skipped (fit_of iq fs (refined iq fs hint ⊘ fs) e))) (strong_elements iq fs hint)
  unfolding strong_elements strong_fits fits_found
  strong_fits_are = fits_are iq fs carrier (elements_found iq fs carrier)

  pub strong_fit_is : (f : ElementFit) → Memᴰ f (strong_fits iq fs hint) → fit_of iq fs (refined iq fs hint ⊘ fs) f.element ≡ Some f
  unfolding strong_fits fits_found
  strong_fit_is = fit_is iq fs carrier (elements_found iq fs carrier)

  -- listed are the fitted and the skipped ones
  pub strong_counted : (strong_estimate iq fs hint).fitted + length (skipped_of iq fs (refined iq fs hint) (strong_elements iq fs hint)) ≡ (strong_estimate iq fs hint).found.listed
  unfolding strong_estimate strong_elements strong_fits fits_found
  strong_counted =
      let all = fitted_or_skipped iq fs carrier (elements_found iq fs carrier) in
      let listed = listed_counted iq fs carrier in
      omega arith

  -- The same of the elements and fits at the first places of lists that hand them out.
  module _ (cur l : List Float) (n : ℕ) (h : handed_elements cur n ≡ handed ELEMENT (strong_elements iq fs hint) l) where
    pub handed_strong : Singles iq → Iq iq → (thr : Float) → threshold_of iq fs (refined iq fs hint) ≡ Some thr
        → LongKeyDowns (row_of iq fs (refined iq fs hint)) thr (row_length iq fs - 1) (step_of fs) fs (elements_in cur n)
    handed_strong s q thr t = rw (elements_read cur l n (strong_elements iq fs hint) h) (strong_exactly s q thr t)

    pub handed_strong_nothing : threshold_of iq fs (refined iq fs hint) ≡ None → elements_in cur n ≡ []
    handed_strong_nothing t = rw (elements_read cur l n (strong_elements iq fs hint) h) (strong_nothing t)

    module _ (fits m : List Float) (k : ℕ) (g : handed_fits fits k ≡ handed FIT (strong_fits iq fs hint) m) where
      pub handed_strong_fits : map (λ f. f.element) (fits_in fits k) ≡ those (λ e. not (is_skipped (fit_of iq fs (refined iq fs hint ⊘ fs) e))) (elements_in cur n)
      handed_strong_fits =
          rw (fits_read fits m k (strong_fits iq fs hint) g, elements_read cur l n (strong_elements iq fs hint) h) strong_fits_are
