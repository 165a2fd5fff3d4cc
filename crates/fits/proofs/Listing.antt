-- The loop of `fit_elements`: the fits of the elements behind it are stored, and counted.
use Rattle.std.proofs.Common.{Some, None}
use Rattle.std.specs.declared.option.Option.{Option}
use Prim.Native.Nat.{ℕ, ◌+◌, ◌*◌, ◌≤◌}
use native.Mathlib.Numerals.{add-one}
use native.Mathlib.Omega.{arith}
use mathlib.Core.Path.{◌≡◌, refl, sym}
use mathlib.Core.List.{List, [], ◌∷◌, ◌++◌, append_assoc, append-nil}
use lib.ListN.{length, length-append}
use lib.Ieee.{Float}
use Rattle.float.specs.Ops.{◌⊘◌}
use Rattle.lists.specs.Firsts.{firsts}
use Rattle.lists.proofs.Firsts.{length_firsts}
use Rattle.elements.specs.declared.element.KeyedElement.{KeyedElement}
use Rattle.lists.specs.Records.{handed, stored_by}
use Rattle.elements.specs.Element.{element_at, elements_in}
use Rattle.lists.proofs.Records.{stored_append}
use Rattle.fits.specs.declared.fit.ElementFit.{ElementFit}
use Rattle.fits.specs.Fit.{fit_of}
use Rattle.fits.specs.List.{FIT, fit_from, handed_fits, if_fitted, fits_of}
use Rattle.fits.specs.Inner.{put_fit_from, put_fit, fits_from, fits_stored}
use Rattle.fits.proofs.Fitted.{one_fit, fitted_few}
use Rattle.fits.proofs.Records.{fit_kind, fits_handed}

-- ---- the two ways out of `keep`
pub keep_none : (l : List Float) (p : ℕ) (fit : Option ElementFit) → fit ≡ None → (p ≡ p + length (if_fitted fit)) × (l ≡ fits_from l p (if_fitted fit))
unfolding stored_by
keep_none l p fit e = (rw e (omega arith), rw e refl)

pub keep_one : (l new : List Float) (p : ℕ) (fit : Option ElementFit) (f : ElementFit) → fit ≡ Some f → new ≡ put_fit l p f
    → (p + 1 ≡ p + length (if_fitted fit)) × (new ≡ fits_from l p (if_fitted fit))
unfolding stored_by
keep_one l new p fit f e h = (rw e refl, rw e h)

-- ---- one element more
fits_more : (iq : List Float) (fs carrier : Float) (es : List KeyedElement) (e : KeyedElement)
    → fits_of iq fs carrier (es ++ (e ∷ [])) ≡ fits_of iq fs carrier es ++ if_fitted (fit_of iq fs (carrier ⊘ fs) e)
unfolding fits_of
fits_more iq fs carrier [] e = append-nil (if_fitted (fit_of iq fs (carrier ⊘ fs) e))
fits_more iq fs carrier (d ∷ es) e = rw (fits_more iq fs carrier es e, append_assoc)

pub fits_few : (fitted r k : ℕ) (fit : Option ElementFit) → fitted ≤ k → r ≡ fitted + length (if_fitted fit) → r ≤ k + 1
fits_few fitted r k fit h e = let one = one_fit fit in omega arith

-- A loop over the elements of a list, at place k: before it, a turn of it, and after it.
module _ (iq : List Float) (fs carrier : Float) (l first : List Float) where
  abbrev pub fits_to : ℕ → List ElementFit
  fits_to k = fits_of iq fs carrier (elements_in l k)

  pub fits_none : (0 ≡ length (fits_to 0)) × (first ≡ fits_stored first (fits_to 0))
  unfolding elements_in fits_of firsts stored_by
  fits_none = (refl, refl)

  pub fits_turn : (k fitted r : ℕ) (cur new : List Float) (e : KeyedElement) (fit : Option ElementFit)
      → fitted ≡ length (fits_to k) → cur ≡ fits_stored first (fits_to k) → e ≡ element_at l k → fit ≡ fit_of iq fs (carrier ⊘ fs) e
      → r ≡ fitted + length (if_fitted fit) → new ≡ fits_from cur fitted (if_fitted fit)
      → (r ≡ length (fits_to (k + 1))) × (new ≡ fits_stored first (fits_to (k + 1)))
  unfolding elements_in firsts
  fits_turn k fitted r cur new e fit p q a b h g =
      let more : fits_to (k + 1) ≡ fits_to k ++ if_fitted fit = rw (add-one, fits_more iq fs carrier (elements_in l k) (element_at l k), ← a, ← b) in
      let from : 0 + length (fits_to k) ≡ length (fits_to k) = omega arith in (
        rw (more, h, p) (sym (length-append (fits_to k) (if_fitted fit))),
        rw (more, stored_append FIT fit_from put_fit_from fit_kind first 0 (fits_to k) (if_fitted fit), from, ← p, ← q) g,
      )

  pub fits_done : (n k r : ℕ) (cur : List Float) → FIT * n ≤ length first → r ≡ length (fits_to k) → cur ≡ fits_stored first (fits_to k) → k ≤ n → n ≤ k
      → (r ≡ length (fits_to n)) × (handed_fits cur r ≡ handed FIT (fits_to n) first)
  unfolding elements_in
  fits_done n k r cur room p q h g =
      let all : k ≡ n = omega arith in
      let count = (rw all at p) in
      let few = fitted_few iq fs carrier (elements_in l n) in
      let size = length_firsts (element_at l) n in
      (count, rw (count, rw all at q) (fits_handed first (fits_to n) (omega arith)))
