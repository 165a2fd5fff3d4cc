-- Which elements get a fit. `fits_are`: the fits are of the elements of the list that get one, in order, each once.
-- `fit_is`: each fit is the fit of its element. `skipped_are`: the others are skipped, and `fitted_or_skipped` says
-- how many, so that skipped = listed − fitted. Assumes nothing.
use Rattle.std.proofs.Common.{Some, None}
use Rattle.std.specs.declared.option.Option.{Option}
use Prim.Native.Nat.{ℕ, ◌+◌, ◌-◌, ◌≤◌}
use native.Mathlib.Omega.{arith}
use mathlib.Core.Path.{◌≡◌, refl, sym, ap, ◌∙◌}
use mathlib.Core.Bool.{Bool, true, false, not, cond, false≢true}
use mathlib.Core.Logic.{⊎_elim, ◌↔◌}
use mathlib.Core.List.Memᴰ
use mathlib.Core.List.{List, [], ◌∷◌, ◌++◌, map, Memᴰ}
use lib.ListN.{length, length-map}
use lib.Ieee.{Float, le}
use Rattle.float.specs.Ops.{◌⊘◌, plus_zero}
use Rattle.lists.specs.Those.{those}
use Rattle.lists.proofs.Members.{those_are, those_others}
use Rattle.row.specs.Window.{samples}
use Rattle.elements.specs.declared.element.KeyedElement.{KeyedElement}
use Rattle.row.specs.declared.span.Span.{Span}
use Rattle.fits.specs.declared.fit.ElementFit.{ElementFit}
use Rattle.interiors.specs.Interior.{interior_of, slope_block}
use Rattle.interiors.specs.Gain.{hann_sum}
use Rattle.fits.specs.Fit.{fit_inside, fit_within, fit_of}
use Rattle.fits.specs.List.{if_fitted, fits_of, is_skipped, skipped_of}

-- at most one fit is kept of an element
pub one_fit : (fit : Option ElementFit) → length (if_fitted fit) ≤ 1
one_fit (Some f) = omega arith
one_fit None = omega arith

-- ---- a fit is of its element
inside_element : (iq : List Float) (cyc : Float) (block : ℕ) (e : KeyedElement) (i0 i1 : ℕ) (f : ElementFit) → fit_inside iq cyc block e i0 i1 ≡ Some f → f.element ≡ e
unfolding fit_inside
inside_element iq cyc block e i0 i1 f = go (le (hann_sum (i1 - i0)) plus_zero) _ refl
  where
    go : (b : Bool) (g : ElementFit) → g.element ≡ e → cond b None (Some g) ≡ Some f → f.element ≡ e
    go true g h q = cc
    go false g h q = let same : g ≡ f = cc in ap (λ x. x.element) (sym same) ∙ h

pub fit_element : (iq : List Float) (fs cyc : Float) (e : KeyedElement) (f : ElementFit) → fit_of iq fs cyc e ≡ Some f → f.element ≡ e
unfolding fit_of fit_within
fit_element iq fs cyc e f q = go (interior_of (samples iq) fs e.start e.end) q
  where
    go : (i : Option Span) → fit_within iq cyc (slope_block fs) e i ≡ Some f → f.element ≡ e
    go (Some i) q = inside_element iq cyc (slope_block fs) e i.lo i.hi f q
    go None q = cc

-- ---- of a list of elements
module _ (iq : List Float) (fs carrier : Float) where
  -- what `fit_elements` has for an element
  abbrev fit : KeyedElement → Option ElementFit
  fit e = fit_of iq fs (carrier ⊘ fs) e

  pub fits_are : (es : List KeyedElement) → map (λ f. f.element) (fits_of iq fs carrier es) ≡ those (λ e. not (is_skipped (fit_of iq fs (carrier ⊘ fs) e))) es
  unfolding fits_of those
  fits_are [] = refl
  fits_are (e ∷ es) = go (fit e) refl (fits_are es)
    where
      go : (r : Option ElementFit) → fit e ≡ r → map (λ f. f.element) (fits_of iq fs carrier es) ≡ those (λ d. not (is_skipped (fit d))) es
          → map (λ f. f.element) (if_fitted r ++ fits_of iq fs carrier es) ≡ cond (not (is_skipped r)) (e ∷ those (λ d. not (is_skipped (fit d))) es) (those (λ d. not (is_skipped (fit d))) es)
      go (Some f) q rest = rw (fit_element iq fs (carrier ⊘ fs) e f q, rest)
      go None q rest = rest

  pub fit_is : (es : List KeyedElement) (f : ElementFit) → Memᴰ f (fits_of iq fs carrier es) → fit_of iq fs (carrier ⊘ fs) f.element ≡ Some f
  unfolding fits_of
  fit_is [] f m = absurd (Memᴰ.not-nil m)
  fit_is (e ∷ es) f m = ⊎_elim (λ here. one (fit e) refl here) (λ there. fit_is es f there) (Memᴰ.append_cases (if_fitted (fit e)) m)
    where
      one : (r : Option ElementFit) → fit e ≡ r → Memᴰ f (if_fitted r) → fit f.element ≡ Some f
      one (Some g) q m =
          let same : f ≡ g = Memᴰ.eq_of_singleton m in
          ap fit (ap (λ x. x.element) same ∙ fit_element iq fs (carrier ⊘ fs) e g q) ∙ q ∙ ap Some (sym same)
      one None q m = absurd (Memᴰ.not-nil m)

  is_skipped_lem : (r : Option ElementFit) → is_skipped r ≡ true → r ≡ None
  is_skipped_lem (Some f) h = absurd (false≢true h)
  is_skipped_lem None h = refl

  pub skipped_are : (es : List KeyedElement) (e : KeyedElement) → Memᴰ e (skipped_of iq fs carrier es) ↔ (Memᴰ e es × (fit_of iq fs (carrier ⊘ fs) e ≡ None))
  unfolding skipped_of
  skipped_are es e =
      let are = those_are (λ d. is_skipped (fit d)) es e in
      (λ m. let h = are.0 m in (h.0, is_skipped_lem (fit e) h.1), λ h. are.1 (h.0, ap is_skipped h.1))

  pub fitted_or_skipped : (es : List KeyedElement) → length (fits_of iq fs carrier es) + length (skipped_of iq fs carrier es) ≡ length es
  unfolding skipped_of
  fitted_or_skipped es =
      let all = those_others (λ e. is_skipped (fit e)) es in
      let same = ap length (fits_are es) in
      let size = length-map (fits_of iq fs carrier es) (λ f. f.element) in
      omega arith

  -- fitted is at most listed
  pub fitted_few : (es : List KeyedElement) → length (fits_of iq fs carrier es) ≤ length es
  fitted_few es = let all = fitted_or_skipped es in omega arith
