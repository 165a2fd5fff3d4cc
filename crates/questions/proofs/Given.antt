-- Question 7: the functions that ask it, and what a yes says of the given records. Assumes nothing.
use Prim.Native.Nat.{ℕ, ◌+◌, ◌*◌, ◌/◌, ◌<◌, ◌≤◌}
use native.Mathlib.Numerals.{add-one}
use native.Mathlib.Omega.{arith}
use mathlib.Core.Path.{◌≡◌}
use mathlib.Core.Bool.{Bool, true, false, ◌&&◌}
use mathlib.Core.List.{List}
use lib.Dec.{T, leb}
use lib.ListN.{length}
use lib.Ieee.{Float}
use borrow.Author.Tests.{le-leb, lt-leb, leb-true}
use Rattle.lists.specs.Every.{every}
use Rattle.lists.proofs.Every.{every_at, every_not, every_cong, and_left, and_right}
use Rattle.float.specs.Size.{finite_f, sized}
use Rattle.float.proofs.Compared.{yes}
use Rattle.elements.specs.declared.element.KeyedElement.{KeyedElement}
use Rattle.fits.specs.declared.fit.ElementFit.{ElementFit}
use Rattle.elements.specs.Element.{ELEMENT}
use Rattle.fits.specs.List.{FIT, fit_at}
use Rattle.fits.specs.Inner.{Timed, AllTimed}
use Rattle.questions.specs.Questions.{size_ok, position_ok, element_ok, all_ok, elements_ok, fit_ok, fits_ok, estimate_ok}

-- ---- the look at each given record

module _ (p : ℕ → Bool) where
  pub every_turn : (n : ℕ) → every p n ≡ true → p n ≡ true → every p (n + 1) ≡ true
  every_turn n e f = rw (add-one, e, f)

module _ {A : Type 0} (ok : A → Bool) (at : ℕ → A) where
  pub ok_over : (places count : ℕ) → places < count → false ≡ all_ok ok at places count
  unfolding all_ok
  ok_over places count h = rw (lt-leb count places h)

  pub ok_not : (places count k : ℕ) → count ≤ places → k < count → ok (at k) ≡ false → false ≡ all_ok ok at places count
  unfolding all_ok
  ok_not places count k f h e = rw (le-leb count places f, every_not (λ k. ok (at k)) count k h e)

  pub ok_done : (places count n : ℕ) → count ≤ places → every (λ k. ok (at k)) n ≡ true → n ≡ count → true ≡ all_ok ok at places count
  unfolding all_ok
  ok_done places count n f e q = rw (le-leb count places f, ← q, e)

  -- the records may be told by other means
  pub ok_same : {B : Type 0} (other : B → Bool) (from : ℕ → B) (places count : ℕ) → ((k : ℕ) → k < count → other (from k) ≡ ok (at k)) → all_ok other from places count ≡ all_ok ok at places count
  unfolding all_ok
  ok_same other from places count h = rw (every_cong (λ k. other (from k)) (λ k. ok (at k)) count h)

  -- what a yes says: the count fits, and each record is accepted
  pub all_fit : (places count : ℕ) → all_ok ok at places count ≡ true → count ≤ places
  unfolding all_ok
  all_fit places count h = leb-true count places (and_left (leb count places) (every (λ k. ok (at k)) count) h)

  pub all_at : (places count k : ℕ) → all_ok ok at places count ≡ true → k < count → ok (at k) ≡ true
  unfolding all_ok
  all_at places count k h b = every_at (λ k. ok (at k)) count k b (and_right (leb count places) (every (λ k. ok (at k)) count) h)

-- ---- what the work below requires of given records

size_says : (x : Float) → size_ok x ≡ true → T (sized x)
unfolding size_ok
size_says x h = yes (and_right (finite_f x) (sized x) h)

timed : (e : KeyedElement) → element_ok e ≡ true → Timed e
unfolding element_ok
timed e h =
    let sizes = and_left _ (position_ok e.up) (and_left _ (position_ok e.down) h) in
    record { first = size_says e.start (and_left _ (size_ok e.end) sizes); last = size_says e.end (and_right (size_ok e.start) _ sizes) }

pub all_timed : (l : List Float) (count : ℕ) → elements_ok l count ≡ true → AllTimed l count
all_timed l count h = record { each = λ k b. timed _ (all_at element_ok _ (length l / ELEMENT) count k h b) }

pub elements_fit : (l : List Float) (count : ℕ) → elements_ok l count ≡ true → ELEMENT * count ≤ length l
elements_fit l count h = let most = all_fit element_ok _ (length l / ELEMENT) count h in omega arith

-- a fit whose numbers are of size at most 2^200
pub record SizedFit (f : ElementFit) : Type 0 where
  pub timed : Timed f.element
  pub gain_re : T (sized f.gain.re)
  pub gain_im : T (sized f.gain.im)
  pub slope : T (sized f.slope_rad_per_sample)
  pub reference : T (sized f.ref_sample)

sized_fit : (f : ElementFit) → fit_ok f ≡ true → SizedFit f
unfolding fit_ok
sized_fit f h =
    let fourth = and_left _ (size_ok f.ref_sample) h in
    let third = and_left _ (size_ok f.slope_rad_per_sample) fourth in
    let second = and_left _ (size_ok f.gain.im) third in
    record {
      timed = timed f.element (and_left _ (size_ok f.gain.re) second);
      gain_re = size_says f.gain.re (and_right (element_ok f.element) _ second);
      gain_im = size_says f.gain.im (and_right (element_ok f.element && size_ok f.gain.re) _ third);
      slope = size_says f.slope_rad_per_sample (and_right (element_ok f.element && size_ok f.gain.re && size_ok f.gain.im) _ fourth);
      reference = size_says f.ref_sample (and_right (element_ok f.element && size_ok f.gain.re && size_ok f.gain.im && size_ok f.slope_rad_per_sample) _ h);
    }

pub fit_sized : (l : List Float) (count k : ℕ) → fits_ok l count ≡ true → k < count → SizedFit (fit_at l k)
fit_sized l count k h b = sized_fit _ (all_at fit_ok _ (length l / FIT) count k h b)

pub fits_fit : (l : List Float) (count : ℕ) → fits_ok l count ≡ true → FIT * count ≤ length l
fits_fit l count h = let most = all_fit fit_ok _ (length l / FIT) count h in omega arith

-- an estimate that is accepted
pub record SizedEstimate (carrier step : Float) (elements : List Float) (element_count : ℕ) (fits : List Float) (fit_count : ℕ) : Type 0 where
  pub carrier_sized : T (sized carrier)
  pub step_sized : T (sized step)
  pub all_elements : AllTimed elements element_count
  pub element_room : ELEMENT * element_count ≤ length elements
  pub all_fits : (k : ℕ) → k < fit_count → SizedFit (fit_at fits k)
  pub fit_room : FIT * fit_count ≤ length fits

pub estimate_sized : (carrier step : Float) (elements : List Float) (element_count : ℕ) (fits : List Float) (fit_count : ℕ)
    → estimate_ok carrier step elements element_count fits fit_count ≡ true → SizedEstimate carrier step elements element_count fits fit_count
unfolding estimate_ok
estimate_sized carrier step elements element_count fits fit_count h =
    let third = and_left _ (fits_ok fits fit_count) h in
    let second = and_left _ (elements_ok elements element_count) third in
    let of-elements = and_right (size_ok carrier && size_ok step) _ third in
    let of-fits = and_right (size_ok carrier && size_ok step && elements_ok elements element_count) _ h in
    record {
      carrier_sized = size_says carrier (and_left _ (size_ok step) second);
      step_sized = size_says step (and_right (size_ok carrier) _ second);
      all_elements = all_timed elements element_count of-elements;
      element_room = elements_fit elements element_count of-elements;
      all_fits = λ k b. fit_sized fits fit_count k of-fits b;
      fit_room = fits_fit fits fit_count of-fits;
    }
