-- The class of a block depends on the block, the rate, the number of samples and the times alone.
use Prim.Native.Nat.{ℕ, zero, suc, ◌<◌}
use native.Mathlib.Omega.{arith}
use mathlib.Core.Path.{◌≡◌, refl}
use mathlib.Core.List.{List, [], ◌∷◌, map, map-append}
use lib.Ieee.{Float}
use Rattle.lists.specs.Firsts.{firsts}
use Rattle.elements.specs.declared.element.KeyedElement.{KeyedElement}
use Rattle.elements.specs.Element.{element_at, elements_in}
use Rattle.fits.specs.declared.fit.ElementFit.{ElementFit}
use Rattle.fits.specs.List.{fit_at, fits_in}
use Rattle.classes.specs.Classify.{Times, times_of, times_of_fit, class_of}

-- Two estimates with the same times give every block the same class, whatever their positions, gains, slopes and
-- references are.
pub class_by_times : (fs : Float) (n b : ℕ) (fits fits' : List ElementFit) (elements elements' : List KeyedElement)
    → map times_of_fit fits ≡ map times_of_fit fits' → map times_of elements ≡ map times_of elements'
    → class_of fs n fits elements b ≡ class_of fs n fits' elements' b
class_by_times fs n b fits fits' elements elements' e f = rw (e, f)

-- the same of two pairs of lent lists, place by place
firsts_times : {A : Type 0} (times : A → Times) (f g : ℕ → A) (n : ℕ) → ((k : ℕ) → k < n → times (f k) ≡ times (g k)) → map times (firsts f n) ≡ map times (firsts g n)
unfolding firsts
firsts_times times f g zero h = refl
firsts_times times f g (suc n) h =
    rw (map-append times (firsts f n) (f n ∷ []), map-append times (firsts g n) (g n ∷ []), firsts_times times f g n (λ k b. h k (omega arith)), h n (omega arith))

pub class_by_places : (fs : Float) (n b : ℕ) (fits fits' elements elements' : List Float) (fitted found : ℕ)
    → ((k : ℕ) → k < fitted → times_of_fit (fit_at fits k) ≡ times_of_fit (fit_at fits' k)) → ((k : ℕ) → k < found → times_of (element_at elements k) ≡ times_of (element_at elements' k))
    → class_of fs n (fits_in fits fitted) (elements_in elements found) b ≡ class_of fs n (fits_in fits' fitted) (elements_in elements' found) b
unfolding fits_in elements_in
class_by_places fs n b fits fits' elements elements' fitted found e f =
    class_by_times fs n b (firsts (fit_at fits) fitted) (firsts (fit_at fits') fitted) (firsts (element_at elements) found) (firsts (element_at elements') found)
    (firsts_times times_of_fit (fit_at fits) (fit_at fits') fitted e) (firsts_times times_of (element_at elements) (element_at elements') found f)
