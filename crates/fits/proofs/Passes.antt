-- One find and fit: the elements found are listed, counted and timed as the fits ask.
use Prim.Native.Nat.{ℕ, ◌/◌, ◌^◌, ◌≤◌, ◌<◌}
use native.Mathlib.Omega.{arith}
use mathlib.Core.Path.{◌≡◌, sym, ap, ◌∙◌}
use mathlib.Core.List.{List}
use lib.Dec.{T, lit≤}
use lib.ListN.{length, get_or}
use lib.Ieee.{Float, nan, inf, fin}
use Rattle.float.specs.Ops.{◌⊕◌}
use Rattle.float.proofs.Within.{Within, within_more, within_le}
use Rattle.float.proofs.Bounds.{Bounded}
use Rattle.row.specs.Samples.{Singles, Iq}
use Rattle.row.specs.Window.{Rate, step_blocks}
use Rattle.elements.specs.declared.element.KeyedElement.{KeyedElement}
use Rattle.elements.specs.declared.keying.Found.{Found}
use Rattle.lists.specs.Records.{handed}
use Rattle.elements.specs.Element.{ELEMENT, element_at, elements_in, handed_elements}
use Rattle.elements.specs.Find.{found_of, elements_found}
use Rattle.lists.proofs.Firsts.{get_d_firsts}
use Rattle.lists.proofs.Members.{member_at}
use Rattle.elements.proofs.Records.{elements_read}
use Rattle.elements.proofs.Bounds.{found_bounded}
use Rattle.elements.proofs.Recording.{listed_counted, all_counted, enough_places}
use Rattle.float.specs.Size.{sized}
use Rattle.fits.specs.List.{FIT, fits_in, handed_fits, fits_of}
use Rattle.fits.specs.Inner.{AllTimed}
use Rattle.fits.specs.declared.estimate.Estimate.{Estimate}
use Rattle.fits.specs.Carrier.{mean_slope}
use Rattle.fits.specs.Estimate.{fits_found, carrier_step, refined, strong_elements, strong_fits, strong_estimate}
use Rattle.fits.proofs.Fitted.{fitted_few}
use Rattle.fits.proofs.Records.{fits_read}

pub bounded_sized : (x : Float) → Bounded 0 (2 ^ 27) x → T (sized x)
unfolding sized
bounded_sized x b = within_le 200 x (within_more 27 200 x (lit≤ tt) (go x b))
  where
    go : (x : Float) → Bounded 0 (2 ^ 27) x → Within 27 x
    go nan b = b.bound
    go (inf s) b = b.bound
    go (fin s m e) b = b.bound

-- the elements found, as a list hands them out
module _ (iq : List Float) (fs carrier : Float) (l : List Float) (found : Found) (cur : List Float)
    (e : found ≡ found_of iq fs carrier) (p : handed_elements cur found.listed ≡ handed ELEMENT (elements_found iq fs carrier) l) where
  pub listed_few : found.listed ≤ step_blocks iq fs / 2
  listed_few =
      rw e (let all = all_counted iq fs carrier in let most = enough_places iq fs carrier in omega arith)

  pub listed_are : elements_in cur found.listed ≡ elements_found iq fs carrier
  listed_are = elements_read cur l found.listed (elements_found iq fs carrier) p

  pub listed_fits : fits_of iq fs carrier (elements_in cur found.listed) ≡ fits_found iq fs carrier
  unfolding fits_found
  listed_fits = rw listed_are

  pub listed_timed : Iq iq → Rate fs → Singles iq → AllTimed cur found.listed
  unfolding elements_in
  listed_timed lent rate s =
      record {
        each =
            λ k h.
            let d = element_at cur 0 in
            let below : k < length (elements_found iq fs carrier) = (rw (e, listed_counted iq fs carrier) at h) in
            let b = found_bounded iq fs carrier s lent rate _ (member_at (elements_found iq fs carrier) k d below) in
            let here : element_at cur k ≡ get_or (elements_found iq fs carrier) k d =
            sym (get_d_firsts (element_at cur) found.listed k d h) ∙ ap (λ (es : List KeyedElement). get_or es k d) listed_are in
            rw here (record { first = bounded_sized _ b.start_bounded; last = bounded_sized _ b.end_bounded });
      }

-- ---- the estimate
module _ (iq : List Float) (fs : Float) where
  pub fits_few : (carrier : Float) → length (fits_found iq fs carrier) ≤ step_blocks iq fs / 2
  unfolding fits_found
  fits_few carrier =
      let fitted = fitted_few iq fs carrier (elements_found iq fs carrier) in
      let n = listed_counted iq fs carrier in
      let all = all_counted iq fs carrier in
      let most = enough_places iq fs carrier in
      omega arith

  module _ (hint : Float) where
    pub step_is : (l cur : List Float) (count : ℕ) (r : Float) → handed_fits cur count ≡ handed FIT (fits_found iq fs hint) l
        → r ≡ mean_slope fs (fits_in cur count) → r ≡ carrier_step iq fs hint
    unfolding carrier_step
    step_is l cur count r p q = rw (q, fits_read cur l count (fits_found iq fs hint) p)

    pub estimate_is : (step : Float) (found : Found) (fitted : ℕ) (l ls m ms : List Float) → step ≡ carrier_step iq fs hint
        → found ≡ found_of iq fs (hint ⊕ step) → fitted ≡ length (fits_found iq fs (hint ⊕ step))
        → handed_elements ls found.listed ≡ handed ELEMENT (elements_found iq fs (hint ⊕ step)) l
        → handed_fits ms fitted ≡ handed FIT (fits_found iq fs (hint ⊕ step)) m
        → (◌≡◌ {A = Estimate} (record { carrier_hz = hint ⊕ step; carrier_step_hz = step; found = found; fitted = fitted }) (strong_estimate iq fs hint))
        × (handed_elements ls found.listed ≡ handed ELEMENT (strong_elements iq fs hint) l) × (handed_fits ms fitted ≡ handed FIT (strong_fits iq fs hint) m)
    unfolding strong_estimate strong_elements strong_fits refined
    estimate_is step found fitted l ls m ms e f n p q = (rw (f, n, e), rw e at p, rw e at q)
