-- 01's edge table, as one record: a field is a row, in 01's order and under 01's words. The rows speak of the
-- definitions that the contracts of the calls cite. `of n` is the whole number n as an f64, `fraction a c` the f64
-- nearest to a / c, and a..e includes e. Proved by `edge_table` of proofs/Table.antt. Definitions only.
use Rattle.std.specs.Prelude.{ℕ, ◌^◌, ◌<◌, ◌≡◌, Bool, false, ◌&&◌, ◌||◌, cond, List, [], ◌∷◌, map, leb, Float, Some}
use Rattle.std.specs.declared.option.Option.{Option}
use Rattle.std.specs.Float.{inf}
use Rattle.std.specs.Float.Ieee.{neg}
use Rattle.float.specs.Ops.{◌⊗◌, of, fraction}
use Rattle.float.specs.Whole.{round_of}
use Rattle.float.specs.Remainder.{rem_euclid_of}
use Rattle.trig.specs.Circle.{sin_of, cos_of}
use Rattle.constants.specs.Constants.{SLOPE_BLOCK_S}
use Rattle.complex.specs.Value.{c_new}
use Rattle.row.specs.Window.{step_of, window_of}
use Rattle.rank.specs.Select.{rank_of}
use Rattle.elements.specs.declared.element.KeyedElement.{KeyedElement}
use Rattle.elements.specs.declared.keying.Found.{Found}
use Rattle.elements.specs.Find.{found_of, elements_found}
use Rattle.fits.specs.declared.fit.ElementFit.{ElementFit}
use Rattle.interiors.specs.Interior.{slope_block}
use Rattle.fits.specs.List.{skipped_of}
use Rattle.fits.specs.Estimate.{fits_found}
use Rattle.synth.specs.Span.{span_of}
use Rattle.classes.specs.declared.class.BlockClass.{BlockClass}
use Rattle.classes.specs.declared.class.BlockClass.TheVariants.{Edge, Interior, Gap, Other}
use Rattle.classes.specs.Classify.{blocks_of, class_of, counts_of}
use Rattle.measure.specs.declared.evidence.SecondCarrierEvidence.{SecondCarrierEvidence}
use Rattle.measure.specs.declared.hypothesis.Hypothesis.TheVariants.{OneSignal, TwoSignalCw, Unresolved}
use Rattle.measure.specs.Hypothesis.{hypothesis_of}
use Rattle.measure.specs.Residual.{residual_check_of, clean_of}
use Rattle.edge_table.specs.Ones.{ones_of, ones_from}

-- fs 3,000, carrier 0
abbrev pub fs : Float
fs = of 3000

abbrev pub carrier : Float
carrier = of 0

-- ---- what is found, fitted and skipped in a recording

-- the counts of key-downs, listed and short, and the airtime in samples
abbrev pub tally : ℕ → ℕ → ℕ → ℕ → Found
tally key_downs listed short air = record { key_downs = key_downs; listed = listed; short = short; airtime = air }

-- an element's times, and the positions of its crossings in the row
abbrev pub element : Float → Float → ℕ → ℕ → KeyedElement
element start end up down = record { start = start; end = end; up = of up; down = of down }

-- gain (1, 0), slope 0
abbrev pub unit_fit : KeyedElement → Float → ElementFit
unit_fit e ref = record { element = e; gain = c_new (of 1) (of 0); slope_rad_per_sample = of 0; ref_sample = ref }

abbrev pub Finds : List Float → Found → List KeyedElement → Type 0
Finds iq found elements = (found_of iq fs carrier ≡ found) × (elements_found iq fs carrier ≡ elements)

-- the fits of the elements found, and those of them that are skipped
abbrev pub Fits : List Float → List ElementFit → List KeyedElement → Type 0
Fits iq fits skipped = (fits_found iq fs carrier ≡ fits) × (skipped_of iq fs carrier (elements_found iq fs carrier) ≡ skipped)

-- ---- the classes of 375 blocks

-- whether b is one of a..e
abbrev pub among : ℕ → ℕ → ℕ → Bool
among a e b = leb a b && leb b e

abbrev pub tabled : ℕ → BlockClass
tabled b =
    cond (among 187 187 b || among 199 200 b) Edge
    (cond (among 191 195 b) Interior (cond (among 75 181 b || among 206 299 b) Gap Other))

-- the class of each block, and how many blocks end in each class
abbrev pub Classes : List ElementFit → List KeyedElement → Type 0
Classes fits elements =
    ((b : ℕ) → b < 375 → class_of fs 3000 fits elements b ≡ tabled b)
    × (counts_of (class_of fs 3000 fits elements) 375 ≡ record { edge = 3; interior = 5; gap = 201; other = 166 })

-- ---- evidence
abbrev pub evidence : ℕ → Float → Option Float → Float → SecondCarrierEvidence
evidence gaps hot offset coherence =
    record { gap_blocks = gaps; hot_fraction = hot; offset_hz = offset; coherence = coherence }

pub record EdgeTable : Type 0 where
  -- step 1, window 8
  pub step : step_of fs ≡ 1
  pub window : window_of fs ≡ 8
  -- slope block round(1.5) = 2; round(−2.5) = −3
  pub slope_block_is : (SLOPE_BLOCK_S ⊗ fs ≡ fraction 3 2) × (round_of (fraction 3 2) ≡ of 2) × (slope_block fs ≡ 2)
  pub round_away : round_of (neg (fraction 5 2)) ≡ neg (of 3)
  -- rem_euclid(−2^−60, 1) = 1.0; sin 0 = 0, cos 0 = 1
  pub remainder : rem_euclid_of (neg (fraction 1 (2 ^ 60))) (of 1) ≡ of 1
  pub sine : sin_of (of 0) ≡ of 0
  pub cosine : cos_of (of 0) ≡ of 1
  -- Rank at p = 0.5: 2 for four values, 2 for five.
  pub rank_of_four : rank_of 4 (fraction 1 2) ≡ 2
  pub rank_of_five : rank_of 5 (fraction 1 2) ≡ 2
  -- Ones at 100..199 of 300: times 99.5 and 199.5;
  pub times : Finds (ones_of 100 199 300) (tally 1 1 0 101) (element (fraction 995 10) (fraction 1995 10) 96 197 ∷ [])
  -- gain (1, 0), slope 0, reference 149;
  pub gain : Fits (ones_of 100 199 300) (unit_fit (element (fraction 995 10) (fraction 1995 10) 96 197) (of 149) ∷ []) []
  -- span 69 up to, not including, 230.
  pub span : map (span_of fs 300) (fits_found (ones_of 100 199 300) fs carrier) ≡ (record { lo = 69; hi = 230 } ∷ [])
  -- Ones at 40..54 of 107: listed. At 40..53: short.
  pub listed : Finds (ones_of 40 54 107) (tally 1 1 0 16) (element (fraction 395 10) (fraction 545 10) 36 52 ∷ [])
  pub short : Finds (ones_of 40 53 107) (tally 1 0 1 0) []
  -- Of 300, ones from 100: 61 of them are fitted, 60 skipped. Both are listed.
  pub listed_61 : Finds (ones_from 100 61 300) (tally 1 1 0 62) (element (fraction 995 10) (fraction 1605 10) 96 158 ∷ [])
  pub fitted_61 : Fits (ones_from 100 61 300) (unit_fit (element (fraction 995 10) (fraction 1605 10) 96 158) (fraction 1295 10) ∷ []) []
  pub listed_60 : Finds (ones_from 100 60 300) (tally 1 1 0 61) (element (fraction 995 10) (fraction 1595 10) 96 157 ∷ [])
  pub skipped_60 : Fits (ones_from 100 60 300) [] (element (fraction 995 10) (fraction 1595 10) 96 157 ∷ [])
  -- n = 3,000, one fit at 1499.5 to 1599.5: edge 187, 199, 200; interior 191..195; gap 75..181 and 206..299; other 166
  -- blocks. With no element beside the fit, and with the fit's own.
  pub blocks : blocks_of fs 3000 ≡ 375
  pub classes : (f : ElementFit) → f.element.start ≡ fraction 14995 10 → f.element.end ≡ fraction 15995 10
      → Classes (f ∷ []) [] × Classes (f ∷ []) (f.element ∷ [])
  -- Hot 0.15 or 0.75 with coherence 0.8 and offset 10 or −150: TwoSignalCw.
  pub two_signals : (gaps : ℕ)
      → (hypothesis_of (evidence gaps (fraction 15 100) (Some (of 10)) (fraction 8 10)) ≡ TwoSignalCw (of 10))
      × (hypothesis_of (evidence gaps (fraction 15 100) (Some (neg (of 150))) (fraction 8 10)) ≡ TwoSignalCw (neg (of 150)))
      × (hypothesis_of (evidence gaps (fraction 75 100) (Some (of 10)) (fraction 8 10)) ≡ TwoSignalCw (of 10))
      × (hypothesis_of (evidence gaps (fraction 75 100) (Some (neg (of 150))) (fraction 8 10)) ≡ TwoSignalCw (neg (of 150)))
  -- Hot 0.14: OneSignal, whatever the rest.
  pub one_signal : (gaps : ℕ) (offset : Option Float) (coherence : Float) → hypothesis_of (evidence gaps (fraction 14 100) offset coherence) ≡ OneSignal
  -- Offset 9: Unresolved.
  pub unresolved : (gaps : ℕ)
      → (hypothesis_of (evidence gaps (fraction 15 100) (Some (of 9)) (fraction 8 10)) ≡ Unresolved)
      × (hypothesis_of (evidence gaps (fraction 75 100) (Some (of 9)) (fraction 8 10)) ≡ Unresolved)
  -- Edge blocks empty: ratio +∞, not clean. Of every recording and estimate, at any rate.
  pub no_edge_blocks : (iq : List Float) (rate hz : Float) (fits : List ElementFit) (elements : List KeyedElement)
      → (residual_check_of iq rate hz fits elements).edge_blocks ≡ 0
      → ((residual_check_of iq rate hz fits elements).edge_over_neighbour_db ≡ inf false) × (clean_of (residual_check_of iq rate hz fits elements) ≡ false)
