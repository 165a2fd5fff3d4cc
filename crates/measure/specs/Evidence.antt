-- The evidence of a second carrier in the gaps of a strong sender (01, part 6: `second_carrier_evidence`).
-- Definitions only.
use Rattle.std.specs.Prelude.{ℕ, Bool, cond, List, eqb, Float}
use Rattle.std.specs.Float.Ieee.{lt}
use Rattle.float.specs.Ops.{◌⊘◌, of, plus_zero}
use Rattle.complex.specs.declared.value.Complex.{Complex}
use Rattle.complex.specs.Value.{c_norm}
use Rattle.row.specs.Window.{window_of, samples, blocks}
use Rattle.elements.specs.declared.element.KeyedElement.{KeyedElement}
use Rattle.fits.specs.declared.fit.ElementFit.{ElementFit}
use Rattle.classes.specs.declared.class.BlockClass.{BlockClass}
use Rattle.classes.specs.declared.class.BlockClass.TheVariants.{Gap, Interior}
use Rattle.classes.specs.Class.{is_class}
use Rattle.classes.specs.Classify.{class_of}
use Rattle.gaps.specs.declared.pairs.Gaps.{Gaps}
use Rattle.gaps.specs.declared.pairs.Pairs.{Pairs}
use Rattle.measure.specs.declared.evidence.SecondCarrierEvidence.{SecondCarrierEvidence}
use Rattle.gaps.specs.Reference.{mean_at, reference_by}
use Rattle.gaps.specs.Pairs.{gaps_of, strong, pairs_of, pair_blocks}
use Rattle.measure.specs.Offset.{offset_from}

-- the blocks of a class
abbrev pub is_in : BlockClass → (ℕ → BlockClass) → ℕ → Bool
is_in c class b = is_class c (class b)

-- `hot_fraction`: the share of hot blocks among the gap blocks, 0 without any
unfoldable pub hot_fraction_of : Gaps → Float
hot_fraction_of g = cond (eqb g.blocks 0) plus_zero (of g.hot ⊘ of g.blocks)

-- `coherence`: |Σz| / Σ|z| of the pairs' products, 0 where there is nothing to divide by
unfoldable pub coherence_of : Pairs → Float
coherence_of p = cond (lt plus_zero p.size) (c_norm p.sum ⊘ p.size) plus_zero

-- Of so many blocks with the means z at the carrier: `gap` and `interior` tell those of these classes, and `mean c` is
-- the row of block means at the carrier c.
module _ (mean : Float → ℕ → Complex) (fs carrier : Float) (gap : ℕ → Bool) where
  -- the evidence against a reference
  unfoldable pub evidence_with : (ℕ → Complex) → ℕ → Float → SecondCarrierEvidence
  evidence_with z blocks ref =
      let gaps = gaps_of gap z ref blocks in
      let s = strong gap z ref in
      let pairs = pairs_of s z blocks in
      record {
        gap_blocks = gaps.blocks;
        hot_fraction = hot_fraction_of gaps;
        offset_hz = offset_from mean carrier (fs ⊘ of (window_of fs)) pairs (pair_blocks s blocks);
        coherence = coherence_of pairs;
      }

  -- against the reference that is measured
  unfoldable pub evidence_by : (ℕ → Bool) → (ℕ → Complex) → ℕ → SecondCarrierEvidence
  evidence_by interior z blocks = evidence_with z blocks (reference_by mean carrier gap interior z blocks)

-- of a recording at a rate and a carrier, by the class of each of its blocks
module _ (iq : List Float) (fs : Float) where
  module _ (carrier : Float) (class : ℕ → BlockClass) (blocks : ℕ) where
    unfoldable pub reference_of : Float
    reference_of = reference_by (mean_at iq fs) carrier (is_in Gap class) (is_in Interior class) (mean_at iq fs carrier) blocks

    unfoldable pub evidence_of : SecondCarrierEvidence
    evidence_of = evidence_by (mean_at iq fs) fs carrier (is_in Gap class) (is_in Interior class) (mean_at iq fs carrier) blocks

-- `second_carrier_evidence`, of a recording at a rate and an estimate: its carrier, fits and elements
abbrev pub evidence_check_of : List Float → Float → Float → List ElementFit → List KeyedElement → SecondCarrierEvidence
evidence_check_of iq fs carrier fits elements = evidence_of iq fs carrier (class_of fs (samples iq) fits elements) (blocks iq (window_of fs))
