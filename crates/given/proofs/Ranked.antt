-- The powers that the two measures rank at a given estimate: each is finite, from 0 and no −0.0, so that `total_cmp`
-- order is the order of the values. `promise` and `singles` are what the call ensures where it answers `Ok`;
-- `singles` says that each number of the recording is an f32. At most 2 ^ 40 given fits are asked for, 64 TiB of them.
-- Assumes nothing.
use Prim.Native.Nat.{ℕ, ◌^◌, ◌≤◌, ◌<◌}
use native.Mathlib.Omega.{arith}
use mathlib.Core.Path.{◌≡◌}
use mathlib.Core.List.{List}
use lib.ListN.{length, get_or}
use lib.Ieee.{Float, nan}
use Rattle.float.specs.Ops.{◌⊘◌}
use Rattle.float.proofs.Amounts.{Amount}
use Rattle.lists.proofs.Firsts.{length_firsts}
use Rattle.row.specs.Samples.{Singles}
use Rattle.row.specs.Window.{window_of, samples, blocks}
use Rattle.row.specs.Blocks.{block_mean}
use Rattle.rank.proofs.Sorted.{every_at}
use Rattle.elements.specs.Element.{elements_in}
use Rattle.fits.specs.List.{fit_at, fits_in}
use Rattle.classes.specs.declared.class.BlockClass.{BlockClass}
use Rattle.classes.specs.declared.class.BlockClass.TheVariants.{Interior, Gap}
use Rattle.classes.specs.Classify.{class_of}
use Rattle.prepared.specs.Powers.{powers_of}
use Rattle.prepared.specs.Left.{residual_mean}
use Rattle.gaps.specs.Reference.{mean_at, side_of}
use Rattle.measure.specs.declared.residual.ResidualCheck.{ResidualCheck}
use Rattle.measure.specs.declared.evidence.SecondCarrierEvidence.{SecondCarrierEvidence}
use Rattle.measure.specs.Evidence.{is_in}
use Rattle.measure.proofs.Bounds.{gain_sized, gains_of, Plain, amount_plain, left_powers}
use Rattle.measure.proofs.Levels.{powers_amounts, side_amounts}
use Rattle.questions.proofs.Calls.{accepted_by}
use Rattle.std.specs.Prelude.{Ok}
use Rattle.given.specs.Residual.{residual_rule, residual_outcome}
use Rattle.given.specs.Evidence.{evidence_rule, evidence_outcome}
use Rattle.given.proofs.MeasuresAccepted.{MeasureAccepted, measure_accepted}

module _ (iq : List Float) (fs hz step : Float) (elements : List Float) (element_count : ℕ) (fits : List Float) (fit_count : ℕ) (work work-after : List Float)
    (singles : Singles iq) where
  -- the class of each block, and how many blocks there are
  abbrev class : ℕ → BlockClass
  class = class_of fs (samples iq) (fits_in fits fit_count) (elements_in elements element_count)

  abbrev block_count : ℕ
  block_count = blocks iq (window_of fs)

  -- ---- residual_check: what is left of the blocks of a class
  abbrev left : BlockClass → List Float
  left c = powers_of c class (residual_mean fs block_count (fits_in fits fit_count) (block_mean iq (hz ⊘ fs) (window_of fs))) block_count

  module _ (few : fit_count ≤ 2 ^ 40) where
    left_plain : MeasureAccepted iq fs hz step elements element_count fits fit_count (length work) → (c : BlockClass) (i : ℕ) → i < length (left c) → Plain (get_or (left c) i nan)
    unfolding fits_in
    left_plain known c i h =
        let gains = gains_of fits fit_count (λ k b. gain_sized (fit_at fits k) (known.given.all_fits k b).gain_re (known.given.all_fits k b).gain_im) in
        let counted = length_firsts (fit_at fits) fit_count in
        amount_plain (get_or (left c) i nan)
        (left_powers iq fs (hz ⊘ fs) (fits_in fits fit_count) singles known.iq_ok known.rate_ok_lem gains (omega arith) class c i h)

    pub residual_ranked : (r : ResidualCheck) → residual_outcome (Ok r) work-after ≡ residual_rule iq fs hz step elements element_count fits fit_count work
        → (c : BlockClass) (i : ℕ) → i < length (left c) → Plain (get_or (left c) i nan)
    unfolding residual_rule
    residual_ranked r promise = left_plain (measure_accepted iq fs hz step elements element_count fits fit_count (length work) (accepted_by _ _ _ _ promise).0)

  -- ---- second_carrier_evidence: the gap blocks beside the carrier, and the interior blocks at it
  abbrev side : List Float
  side = side_of (mean_at iq fs) hz (is_in Gap class) block_count

  abbrev interior : List Float
  interior = powers_of Interior class (mean_at iq fs hz) block_count

  pub evidence_ranked : (r : SecondCarrierEvidence) → evidence_outcome (Ok r) work-after ≡ evidence_rule iq fs hz step elements element_count fits fit_count work
      → ((i : ℕ) → i < length side → Plain (get_or side i nan)) × ((i : ℕ) → i < length interior → Plain (get_or interior i nan))
  unfolding evidence_rule
  evidence_ranked r promise =
      let known = measure_accepted iq fs hz step elements element_count fits fit_count (length work) (accepted_by _ _ _ _ promise).0 in (
        λ i h. amount_plain (get_or side i nan) (every_at Amount side (side_amounts iq fs singles known.iq_ok (is_in Gap class) block_count (omega arith) hz) i h),
        λ i h. amount_plain (get_or interior i nan) (every_at Amount interior (powers_amounts iq fs singles known.iq_ok (is_in Interior class) block_count (omega arith) hz) i h),
      )
