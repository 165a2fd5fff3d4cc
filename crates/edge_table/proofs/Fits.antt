-- The rows of 01's edge table that speak of fits. Over an interior whose derotated samples are all 1 the sums of the
-- fit are those of known numbers, and these are computed. Assumes nothing.
use Rattle.std.proofs.Common.{Some, None}
use Prim.Native.Nat.{ℕ, zero, suc, ◌+◌, ◌-◌, ◌*◌, ◌/◌, ◌^◌, ◌≤◌, ◌<◌}
use native.Mathlib.Omega.{arith}
use mathlib.Core.Path.{◌≡◌, refl, ap, ◌∙◌}
use mathlib.Core.Bool.{false}
use mathlib.Core.List.{List, [], ◌∷◌}
use borrow.Author.Tests.{le-leb}
use lib.Ieee.{Float, add, sub, mul, div, rem, neg, lt, le, of_int, of_bits, round, to_signed, to_unsigned, eq, is_nan}
use Rattle.float.specs.Ops.{◌⊘◌, of, plus_zero, one, fraction}
use Rattle.float.specs.Compare.{abs_of, max_of}
use Rattle.float.specs.Whole.{floor_of, ceil_of, round_of, whole_by}
use Rattle.float.specs.Root.{sqrt_of}
use Rattle.float.specs.Remainder.{rem_euclid_of}
use Rattle.trig.specs.Consts.{TAU, PI}
use Rattle.trig.specs.Sine.{sine_table}
use Rattle.trig.specs.Circle.{sine_at, within, sin_of, cos_of}
use Rattle.trig.specs.Argument.{arctan_of, arg_of}
use Rattle.trig.specs.Arctan.{arctan_table}
use Rattle.complex.specs.Value.{c_zero, c_add, c_mul, c_norm, c_arg, c_div, c_polar}
use Rattle.complex.specs.Rows.{c_sum}
use Rattle.complex.proofs.RowLaws.{c_sum_cong}
use Rattle.row.specs.Window.{samples}
use Rattle.row.specs.Blocks.{derot, mean_from}
use Rattle.elements.specs.declared.element.KeyedElement.{KeyedElement}
use Rattle.constants.specs.Constants.{RISE_S, MIN_INTERIOR_S, SLOPE_BLOCK_S}
use Rattle.lists.specs.Those.{those}
use Rattle.elements.specs.Find.{elements_found}
use Rattle.interiors.specs.Interior.{inside, lo_of, hi_of, min_len, unfit, interior_of, slope_block}
use Rattle.fits.specs.declared.fit.ElementFit.{ElementFit}
use Rattle.lists.specs.Sums.{f_sum}
use Rattle.interiors.specs.Line.{time_of, line_slope}
use Rattle.interiors.specs.Slope.{slope_mean, phase_on, phase_of, slope_of}
use Rattle.interiors.specs.Gain.{ref_sample_of, hann, tilt_of, gain_sum, hann_sum}
use Rattle.fits.specs.Fit.{fit_inside, fit_within, fit_of}
use Rattle.fits.specs.List.{fits_of, skipped_of}
use Rattle.fits.specs.Estimate.{fits_found}
use Rattle.float.proofs.Literals.{literals}
use Rattle.interiors.proofs.Slopes.{slope_cong}
use Rattle.edge_table.specs.Ones.{is_one, ones_of}
use Rattle.edge_table.specs.Table.{element, unit_fit, Fits}
use Rattle.edge_table.proofs.Ones.{real, length_ones, derot_ones}
use Rattle.edge_table.proofs.Elements.{cycles_3000, rows as found}

-- ---- over an interior whose derotated samples are all 1
mean_two : c_div (c_add (c_add c_zero (real 1)) (real 1)) (of 2) ≡ real 1
unfolding add div of_int of_bits
mean_two = refl

phase_first : c_arg (real 1) ≡ plus_zero
unfolding arg_of arctan_of arctan_table PI abs_of round_of whole_by round eq lt add sub mul div neg of_int of_bits to_unsigned
phase_first = refl

phase_next : phase_on plus_zero (real 1) (real 1) ≡ plus_zero
unfolding arg_of arctan_of arctan_table PI abs_of round_of whole_by round eq lt add sub mul div neg of_int of_bits to_unsigned
phase_next = refl

norm_one : c_norm (real 1) ≡ one
unfolding sqrt_of add mul of_int of_bits round
norm_one = refl

module _ (iq : List Float) (cyc : Float) (i0 len : ℕ) (unit : (j : ℕ) → j < len → derot iq cyc (i0 + j) ≡ real 1) where
  mean_unit : (b : ℕ) → b * 2 + 2 ≤ len → slope_mean iq cyc i0 2 b ≡ real 1
  unfolding slope_mean mean_from c_sum
  mean_unit b h =
      let first : i0 + b * 2 + 0 ≡ i0 + b * 2 = omega arith in
      let second : i0 + b * 2 + 1 ≡ i0 + (b * 2 + 1) = omega arith in
      rw (first, second, unit (b * 2) (omega arith), unit (b * 2 + 1) (omega arith)) mean_two

  phase_unit : (b : ℕ) → b * 2 + 2 ≤ len → phase_of (slope_mean iq cyc i0 2) b ≡ plus_zero
  unfolding phase_of
  phase_unit zero h = rw (mean_unit zero h) phase_first
  phase_unit (suc b) h = rw (phase_unit b (omega arith), mean_unit b (omega arith), mean_unit (suc b) h) phase_next

  slope_unit : slope_of iq cyc i0 len 2 ≡ line_slope (λ b. one) (time_of i0 2) (λ b. plus_zero) (len / 2)
  unfolding slope_of
  slope_unit =
      slope_cong _ (λ b. one) (time_of i0 2) _ (λ b. plus_zero) (len / 2)
      (λ b h. ap c_norm (mean_unit b (omega arith)) ∙ norm_one)
      (λ b h. phase_unit b (omega arith))

  gain_unit : (slope ref : Float) → gain_sum iq cyc i0 len slope ref ≡ c_sum (λ j. c_mul (real 1) (c_polar (hann len j) (tilt_of slope ref (i0 + j)))) 0 len
  unfolding gain_sum
  gain_unit slope ref = c_sum_cong _ _ 0 len (λ j h. ap (λ z. c_mul z (c_polar (hann len j) (tilt_of slope ref (i0 + j)))) (unit j (omega arith)))

pub block_3000 : slope_block (of 3000) ≡ 2
unfolding slope_block SLOPE_BLOCK_S max_of round_of whole_by fraction round mul lt is_nan of_int of_bits to_unsigned
block_3000 = refl

-- what is computed of an interior from i0 on of len samples
record Level (i0 len : ℕ) (ref : Float) : Type 0 where
  middle : ref_sample_of i0 (i0 + len) ≡ ref
  slope : line_slope (λ b. one) (time_of i0 2) (λ b. plus_zero) (len / 2) ≡ plus_zero
  gain : c_div (c_sum (λ j. c_mul (real 1) (c_polar (hann len j) (tilt_of plus_zero ref (i0 + j)))) 0 len) (hann_sum len) ≡ real 1
  weight : le (hann_sum len) plus_zero ≡ false

fit_unit : (iq : List Float) (cyc : Float) (e : KeyedElement) (i0 len : ℕ) (ref : Float) → interior_of (samples iq) (of 3000) e.start e.end ≡ inside i0 (i0 + len) → Level i0 len ref
    → ((j : ℕ) → j < len → derot iq cyc (i0 + j) ≡ real 1) → fit_of iq (of 3000) cyc e ≡ Some (unit_fit e ref)
unfolding fit_of fit_within fit_inside
fit_unit iq cyc e i0 len ref inside level unit =
    let all : i0 + len - i0 ≡ len = omega arith in
    rw (
      inside,
      block_3000,
      all,
      slope_unit iq cyc i0 len unit,
      level.slope,
      level.middle,
      gain_unit iq cyc i0 len unit plus_zero ref,
      level.gain,
      level.weight,
      literals.0,
    )

-- ---- the recordings of the table
ones_unit : (a e n k : ℕ) → n ≤ 2 ^ 20 → k < n → a ≤ k → k ≤ e → derot (ones_of a e n) (of 0) k ≡ real 1
unfolding is_one
ones_unit a e n k few h low high = derot_ones a e n few k h ∙ rw (le-leb a k low, le-leb k e high)

-- an element of the ones at a..e of 300
element_unit : (a e i0 len : ℕ) (el : KeyedElement) (ref : Float) → interior_of 300 (of 3000) el.start el.end ≡ inside i0 (i0 + len) → Level i0 len ref → a ≤ i0 → i0 + len ≤ suc e → i0 + len ≤ 300
    → fit_of (ones_of a e 300) (of 3000) (of 0 ⊘ of 3000) el ≡ Some (unit_fit el ref)
element_unit a e i0 len el ref inside level low high short =
    let size : samples (ones_of a e 300) ≡ 300 = rw (length_ones a e 300) in
    rw cycles_3000
    (fit_unit (ones_of a e 300) (of 0) el i0 len ref (rw size inside) level
    (λ j h. ones_unit a e 300 (i0 + j) (omega arith) (omega arith) (omega arith) (omega arith)))

-- ---- ones at 100..199, 100..160 and 100..159 of 300
abbrev ones : ℕ → List Float
ones e = ones_of 100 e 300

-- the elements found in them
abbrev to_199 : KeyedElement
to_199 = element (fraction 995 10) (fraction 1995 10) 96 197

abbrev to_160 : KeyedElement
to_160 = element (fraction 995 10) (fraction 1605 10) 96 158

abbrev to_159 : KeyedElement
to_159 = element (fraction 995 10) (fraction 1595 10) 96 157

interiors : (interior_of 300 (of 3000) (fraction 995 10) (fraction 1995 10) ≡ inside 115 184)
    × (interior_of 300 (of 3000) (fraction 995 10) (fraction 1605 10) ≡ inside 115 145)
    × (interior_of 300 (of 3000) (fraction 995 10) (fraction 1595 10) ≡ None)
unfolding interior_of unfit lo_of hi_of min_len RISE_S MIN_INTERIOR_S floor_of ceil_of whole_by fraction round add sub mul lt of_int of_bits to_unsigned
interiors = (refl, refl, refl)

level_69 : Level 115 69 (of 149)
unfolding ref_sample_of line_slope c_sum tilt_of rem_euclid_of rem sin_of hann_sum f_sum hann cos_of sine_at within sine_table PI TAU abs_of round_of whole_by fraction round add sub mul div neg le lt eq of_int of_bits to_signed
level_69 = record { middle = refl; slope = refl; gain = refl; weight = refl }

level_30 : Level 115 30 (fraction 1295 10)
unfolding ref_sample_of line_slope c_sum tilt_of rem_euclid_of rem sin_of hann_sum f_sum hann cos_of sine_at within sine_table PI TAU abs_of round_of whole_by fraction round add sub mul div neg le lt eq of_int of_bits to_signed
level_30 = record { middle = refl; slope = refl; gain = refl; weight = refl }

outside_60 : fit_of (ones 159) (of 3000) (of 0 ⊘ of 3000) to_159 ≡ None
unfolding fit_of fit_within
outside_60 = let size : samples (ones 159) ≡ 300 = rw (length_ones 100 159 300) in rw (size, interiors.2)

-- of the one element found
one_fit : (e : ℕ) (el : KeyedElement) (f : ElementFit) → elements_found (ones e) (of 3000) (of 0) ≡ (el ∷ []) → fit_of (ones e) (of 3000) (of 0 ⊘ of 3000) el ≡ Some f → Fits (ones e) (f ∷ []) []
unfolding fits_found fits_of skipped_of those
one_fit e el f found fit = (rw (found, fit), rw (found, fit))

no_fit : (e : ℕ) (el : KeyedElement) → elements_found (ones e) (of 3000) (of 0) ≡ (el ∷ []) → fit_of (ones e) (of 3000) (of 0 ⊘ of 3000) el ≡ None → Fits (ones e) [] (el ∷ [])
unfolding fits_found fits_of skipped_of those
no_fit e el found fit = (rw (found, fit), rw (found, fit))

pub fitted_100 : Fits (ones 199) (unit_fit to_199 (of 149) ∷ []) []
fitted_100 =
    one_fit 199 to_199 (unit_fit to_199 (of 149)) found.ones_100_199.1
    (element_unit 100 199 115 69 to_199 (of 149) interiors.0 level_69 (omega arith) (omega arith) (omega arith))

pub fitted_61 : Fits (ones 160) (unit_fit to_160 (fraction 1295 10) ∷ []) []
fitted_61 =
    one_fit 160 to_160 (unit_fit to_160 (fraction 1295 10)) found.ones_61.1
    (element_unit 100 160 115 30 to_160 (fraction 1295 10) interiors.1 level_30 (omega arith) (omega arith) (omega arith))

pub skipped_60 : Fits (ones 159) [] (to_159 ∷ [])
skipped_60 = no_fit 159 to_159 found.ones_60.1 outside_60
