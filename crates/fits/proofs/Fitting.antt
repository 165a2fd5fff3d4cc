-- The ways out of the fit of one element.
use Rattle.fits.specs.declared.fit.ElementFit.{ElementFit}
use Rattle.std.proofs.Common.{Some, None}
use Rattle.std.specs.declared.option.Option.{Option}
use Prim.Native.Nat.{ℕ, ◌+◌, ◌-◌, ◌*◌, ◌/◌, ◌^◌, ◌≤◌, ◌<◌}
use native.Mathlib.Nat.{le_trans, sub-le, mul-le-mul}
use native.Mathlib.Omega.{arith}
use mathlib.Core.Path.{◌≡◌}
use mathlib.Core.Bool.{true, false}
use mathlib.Core.List.{List}
use lib.ListN.{length}
use lib.Ieee.{Float, le}
use lib.Ieee.Nearest.{div_mono}
use Rattle.float.specs.Ops.{◌⊘◌, of, plus_zero, two}
use Rattle.complex.specs.declared.value.Complex.{Complex}
use Rattle.complex.specs.Value.{c_div}
use Rattle.row.specs.Samples.{Iq}
use Rattle.row.specs.Window.{Rate, samples, step_of, step_blocks}
use Rattle.row.proofs.Steps.{step_low}
use Rattle.elements.specs.declared.element.KeyedElement.{KeyedElement}
use Rattle.interiors.specs.Interior.{inside, interior_of, slope_block}
use Rattle.interiors.specs.Slope.{slope_of}
use Rattle.interiors.specs.Gain.{ref_sample_of, gain_sum, hann_sum}
use Rattle.fits.specs.Fit.{fit_inside, fit_within, fit_of}
use Rattle.fits.specs.Inner.{Timed}
use Rattle.interiors.proofs.Blocks.{step_le_block, block_some}
use Rattle.interiors.proofs.Interiors.{interior_within}

module _ (iq : List Float) (cyc : Float) (block : ℕ) (e : KeyedElement) (i0 i1 : ℕ) (weight : Float) (w : weight ≡ hann_sum (i1 - i0)) where
  pub fit_weightless : le weight plus_zero ≡ true → None ≡ fit_inside iq cyc block e i0 i1
  unfolding fit_inside
  fit_weightless h = rw (← w, h)

  pub fit_made : (x slope : Float) (sum gain : Complex) → x ≡ of (i0 + i1 - 1) → slope ≡ slope_of iq cyc i0 (i1 - i0) block → sum ≡ gain_sum iq cyc i0 (i1 - i0) slope (x ⊘ two)
      → gain ≡ c_div sum weight → le weight plus_zero ≡ false
      → Some record { element = e; gain = gain; slope_rad_per_sample = slope; ref_sample = x ⊘ two } ≡ fit_inside iq cyc block e i0 i1
  unfolding fit_inside ref_sample_of
  fit_made x slope sum gain p q s g h = rw (← w, h, ← p, ← q, ← s, g)

-- ---- an element and its interior
module _ (iq : List Float) (fs cyc : Float) (e : KeyedElement) where
  pub fit_outside : None ≡ interior_of (samples iq) fs e.start e.end → None ≡ fit_of iq fs cyc e
  unfolding fit_of fit_within
  fit_outside h = rw (← h)

  pub fit_found : (i0 i1 block : ℕ) (r : Option ElementFit) → inside i0 i1 ≡ interior_of (samples iq) fs e.start e.end → block ≡ slope_block fs → r ≡ fit_inside iq cyc block e i0 i1 → r ≡ fit_of iq fs cyc e
  unfolding fit_of fit_within
  fit_found i0 i1 block r h b p = rw (← h, ← b, p)

-- What the fit over an interior asks: it is not empty, it lies within the recording, and its points have room, since
-- a block is no shorter than the step, and so they are no more than the blocks of the edge finder.
pub interior_room : (iq : List Float) (fs : Float) (e : KeyedElement) (i0 i1 block room : ℕ) → Iq iq → Rate fs → Timed e
    → inside i0 i1 ≡ interior_of (samples iq) fs e.start e.end → block ≡ slope_block fs → 4 * step_blocks iq fs ≤ room
    → (i0 < i1) × (2 * i1 ≤ length iq) × (1 ≤ block) × (2 * ((i1 - i0) / block) ≤ room)
interior_room iq fs e i0 i1 block room lent rate timed h b r =
    let w = interior_within fs rate (samples iq) (half (length iq) lent.short) e.start e.end timed.first timed.last i0 i1 h in
    let low = w.0 in
    let high = w.1 in
    let points =
    div_mono (i1 - i0) (slope_block fs) (samples iq) (step_of fs) (block_some fs) (step_low fs) (mul-le-mul (le_trans (sub-le i1 i0) high) (step_le_block fs rate)) in
    (omega arith, omega arith, rw b (block_some fs), rw b (omega arith))
  where
    half : (n : ℕ) → n ≤ 2 ^ 21 → n / 2 ≤ 2 ^ 20
    half n h = omega arith
