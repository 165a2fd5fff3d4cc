-- The four conditions, where the first three hold: the last one decides. Assumes nothing.
use Prim.Native.Nat.{ℕ, ◌≤◌}
use mathlib.Core.Path.{◌≡◌, ◌∙◌}
use mathlib.Core.Bool.{Bool, true, false, not}
use lib.Ieee.{Float, le}
use borrow.Author.Tests.{not-false, le-leb}
use Rattle.float.specs.Compare.{abs_of}
use Rattle.constants.specs.Constants.{MIN_ELEMENTS, MAX_CARRIER_STEP_HZ}
use Rattle.measure.specs.declared.hypothesis.Hypothesis.{Hypothesis}
use Rattle.measure.specs.declared.residual.ResidualCheck.{ResidualCheck}
use Rattle.measure.specs.Residual.{clean_of}
use Rattle.engine.specs.Run.{is_two, takes}

-- t is whether the hypothesis is TwoSignalCw, and size is the size of the carrier step
module _ (h : Hypothesis) (fitted : ℕ) (step : Float) (r : ResidualCheck) (t : Bool) (e : t ≡ is_two h) (y : not t ≡ false) (many : MIN_ELEMENTS ≤ fitted) (size : Float) (s : size ≡ abs_of step) where
  pub step_small : le size MAX_CARRIER_STEP_HZ ≡ true → (c : Bool) → c ≡ clean_of r → c ≡ takes h fitted step r
  unfolding takes
  step_small n c q = q ∙ rw (← e, not-false t y, le-leb MIN_ELEMENTS fitted many, ← s, n)
