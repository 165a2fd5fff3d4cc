-- A residual check that was handed out as its figures and is given back. Assumes nothing.
use mathlib.Core.Path.{◌≡◌, refl}
use Rattle.measure.specs.declared.residual.ResidualCheck.{ResidualCheck}
use Rattle.measure.specs.Residual.{clean_of}
use Rattle.figures.specs.Measures.{residual_figures}
use Rattle.figures.specs.Clean.{given_check}

-- its figures are clean exactly if it is
pub clean_by_figures : (r : ResidualCheck) → clean_of (given_check (residual_figures r)) ≡ clean_of r
unfolding clean_of
clean_by_figures r = refl
