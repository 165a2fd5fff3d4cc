-- An accepted run's result, for C. Assumes nothing.
use Prim.Native.Nat.{ℕ}
use mathlib.Core.Path.{◌≡◌}
use mathlib.Core.List.{List}
use lib.Ieee.{Float}
use Rattle.elements.specs.Element.{handed_elements}
use Rattle.fits.specs.List.{handed_fits}
use Rattle.engine.specs.declared.run.RunFigures.{RunFigures}
use Rattle.figures.specs.Running.{ran_figures}
use Rattle.capi.specs.Calls.{Called}
use Rattle.capi.specs.Running.{Left}

-- it has the figures of its answer, and counts what the rules count
pub run_told_lem : (work : ℕ) (figures : List Float) (f g : RunFigures) (buf left fits-left : List Float) → f ≡ g → figures ≡ ran_figures f
    → ◌≡◌ {A = Called Left}
    (record {
      figures = figures;
      lists = (buf, handed_elements left g.estimate.found.listed, handed_fits fits-left g.estimate.fitted);
      work = work;
    })
    (record {
      figures = ran_figures f;
      lists = (buf, handed_elements left f.estimate.found.listed, handed_fits fits-left f.estimate.fitted);
      work = work;
    })
run_told_lem work figures f g buf left fits-left h q = rw (q, h)
