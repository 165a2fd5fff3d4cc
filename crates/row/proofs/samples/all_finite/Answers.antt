-- The invariant: the flag says whether the numbers before x are finite.
use Rattle.std.proofs.Common.{refl, add-one}
use Rattle.row.specs.Samples.{finite_to}
use Rattle.row.proofs.samples.all_finite.Goals as goal

pub loop-x-init : goal.loop-x-init
unfolding finite_to
loop-x-init c = refl

pub loop-x-preserved : goal.loop-x-preserved
unfolding finite_to
loop-x-preserved c = rw (add-one, c.loop-x.invariant, c.finite-ok.ensures)
