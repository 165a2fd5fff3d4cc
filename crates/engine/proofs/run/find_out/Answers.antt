-- `engine::run::find_out` meets its contract.
use native.Mathlib.Omega.{arith}
use Rattle.engine.proofs.Counts.{listed_room, fitted_room, fitted_le_listed}
use Rattle.engine.proofs.Ran.{found_out}
use Rattle.engine.proofs.run.find_out.Goals as goal

pub new-listed-requires : goal.new-listed-requires
new-listed-requires c =
    let listed = listed_room _ _ _ _ c.estimate_strong-estimate.ensures.0 in
    omega (arith, listed, c.estimate_strong-estimate.auto.elements, c.requires.elements_room)

pub new-fitted-requires : goal.new-fitted-requires
new-fitted-requires c =
    let fitted = fitted_room _ _ _ _ c.estimate_strong-estimate.ensures.0 in
    omega (arith, fitted, c.estimate_strong-estimate.auto.fits, c.requires.fits_room)

pub overflow_sub-result : goal.overflow_sub-result
overflow_sub-result c = fitted_le_listed _ _ _ _ c.estimate_strong-estimate.ensures.0

pub returns : goal.returns
returns c =
    let is = c.estimate_strong-estimate.ensures in
    let listed = c.new-listed.ensures in
    let fitted = c.new-fitted.ensures in
    let measures = rw (listed.0, listed.1, fitted.0, fitted.1) at c.measure_both-m.ensures in
    let figures = found_out _ _ _ _ is.0 _ _ _ _ is.1 is.2 _ _ _ _ _ c.count.ensures c.window.ensures measures c.classify-hypothesis.ensures c.takes_off-taken.ensures in
    (figures, is.1, is.2)
