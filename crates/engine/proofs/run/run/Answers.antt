-- `engine::run::run` meets its contract: what it finds out, and how it ends.
use native.Mathlib.Omega.{arith}
use Rattle.engine.proofs.Counts.{fitted_room}
use Rattle.engine.proofs.Ran.{ended, its_estimate, its_word}
use Rattle.engine.proofs.run.run.Goals as goal

pub invariant_of-fitted : goal.invariant_of-fitted
invariant_of-fitted c =
    let fitted = fitted_room _ _ _ _ (its_estimate _ _ _ _ c.find_out-found.ensures.0) in
    omega (arith, fitted, c.find_out-found.auto.fits, c.requires.fits_room)

pub returns : goal.returns
returns c =
    let is = c.find_out-found.ensures in
    (is.0, ended _ _ _ _ (its_estimate _ _ _ _ is.0) _ _ _ _ is.1 is.2 _ _ (its_word _ _ _ _ is.0) c.subtract_where.ensures, is.1, is.2)
