-- `complex::units::unit` meets its contract.
use Rattle.complex.specs.Units.{unit_of}
use Rattle.complex.proofs.units.unit.Goals as goal

pub returns : goal.returns
unfolding unit_of
returns c = rw (c.sin_cos-p.ensures.0, c.sin_cos-p.ensures.1)
