use Rattle.constants.proofs.Bits.{rise_bits}
use Rattle.fits.specs.Carrier.{fit_weight}
use Rattle.fits.proofs.carrier.fit_weight.Goals as goal

pub returns : goal.returns
unfolding fit_weight
returns c = rw (rise_bits, c.norm.ensures, c.max.ensures)
