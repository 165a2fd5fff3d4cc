use Rattle.trig.proofs.Bits.{tau_bits}
use Rattle.interiors.specs.Gain.{tilt_of}
use Rattle.interiors.proofs.gain.tilt.Goals as goal

pub returns : goal.returns
unfolding tilt_of
returns c = rw (tau_bits, c.rem_euclid.ensures, c.exact.ensures)
