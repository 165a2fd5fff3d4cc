use Rattle.trig.proofs.Bits.{tau_bits}
use Rattle.interiors.specs.Gain.{hann}
use Rattle.interiors.proofs.gain.hann_weight.Goals as goal

pub returns : goal.returns
unfolding hann
returns c = rw (tau_bits, c.cos.ensures, c.exact-2.ensures, c.exact.ensures)
