use Rattle.trig.proofs.Bits.{tau_bits}
use Rattle.row.specs.Blocks.{rotor_of}
use Rattle.row.proofs.blocks.rotor.Goals as goal

pub returns : goal.returns
unfolding rotor_of
returns c = rw (
  c.sin_cos-p.ensures.0,
  c.sin_cos-p.ensures.1,
  c.rem_one.ensures,
  c.exact.ensures,
  tau_bits,
)
