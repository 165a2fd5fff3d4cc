use Rattle.trig.proofs.Bits.{tau_bits}
use Rattle.synth.specs.Baseband.{synth_at}
use Rattle.synth.proofs.baseband.synth_baseband.Goals as goal

pub returns-then-env : goal.returns-then-env
unfolding synth_at
returns-then-env c = rw (← c.envelope-env.ensures, c.if-env.true)

pub returns : goal.returns
unfolding synth_at
returns c = rw (
  c.mul.ensures,
  c.from_polar.ensures,
  c.rem_euclid-tilt.ensures,
  c.exact.ensures,
  ← c.envelope-env.ensures,
  c.if-env.false,
  tau_bits,
)
