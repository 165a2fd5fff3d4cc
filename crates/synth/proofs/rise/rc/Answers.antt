use Rattle.trig.proofs.Bits.{pi_bits}
use Rattle.constants.proofs.Bits.{rise_bits}
use Rattle.synth.specs.Rise.{rc_of}
use Rattle.synth.proofs.rise.rc.Goals as goal

pub returns-then-t : goal.returns-then-t
unfolding rc_of
returns-then-t c = rw (rise_bits, c.if-t.true)

pub returns-then-t-2 : goal.returns-then-t-2
unfolding rc_of
returns-then-t-2 c = rw (rise_bits, c.if-t.false, c.if-t-2.true)

pub returns-else-t-2 : goal.returns-else-t-2
unfolding rc_of
returns-else-t-2 c = rw (rise_bits, pi_bits, c.if-t.false, c.if-t-2.false, c.sin.ensures)
