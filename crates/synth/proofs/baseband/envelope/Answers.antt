use Rattle.synth.specs.Baseband.{envelope_of}
use Rattle.synth.proofs.baseband.envelope.Goals as goal

pub returns : goal.returns
unfolding envelope_of
returns c = rw (c.rc-2.ensures, c.rc.ensures, c.exact-at.ensures)
