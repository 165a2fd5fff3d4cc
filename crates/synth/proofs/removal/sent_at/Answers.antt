use Rattle.synth.specs.Removal.{sent_at}
use Rattle.synth.proofs.removal.sent_at.Goals as goal

pub returns : goal.returns
unfolding sent_at
returns c = rw (c.mul.ensures, c.rotor.ensures, c.synth_baseband.ensures)
