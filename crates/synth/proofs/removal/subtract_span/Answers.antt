-- The invariant: the first j samples of the part are done, and the others are as they were.
use Rattle.synth.proofs.Removals.{part_none, part_turn}
use Rattle.synth.proofs.removal.subtract_span.Goals as goal

pub loop-j-init : goal.loop-j-init
loop-j-init c = part_none _ _ _ _ _

pub loop-j-preserved : goal.loop-j-preserved
loop-j-preserved c = part_turn _ _ _ _ _ _ _ _ _ c.loop-j.invariant c.sent_at-s.ensures c.subtract_at.ensures
