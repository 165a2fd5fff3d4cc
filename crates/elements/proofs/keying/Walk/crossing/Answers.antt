use Rattle.elements.specs.Keying.{crossed_at}
use Rattle.elements.proofs.keying.Walk.crossing.Goals as goal

pub returns : goal.returns
unfolding crossed_at
returns c = rw (c.centre.ensures, c.exact.ensures)
