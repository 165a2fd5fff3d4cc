use Rattle.elements.specs.Keying.{element_of}
use Rattle.elements.proofs.keying.Walk.element.Goals as goal

pub returns : goal.returns
unfolding element_of
returns c = rw (c.crossing.ensures, c.crossing-2.ensures, c.exact.ensures, c.exact-2.ensures)
