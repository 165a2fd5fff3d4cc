use Rattle.row.specs.Blocks.{derot}
use Rattle.row.proofs.blocks.derotated.Goals as goal

pub returns : goal.returns
unfolding derot
returns c = rw (c.mul.ensures, c.conj.ensures, c.rotor.ensures, c.sample.ensures)
