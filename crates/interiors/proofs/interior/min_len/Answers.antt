use Rattle.constants.proofs.Bits.{min_interior_bits}
use Rattle.interiors.specs.Interior.{min_len}
use Rattle.interiors.proofs.interior.min_len.Goals as goal

pub returns : goal.returns
unfolding min_len
returns c =
    rw (min_interior_bits, c.from_whole.ensures, c.to_whole.ensures, c.ceil.ensures)
