use Rattle.constants.proofs.Bits.{slope_block_bits}
use Rattle.interiors.specs.Interior.{slope_block}
use Rattle.interiors.proofs.interior.slope_block.Goals as goal

pub returns : goal.returns
unfolding slope_block
returns c = rw (slope_block_bits, c.to_whole.ensures, c.max.ensures, c.round.ensures)
