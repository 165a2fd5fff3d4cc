-- `row::blocks::still_turn` meets its contract: the two literals are 1 and 0.
use lib.Ieee.{of_bits, of_int}
use Rattle.row.proofs.blocks.still_turn.Goals as goal

pub returns : goal.returns
unfolding of_bits of_int
returns c = rw (c.conj.ensures, c.new.ensures)
