-- `rank::select::rank` meets its contract.
use Rattle.rank.specs.Select.{rank_of}
use Rattle.rank.proofs.select.rank.Goals as goal

pub returns : goal.returns
unfolding rank_of
returns c = rw (c.min.ensures, c.to_whole-r.ensures, c.round.ensures, c.exact.ensures)
