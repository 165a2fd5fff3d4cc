-- `lines::count_lines` meets its contract: four lines, one behind the other.
use Rattle.format.proofs.Growing.{grown_more}
use Rattle.lines.specs.Lines.{count_lines}
use Rattle.lines.proofs.count_lines.Goals as goal

pub returns : goal.returns
unfolding count_lines
returns c =
    grown_more _ _ _ _ _ c.size_line.ensures
    (grown_more _ _ _ _ _ c.keys_line.ensures (grown_more _ _ _ _ _ c.air_line.ensures c.blocks_line.ensures))
