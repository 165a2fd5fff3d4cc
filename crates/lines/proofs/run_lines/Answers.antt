-- `lines::run_lines` meets its contract: its five parts, one behind the other.
use Rattle.format.proofs.Growing.{grown_more}
use Rattle.lines.specs.Lines.{run_lines}
use Rattle.lines.proofs.run_lines.Goals as goal

pub returns : goal.returns
unfolding run_lines
returns c =
    let keys = rw (c.new-listed.ensures.0, c.new-listed.ensures.1) at c.key_lines.ensures in
    let hypothesis = rw c.hypothesis_line.ensures at c.append-2.ensures in
    let buffer = rw c.buffer_line.ensures at c.append-3.ensures in
    grown_more _ _ _ _ _ c.append.ensures
    (grown_more _ _ _ _ _ c.count_lines.ensures (grown_more _ _ _ _ _ keys (grown_more _ _ _ _ _ hypothesis buffer)))
