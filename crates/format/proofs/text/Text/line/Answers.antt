-- `format::text::Text::line` meets its contract: its three parts, one behind the other.
use Rattle.format.specs.Text.{line}
use Rattle.format.proofs.Growing.{grown_more}
use Rattle.format.proofs.text.Text.line.Goals as goal

pub returns : goal.returns
unfolding line
returns c = grown_more _ _ _ _ _ c.append.ensures (grown_more _ _ _ _ _ c.spaced.ensures c.append-2.ensures)
