-- `format::text::Text::spaced` meets its contract: one number more is put.
use Rattle.std.proofs.Common.{sym}
use Rattle.format.specs.Text.{spaced}
use Rattle.format.proofs.Growing.{grown_none, grown_more}
use Rattle.format.proofs.Lines.{spaced_turn}
use Rattle.format.proofs.text.Text.spaced.Goals as goal

pub loop-n-init : goal.loop-n-init
unfolding spaced
loop-n-init c = grown_none _

pub loop-n-preserved : goal.loop-n-preserved
loop-n-preserved c =
    rw (sym (spaced_turn c.args.numbers.now c.loop-n.n-index c.loop-n-test.true))
    (grown_more _ _ _ _ _ (grown_more _ _ _ _ _ c.loop-n.invariant c.append.ensures) c.number.ensures)
