use borrow.Author.Tests.{eq-eqb, ne_eqb}
use Rattle.measure.specs.Evidence.{hot_fraction_of}
use Rattle.measure.proofs.evidence.hot_fraction.Goals as goal

pub returns-then-g-eq0 : goal.returns-then-g-eq0
unfolding hot_fraction_of
returns-then-g-eq0 c = rw (eq-eqb _ _ c.if-g-eq0.true)

pub returns : goal.returns
unfolding hot_fraction_of
returns c = rw (ne_eqb _ _ c.if-g-eq0.false, c.from_whole.ensures, c.from_whole-2.ensures)
