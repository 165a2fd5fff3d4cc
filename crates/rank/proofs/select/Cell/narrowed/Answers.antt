-- `rank::select::Cell::narrowed` meets its contract.
use Rattle.rank.proofs.Narrowed.{narrowed}
use Rattle.rank.proofs.select.Cell.narrowed.Goals as goal

pub returns-then-inner-self : goal.returns-then-inner-self
returns-then-inner-self c = narrowed c.bounds.ensures c.cell-inner.ensures.least c.cell-inner.ensures.greatest c.if-inner-self.true c.requires
