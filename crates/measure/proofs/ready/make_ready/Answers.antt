use Rattle.measure.proofs.Grids.{grid_count, held}
use Rattle.measure.proofs.ready.make_ready.Goals as goal

pub returns-clause-count : goal.returns-clause-count
returns-clause-count c =
    let grid = c.prepare-grid.result in
    let made = c.prepare-grid.ensures.grid in
    grid_count _ _ _ _ _ _ made.0 made.1 grid.window_is grid.blocks_are

pub returns-clause-held : goal.returns-clause-held
returns-clause-held c =
    let count = returns-clause-count c in
    held _ _ _ _ _ _ _ _ c.prepare-grid.ensures.prepared count c.split_at_mut-front.ensures.front c.new.ensures
