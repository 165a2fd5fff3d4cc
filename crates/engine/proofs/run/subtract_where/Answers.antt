use Rattle.engine.proofs.run.subtract_where.Goals as goal

pub returns-then-taken : goal.returns-then-taken
returns-then-taken c =
    let t = c.if-taken.true in
    rw t c.subtract.ensures
