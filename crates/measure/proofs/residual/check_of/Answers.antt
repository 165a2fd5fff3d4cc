use Rattle.measure.proofs.residual.check_of.Goals as goal

pub returns : goal.returns
returns c = rw (c.ratio_db-2.ensures, c.ratio_db.ensures)
