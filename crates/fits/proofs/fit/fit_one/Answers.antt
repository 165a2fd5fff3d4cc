use Rattle.fits.proofs.Fitting.{fit_outside, fit_found, interior_room}
use Rattle.fits.proofs.fit.fit_one.Goals as goal

pub returns-in_err-inside : goal.returns-in_err-inside
returns-in_err-inside c = rw c.from_residual.ensures (fit_outside _ _ _ _ (rw c.count.ensures at c.in_err-inside.ensures))

pub fit_inside-requires : goal.fit_inside-requires
fit_inside-requires c =
    let found = rw c.count.ensures at c.in_ok-inside.ensures in
    let recording = c.args.recording.now in
    let r = interior_room _ _ _ _ _ _ _ recording.samples.accepted recording.rate.accepted c.requires.timed found c.slope_block-block.ensures c.requires.work_room in
    record { some = r.0; within = r.1; le_block = r.2; room = r.3 }

pub returns : goal.returns
returns c =
    let found = rw c.count.ensures at c.in_ok-inside.ensures in
    fit_found _ _ _ _ _ _ _ _ found c.slope_block-block.ensures c.fit_inside.ensures
