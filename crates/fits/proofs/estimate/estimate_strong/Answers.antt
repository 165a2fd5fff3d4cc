use native.Mathlib.Omega.{arith}
use Rattle.elements.proofs.Records.{elements_again}
use Rattle.fits.proofs.Records.{fits_again}
use Rattle.fits.proofs.Passes.{fits_few, step_is, estimate_is}
use Rattle.fits.proofs.estimate.estimate_strong.Goals as goal

pub new-requires : goal.new-requires
new-requires c =
    let recording = c.args.recording.now in
    let few = fits_few recording.samples.iq.now recording.rate.hz c.args.hint in
    let room = c.requires.fits_room in
    omega arith

pub returns : goal.returns
returns c =
    let was = c.find_and_fit-first.ensures in
    let is = c.find_and_fit-second.ensures in
    let slope = rw (c.new.ensures.0, c.new.ensures.1) at c.mean_slope_hz-step.ensures in
    let step = step_is _ _ _ _ _ _ _ was.3 slope in
    let got = estimate_is _ _ _ _ _ _ _ _ _ _ step is.0 is.1 is.2 is.3 in
    (got.0, elements_again _ _ _ _ _ _ got.1 was.2, fits_again _ _ _ _ _ _ got.2 was.3)
