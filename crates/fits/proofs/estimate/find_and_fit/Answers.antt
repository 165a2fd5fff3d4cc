use native.Mathlib.Omega.{arith}
use Rattle.fits.proofs.Passes.{listed_few, listed_timed, listed_fits}
use Rattle.fits.proofs.estimate.find_and_fit.Goals as goal

pub new-listed-requires : goal.new-listed-requires
new-listed-requires c =
    let was = c.find_elements-found.ensures in
    let few = listed_few _ _ _ _ _ _ was.0 was.1 in
    let room = c.requires.elements_room in
    omega arith

pub fit_elements-fitted-requires-clause-all_timed : goal.fit_elements-fitted-requires-clause-all_timed
fit_elements-fitted-requires-clause-all_timed c =
    let was = c.find_elements-found.ensures in
    let listed = c.new-listed.ensures in
    let r = c.args.recording.now in
    rw (listed.0, listed.1) (listed_timed _ _ _ _ _ _ was.0 was.1 r.samples.accepted r.rate.accepted r.samples.singles)

pub fit_elements-fitted-requires-clause-fits_room : goal.fit_elements-fitted-requires-clause-fits_room
fit_elements-fitted-requires-clause-fits_room c =
    let was = c.find_elements-found.ensures in
    let few = listed_few _ _ _ _ _ _ was.0 was.1 in
    omega arith

pub returns : goal.returns
returns c =
    let was = c.find_elements-found.ensures in
    let listed = c.new-listed.ensures in
    let same = listed_fits _ _ _ _ _ _ was.0 was.1 in
    let now = rw (listed.0, listed.1, same) at c.fit_elements-fitted.ensures in
    (was.0, now.0, was.1, now.1)
