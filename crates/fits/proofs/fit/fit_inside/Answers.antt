use Rattle.fits.proofs.Fitting.{fit_weightless, fit_made}
use Rattle.fits.proofs.fit.fit_inside.Goals as goal

pub returns-then-w : goal.returns-then-w
returns-then-w c =
    let weighed = rw c.new-kept.ensures.same_stretch at c.weigh-w.ensures in
    fit_weightless _ _ _ _ _ _ _ weighed.1 c.if-w.true

pub returns : goal.returns
returns c =
    let weighed = rw c.new-kept.ensures.same_stretch at c.weigh-w.ensures in
    let sloped = rw c.new-kept.ensures.same_stretch at c.phase_slope-slope.ensures in
    fit_made _ _ _ _ _ _ _ weighed.1 _ _ _ _ c.exact-reference.ensures sloped weighed.0 c.div_real.ensures c.if-w.false
