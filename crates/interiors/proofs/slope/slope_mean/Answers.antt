use native.Mathlib.Omega.{arith}
use Rattle.interiors.specs.Slope.{slope_mean}
use Rattle.interiors.proofs.Keeping.{mean_kept}
use Rattle.interiors.proofs.slope.slope_mean.Goals as goal

pub returns-then-first-block : goal.returns-then-first-block
returns-then-first-block c =
    mean_kept _ _ _ _ _ c.args.b _ _ _ _ c.args.kept.now.first_ones (omega arith) c.sum.ensures c.exact.ensures c.div_real.ensures

pub returns : goal.returns
unfolding slope_mean
returns c = c.mean_from.ensures
