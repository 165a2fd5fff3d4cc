use Rattle.measure.proofs.Ratios.{no_upper, no_lower, lower_not_above, ratio_is, floored_none, floored_some}
use Rattle.measure.proofs.residual.ratio_db.Goals as goal

pub returns-in_default : goal.returns-in_default
returns-in_default c = no_upper _ _ c.in_default.is

pub returns-in_default-den : goal.returns-in_default-den
returns-in_default-den c = no_lower _ _ _ c.in-Some.is (floored_none _ c.in_default-den.is)

pub returns-then-d : goal.returns-then-d
returns-then-d c =
    ratio_is _ _ _ _ c.in-Some.is (floored_some _ _ _ c.in-Some-den.is c.max-d.ensures) _ _ c.if-d.true c.max.ensures c.log10.ensures

pub returns-else-d : goal.returns-else-d
returns-else-d c =
    lower_not_above _ _ _ _ c.in-Some.is (floored_some _ _ _ c.in-Some-den.is c.max-d.ensures) c.if-d.false
