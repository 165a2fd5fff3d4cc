use borrow.Author.Rules.{rules}
use Rattle.interiors.proofs.Interiors.{lo_is, hi_is, before_it, past_it, too_short, long_enough}
use Rattle.interiors.proofs.interior.interior_of.Goals as goal

pub returns-then-lo : goal.returns-then-lo
returns-then-lo c = search (rules, lo_is, hi_is, before_it)

pub returns-then-hi-exact : goal.returns-then-hi-exact
returns-then-hi-exact c = search (rules, lo_is, hi_is, past_it)

pub returns-then-hi-lo : goal.returns-then-hi-lo
returns-then-hi-lo c = search (rules, lo_is, hi_is, too_short)

pub returns : goal.returns
returns c = search (rules, lo_is, hi_is, long_enough)
