-- What was found so far is the specification's, of the first b blocks.
use mathlib.Core.Path.{◌≡◌}
use Rattle.complex.specs.Rows.{z_at}
use Rattle.classes.specs.declared.class.BlockClass.TheVariants.{Gap}
use Rattle.prepared.specs.Inner.{of_class}
use Rattle.gaps.specs.Pairs.{above, pairs_of}
use Rattle.gaps.proofs.pairs.sum_pairs.Given as goal

abbrev pub invariant-loop-b : goal.invariant-loop-b
invariant-loop-b l = l.found ≡ pairs_of (above (of_class l.strong.held.codes.now Gap) (z_at l.strong.held.means.now) l.strong.level) (z_at l.held.means.now) l.b
