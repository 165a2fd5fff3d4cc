use Rattle.interiors.specs.Inner.{Derotated}
use Rattle.interiors.proofs.kept.derotate.Given as goal

abbrev pub invariant-loop-j : goal.invariant-loop-j
invariant-loop-j l = let s = l.stretch in Derotated s.samples.iq.now s.cyc s.i0 0 l.j l.numbers
