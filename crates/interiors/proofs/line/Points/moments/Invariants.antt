use mathlib.Core.Path.{◌≡◌}
use Rattle.interiors.specs.Line.{time_of, moment}
use Rattle.interiors.specs.Inner.{phase_in, weight_in}
use Rattle.interiors.proofs.line.Points.moments.Given as goal

abbrev pub invariant-loop-b : goal.invariant-loop-b
invariant-loop-b l = let row = l.self.numbers.now in let time = time_of l.self.i0 l.self.block in record {
  num : l.num ≡ moment (weight_in row) time l.tm (phase_in row) l.pm l.b;
  den : l.den ≡ moment (weight_in row) time l.tm time l.tm l.b;
}
