use mathlib.Core.Path.{◌≡◌}
use Rattle.lists.specs.Sums.{total}
use Rattle.interiors.specs.Line.{time_of, weighted}
use Rattle.interiors.specs.Inner.{phase_in, weight_in}
use Rattle.interiors.proofs.line.Points.sums.Given as goal

abbrev pub invariant-loop-b : goal.invariant-loop-b
invariant-loop-b l = let row = l.self.numbers.now in record {
  weight : l.weight ≡ total (weight_in row) l.b;
  time : l.time ≡ weighted (weight_in row) (time_of l.self.i0 l.self.block) l.b;
  phase : l.phase ≡ weighted (weight_in row) (phase_in row) l.b;
}
