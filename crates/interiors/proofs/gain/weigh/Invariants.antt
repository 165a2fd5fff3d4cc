use mathlib.Core.Path.{◌≡◌}
use Rattle.float.specs.Ops.{plus_zero}
use Rattle.complex.specs.Rows.{c_sum}
use Rattle.lists.specs.Sums.{f_sum}
use Rattle.interiors.specs.Gain.{hann, leveled}
use Rattle.interiors.proofs.gain.weigh.Given as goal

abbrev pub invariant-loop-j : goal.invariant-loop-j
invariant-loop-j l = let s = l.kept.stretch in record {
  sum : l.sum ≡ c_sum (leveled s.samples.iq.now s.cyc s.i0 s.len l.slope l.reference) 0 l.j;
  weight : l.weight ≡ f_sum plus_zero (hann s.len) l.j;
}
