-- The invariant: both sums so far are the specification's, of the first j samples of the interior.
use mathlib.Core.Path.{refl}
use borrow.Author.Rules.{rules}
use Rattle.complex.proofs.RowLaws.{c_sum_none0, c_sum_done0}
use Rattle.lists.proofs.Sums.{f_sum_none, f_sum_turn, f_sum_done}
use Rattle.interiors.specs.Gain.{gain_sum, hann_sum}
use Rattle.interiors.proofs.Laws.{c_sum_turn00, leveled_is}
use Rattle.interiors.proofs.gain.weigh.Goals as goal

pub loop-j-init : goal.loop-j-init
loop-j-init c = record { sum = c_sum_none0 _ _; weight = f_sum_none _ _ }

pub loop-j-preserved : goal.loop-j-preserved
loop-j-preserved c =
    let inv = c.loop-j.invariant in
    let z = leveled_is _ _ _ _ _ _ _ _ _ _ c.hann_weight-w.ensures c.derotated-z.ensures c.leveled_at.ensures in
    record {
      sum = c_sum_turn00 _ _ _ _ _ inv.sum z c.add-sum.ensures;
      weight = f_sum_turn _ _ _ _ _ _ inv.weight c.hann_weight-w.ensures refl;
    }

pub returns : goal.returns
unfolding gain_sum hann_sum
returns c = search (rules, c_sum_done0, f_sum_done)
