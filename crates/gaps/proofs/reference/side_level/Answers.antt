use native.Mathlib.Omega.{arith}
use lib.ListN.{length-take, length-drop}
use Rattle.gaps.proofs.References.{both_held, side_is}
use Rattle.gaps.proofs.reference.side_level.Goals as goal

pub returns : goal.returns
returns c =
    let held = both_held _ _ _ _ _ _ _ _ _ _ _ c.gap_powers-n.ensures.kept c.gap_powers-m.ensures.kept (omega (arith, c.requires)) (simp (length-take, length-drop) (omega (arith, c.requires, c.gap_powers-n.ensures.few, c.gap_powers-n.auto))) in
    side_is _ _ _ _ _ _ _ _ _ c.percentile.ensures c.unwrap_or.ensures held c.args.classed.now.grid.window_is
