-- The invariant: b means are stored, and `from` is where block b starts.
use Rattle.std.proofs.Common.{arith, refl}
use Rattle.complex.proofs.RowLaws.{z_fill_none, z_fill_turn0}
use Rattle.row.proofs.Means.{start_next}
use Rattle.row.proofs.blocks.means.Goals as goal

pub loop-b-init : goal.loop-b-init
loop-b-init g c = (omega arith, λ f h. z_fill_none _ 0 f)

pub loop-b-preserved : goal.loop-b-preserved
loop-b-preserved g c =
    let l = c.loop-b in (
      start_next _ _ _ _ l.invariant.0 refl,
      λ f h. z_fill_turn0 _ f l.b _ _ _ (l.invariant.1 f h) (h l.b _ c.loop-b-test.true (rw l.invariant.0 at c.mean-m.ensures)) c.put.ensures,
    )
