-- The loop keeps `Walked`: what is pending, the counts and the list are those of the positions behind it.
use Rattle.std.proofs.Common.{◌≡◌, ◌+◌, ◌&&◌, Bool, get_or, sym, ◌∙◌}
use Rattle.std.specs.Float.{nan}
use Rattle.std.specs.Float.Ieee.{lt, le}
use Rattle.std.specs.Iterator.Adapters.{enumerate_source, enumerate_count}
use Rattle.elements.specs.Keying.{heights, upward, downward}
use Rattle.elements.proofs.Walk.{Paired, paired_first, paired_next, is_upward, is_downward, walked_none, walked_up, walked_same, walked_down}
use Rattle.elements.proofs.keying.Walk.scan.Goals.{In-Some}
use Rattle.elements.proofs.keying.Walk.scan.Goals as goal

module _ (c : In-Some) where
  next : Paired c.args.self.now.row.now (enumerate_count c.next.new.self) (enumerate_source c.next.new.self)
  next =
      let n = c.in-Some.ensures.steps in
      rw n.2 (paired_next _ _ _ (enumerate_source c.next.new.self) c.in-Some.pair c.loop-j.invariant.paired n.0)

  rises : (b : Bool) → b ≡ (lt (get_or c.in-Some.pair.now 0 nan) c.args.self.now.thr && le c.args.self.now.thr (get_or c.in-Some.pair.now 1 nan))
      → b ≡ upward (heights c.args.self.now.row.now) c.args.self.now.thr (enumerate_count c.loop-j.j-iterator + 1)
  rises = is_upward _ _ _ (enumerate_source c.next.new.self) c.in-Some.pair c.loop-j.invariant.paired c.in-Some.ensures.steps.0 _

  falls : (b : Bool) → b ≡ (lt (get_or c.in-Some.pair.now 1 nan) c.args.self.now.thr && le c.args.self.now.thr (get_or c.in-Some.pair.now 0 nan))
      → b ≡ downward (heights c.args.self.now.row.now) c.args.self.now.thr (enumerate_count c.loop-j.j-iterator + 1)
  falls = is_downward _ _ _ (enumerate_source c.next.new.self) c.in-Some.pair c.loop-j.invariant.paired c.in-Some.ensures.steps.0 _

pub loop-j-init : goal.loop-j-init
loop-j-init c =
    let e = c.enumerate-j-items.ensures in
    rw (c.into_iter-j-iterator.ensures.into_iter_gives, e.source, e.count)
    (record { paired = paired_first _ _ c.windows.ensures.size c.windows.ensures.rest; walked = walked_none _ _ _ _ _ })

pub loop-j-preserved-then-crosses : goal.loop-j-preserved-then-crosses
loop-j-preserved-then-crosses c =
    let s = (goal.at.loop-j-preserved-then-crosses c).In-Some in
    let n = c.in-Some.ensures.steps in
    record { paired = next s; walked = rw (n.2, n.1) (walked_up _ _ _ _ _ _ _ _ _ c.loop-j.invariant.walked (sym (rises s _ c.crosses.ensures) ∙ c.if-crosses.true)) }

pub loop-j-preserved-then-crosses-2 : goal.loop-j-preserved-then-crosses-2
loop-j-preserved-then-crosses-2 c =
    let s = (goal.at.loop-j-preserved-then-crosses-2 c).In-Some in
    let n = c.in-Some.ensures.steps in
    record {
      paired = next s;
      walked =
          rw n.2
          (walked_down _ _ _ _ _ _ _ _ _ c.loop-j.invariant.walked _ _ (sym (rises s _ c.crosses.ensures) ∙ c.if-crosses.false) (sym (falls s _ c.crosses-else-crosses.ensures) ∙ c.if-crosses-2.true)
          (rw n.1 at c.close-found.ensures));
    }

pub loop-j-preserved : goal.loop-j-preserved
loop-j-preserved c =
    let s = (goal.at.loop-j-preserved c).In-Some in
    let n = c.in-Some.ensures.steps in
    record {
      paired = next s;
      walked = rw n.2 (walked_same _ _ _ _ _ _ _ _ _ c.loop-j.invariant.walked (sym (rises s _ c.crosses.ensures) ∙ c.if-crosses.false) (sym (falls s _ c.crosses-else-crosses.ensures) ∙ c.if-crosses-2.false));
    }
