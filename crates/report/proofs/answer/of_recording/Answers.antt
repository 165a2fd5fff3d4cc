-- `report::answer::of_recording` meets its contract: what the run answers, with the lists that it is lent here.
use Prim.Native.Nat.{ℕ, ◌≤◌}
use native.Mathlib.Omega.{arith}
use mathlib.Core.Path.{refl, sym, subst}
use mathlib.Core.List.{List}
use lib.ListN.{length}
use Rattle.format.specs.Growing.{HasRoom, Grown}
use Rattle.report.proofs.Asks.{lends, refused_is, done_is, done_places}
use Rattle.report.proofs.answer.of_recording.Goals as goal

pub refused-requires : goal.refused-requires
refused-requires c =
    let told = rw c.in-Err.is at c.run.ensures.work_after in
    let lent = lends _ _ _ _ c.requires.iq_len c.requires.iq_len_bound (omega arith) (omega arith) (omega arith) in
    subst (λ (t : List ℕ). HasRoom c.args.out.now t) (refused_is _ _ told lent) c.requires.in_bounds

pub returns-in-Err : goal.returns-in-Err
returns-in-Err c =
    let told = rw c.in-Err.is at c.run.ensures.work_after in
    let lent = lends _ _ _ _ c.requires.iq_len c.requires.iq_len_bound (omega arith) (omega arith) (omega arith) in
    subst (λ (t : List ℕ). Grown c.args.out.now t c.refused.new.out) (sym (refused_is _ _ told lent)) c.refused.ensures

pub run_lines-requires : goal.run_lines-requires
run_lines-requires c =
    let places : 4096 ≤ length c.run.new.elements = omega arith in
    let told = rw c.in-Ok.is at c.run.ensures.work_after in
    let lent = lends _ _ _ _ c.requires.iq_len c.requires.iq_len_bound (omega arith) (omega arith) (omega arith) in
    record {
      listed_in_bounds = done_places _ told c.in-Ok.f c.run.new.elements refl refl lent places;
      listed_in_bounds_2 = subst (λ (t : List ℕ). HasRoom c.args.out.now t) (done_is _ told c.in-Ok.f c.run.new.elements refl refl lent) c.requires.in_bounds;
    }

pub returns-in-Ok : goal.returns-in-Ok
returns-in-Ok c =
    let told = rw c.in-Ok.is at c.run.ensures.work_after in
    let lent = lends _ _ _ _ c.requires.iq_len c.requires.iq_len_bound (omega arith) (omega arith) (omega arith) in
    subst (λ (t : List ℕ). Grown c.args.out.now t c.run_lines.new.out) (sym (done_is _ told c.in-Ok.f c.run.new.elements refl refl lent)) c.run_lines.ensures
