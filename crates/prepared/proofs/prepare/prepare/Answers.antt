use native.Mathlib.Omega.{arith}
use borrow.Author.Rules.{rules}
use Rattle.row.proofs.Steps.{step_low}
use Rattle.prepared.proofs.Prepared.{counted, made}
use Rattle.prepared.proofs.prepare.prepare.Goals as goal

pub block_means-count-requires-clause-len_nonzero : goal.block_means-count-requires-clause-len_nonzero
block_means-count-requires-clause-len_nonzero c = omega (arith, step_low c.args.recording.now.rate.hz, c.window-window.ensures)

pub slice_bounds-classify_blocks-end : goal.slice_bounds-classify_blocks-end
slice_bounds-classify_blocks-end c =
    let h = counted _ _ _ _ _ c.args.recording.now.samples.accepted c.window-window.ensures c.block_means-count.ensures.0 c.requires in
    search rules

pub invariant_of-result : goal.invariant_of-result
invariant_of-result c =
    let h = counted _ _ _ _ _ c.args.recording.now.samples.accepted c.window-window.ensures c.block_means-count.ensures.0 c.requires in
    record { some = h.some; inside = h.inside }

pub returns-clause-prepared : goal.returns-clause-prepared
returns-clause-prepared c =
    let h = counted _ _ _ _ _ c.args.recording.now.samples.accepted c.window-window.ensures c.block_means-count.ensures.0 c.requires in
    made _ _ _ _ _ _ _ _ _ h c.window-window.ensures c.block_means-count.ensures.0 c.block_means-count.ensures.1 (rw c.count.ensures at c.classify_blocks.ensures) c.classify_blocks.auto.class
