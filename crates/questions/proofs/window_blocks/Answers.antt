-- `questions::window_blocks` meets its contract.
use Prim.Native.Nat.{ℕ, ◌/◌}
use native.Mathlib.Nat.{div-div-eq-div-mul, mul_comm}
use mathlib.Core.Path.{ap, ◌∙◌}
use borrow.Author.Rules.{rules}
use Rattle.row.specs.Window.{step_of}
use Rattle.row.proofs.Steps.{step_low}
use Rattle.questions.proofs.window_blocks.Goals as goal

pub nonzero_div-result-2 : goal.nonzero_div-result-2
nonzero_div-result-2 c = let low = step_low c.args.fs in let step = c.edge_step.ensures in search rules

pub returns : goal.returns
returns c =
    let n = c.args.iq_len / 2 in
    let step = step_of c.args.fs in
    rw c.edge_step.ensures (div-div-eq-div-mul n step 8 ∙ ap (λ (w : ℕ). n / w) (mul_comm step 8))
