-- `float::remainder::shifted` meets its contract.
use Rattle.std.proofs.Common.{◌*◌, ◌%◌, ◌∙◌, arith}
use Rattle.float.proofs.Modulo.{more_digits}
use Rattle.float.proofs.remainder.shifted.Goals as goal

pub loop-preserved : goal.loop-preserved
loop-preserved c = rw c.loop.invariant (more_digits c.args.m c.args.n (11 * c.loop.counter) 11 _ (omega arith))

pub returns : goal.returns
returns c = c.few_digits.ensures ∙ rw c.loop.invariant (more_digits c.args.m c.args.n (11 * c.loop.counter) (c.args.k % 11) c.args.k (omega arith))
