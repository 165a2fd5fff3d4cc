use Rattle.std.proofs.Common.{◌%◌, ap, arith}
use lib.Pow.{shl_exact}
use Rattle.float.proofs.remainder.few_digits.Goals as goal

pub returns : goal.returns
returns c = ap (λ x. x % c.args.n) (shl_exact 53 c.args.k 64 (omega arith) (omega arith))
