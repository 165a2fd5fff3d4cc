-- A finite number is no NaN.
use Rattle.std.proofs.Common.{rules}
use Rattle.float.proofs.Finiteness.{finite_not_nan}
use Rattle.row.proofs.Finite.{finite_at}
use Rattle.row.proofs.recording.Samples.at.Goals as goal

pub float_to_float-result : goal.float_to_float-result
float_to_float-result c = let iq = c.args.self.now.accepted in search (rules, finite_at, finite_not_nan)
