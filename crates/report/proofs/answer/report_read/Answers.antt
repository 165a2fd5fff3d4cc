-- `report::answer::report_read` meets its contract: a full array is refused.
use native.Mathlib.Omega.{arith}
use lib.Seq.{take_all}
use Rattle.report.proofs.Asks.{report_full}
use Rattle.report.proofs.answer.report_read.Goals as goal

pub returns-clause-bytes_value : goal.returns-clause-bytes_value
returns-clause-bytes_value c = λ h. rw (take_all c.args.came.count c.args.bytes.now (omega arith)) (report_full c.args.bytes.now (omega arith))
