-- `trig::circle::Sines::entry` meets its contract.
use Rattle.std.proofs.Common.{rules}
use Rattle.trig.proofs.Rules.{sine_read}
use Rattle.trig.proofs.circle.Sines.entry.Goals as goal

pub returns : goal.returns
returns c = rw c.args.self.now.of_table (sine_read c.args.k (search rules))
