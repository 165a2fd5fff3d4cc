use lib.Ieee.{of_bits, of_int}
use Rattle.row.specs.Window.{rate_ok}
use Rattle.row.proofs.window.rate_ok.Goals as goal

pub returns-then-fs : goal.returns-then-fs
unfolding rate_ok of_bits of_int
returns-then-fs c = rw c.if-fs.true

pub returns-else-fs : goal.returns-else-fs
unfolding rate_ok of_bits of_int
returns-else-fs c = rw c.if-fs.false
