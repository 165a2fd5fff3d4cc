-- `rank::select::value` meets its contract.
use Rattle.std.proofs.Common.{sym}
use lib.Ieee.{of_bits}
use Rattle.rank.specs.Inner.{of_ordinal}
use Rattle.rank.proofs.Ordinals.{value_low, value_high, low_number, high_number, ordinal_under}
use Rattle.rank.proofs.select.value.Goals as goal

pub returns-then-k-eq18446744073709551615 : goal.returns-then-k-eq18446744073709551615
unfolding of_bits of_ordinal
returns-then-k-eq18446744073709551615 c = rw c.if-k-eq18446744073709551615.true

pub float_from_bits-result : goal.float_from_bits-result
float_from_bits-result c = low_number c.args.k c.requires c.if-k-lt-MIDDLE.true

pub float_from_bits-result-else-k-lt-MIDDLE : goal.float_from_bits-result-else-k-lt-MIDDLE
float_from_bits-result-else-k-lt-MIDDLE c = high_number c.args.k c.requires c.if-k-eq18446744073709551615.false

pub returns-then-k-lt-MIDDLE : goal.returns-then-k-lt-MIDDLE
returns-then-k-lt-MIDDLE c = sym (value_low c.args.k c.if-k-lt-MIDDLE.true)

pub returns-else-k-lt-MIDDLE : goal.returns-else-k-lt-MIDDLE
returns-else-k-lt-MIDDLE c =
    let k = c.args.k in
    sym (value_high k c.if-k-lt-MIDDLE.false (ordinal_under k c.requires c.if-k-eq18446744073709551615.false))
