-- `rank::select::ordinal` meets its contract.
use Rattle.std.proofs.Common.{sym, subst, arith}
use Rattle.std.specs.Float.{binary64}
use Rattle.std.proofs.Math.Dec.{T}
use lib.Ieee.Bits.{to_bits-lt}
use Rattle.rank.specs.Inner.{ordinal_of}
use Rattle.rank.proofs.Ordinals.{ordinal_plus, ordinal_minus}
use Rattle.rank.proofs.select.ordinal.Goals as goal

pub returns-then-is_nan : goal.returns-then-is_nan
unfolding ordinal_of
returns-then-is_nan c = rw (← c.if-is_nan.ensures.value)

pub overflow_sub-result : goal.overflow_sub-result
overflow_sub-result c = omega (arith, to_bits-lt binary64 c.args.x (subst T (sym c.well_formed.0.1) tt))

pub returns-then-b-lt-MIDDLE : goal.returns-then-b-lt-MIDDLE
unfolding ordinal_of
returns-then-b-lt-MIDDLE c = rw (← c.if-is_nan.ensures.value) (sym (ordinal_plus _ c.if-b-lt-MIDDLE.true))

pub returns-else-b-lt-MIDDLE : goal.returns-else-b-lt-MIDDLE
unfolding ordinal_of
returns-else-b-lt-MIDDLE c = rw (← c.if-is_nan.ensures.value) (sym (ordinal_minus _ c.if-b-lt-MIDDLE.false))
