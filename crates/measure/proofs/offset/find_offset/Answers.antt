use Rattle.constants.proofs.Bits.{pair_factor_bits}
use Rattle.measure.proofs.Offsets.{offset_none, offset_some}
use Rattle.measure.proofs.offset.find_offset.Goals as goal

pub returns-then-pairs-eq0 : goal.returns-then-pairs-eq0
returns-then-pairs-eq0 c = offset_none _ _ _ _ _ c.if-pairs-eq0.true

pub returns : goal.returns
returns c =
    rw pair_factor_bits (offset_some _ _ _ _ _ _ _ _ _ c.if-pairs-eq0.false c.from_whole.ensures c.args.classed.now.grid.window_is c.arg.ensures c.strongest.ensures)
