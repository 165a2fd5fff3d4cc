-- `trig::circle::Sines::sine_at` meets its contract.
use Rattle.std.proofs.Common.{leb, ◌∙◌, arith}
use Rattle.trig.proofs.Quarters.{quarters}
use Rattle.trig.proofs.SignBits.{entry_number, entry_room, entry_signed, entry_pattern}
use Rattle.trig.proofs.circle.Sines.sine_at.Goals as goal

pub float_to_bits-result : goal.float_to_bits-result
float_to_bits-result c = rw c.entry-v.ensures (entry_number c.args.k c.requires.k_bound)

pub overflow_add-result : goal.overflow_add-result
overflow_add-result c =
    rw (c.entry-v.ensures, c.sign_at.ensures) (omega (arith, entry_room c.args.k c.requires.k_bound (leb c.args.p 2048)))

pub float_from_bits-result : goal.float_from_bits-result
float_from_bits-result c =
    rw (c.entry-v.ensures, c.sign_at.ensures) (entry_pattern c.args.k c.requires.k_bound (leb c.args.p 2048))

pub returns : goal.returns
returns c =
    rw (c.entry-v.ensures, c.sign_at.ensures)
    (entry_signed c.args.k c.requires.k_bound (leb c.args.p 2048) ∙ rw c.requires.k_value (quarters c.args.p c.requires.p_bound))
