-- `trig::argument::arctan` meets its contract.
use Rattle.std.proofs.Common.{ap, ◌∙◌, arith}
use lib.Ieee.{of_bits, of_int, to_unsigned}
use Rattle.trig.specs.Argument.{arctan_of}
use Rattle.trig.proofs.argument.arctan.Goals as goal

pub entry-requires : goal.entry-requires
unfolding of_bits of_int
entry-requires c = omega (arith, c.to_whole.ensures ∙ ap (to_unsigned 64) c.round-j.ensures, c.requires)

pub returns : goal.returns
unfolding arctan_of of_bits of_int
returns c =
    simp (
      c.small_arctan.ensures,
      c.entry.ensures,
      c.to_whole.ensures,
      c.away-u.ensures,
      c.round-j.ensures,
    )
