-- `trig::argument::nonzero` meets its contract.
use lib.Ieee.{of_bits, of_int}
use Rattle.trig.specs.Consts.{PI}
use Rattle.trig.proofs.Ratios.{step_small}
use Rattle.trig.proofs.argument.nonzero.Goals as goal

pub arctan-v-requires : goal.arctan-v-requires
arctan-v-requires c =
    rw (c.pick.ensures, c.abs-b.ensures, c.abs-a.ensures) (step_small c.args.re c.args.im)

pub returns : goal.returns
unfolding of_bits of_int PI
returns c =
    simp (
      c.pick-2.ensures,
      c.pick-z.ensures,
      c.pick-w.ensures,
      c.arctan-v.ensures,
      c.pick.ensures,
      c.abs-b.ensures,
      c.abs-a.ensures,
    )
