-- `float::whole::by_sign` meets its contract: what is above zero is not below it.
use Rattle.std.proofs.lemmas.Float.{lt_irrefl, lt_trans}
use lib.Ieee.{of_bits}
use Rattle.float.proofs.Compared.{nought, yes}
use Rattle.float.proofs.whole.by_sign.Goals as goal

pub returns-then-x-clause-below : goal.returns-then-x-clause-below
unfolding of_bits
returns-then-x-clause-below g c h = absurd (lt_irrefl nought (lt_trans nought c.args.x nought (yes c.if-x.true) h))
