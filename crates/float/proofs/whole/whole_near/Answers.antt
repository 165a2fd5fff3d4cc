-- `float::whole::whole_near` meets its contract.
use Rattle.std.proofs.Common.{rules}
use lib.Ieee.{of_bits}
use Rattle.float.proofs.Compared.{yes}
use Rattle.float.proofs.Wholes.{near_is}
use Rattle.float.proofs.whole.whole_near.Goals as goal

pub returns : goal.returns
unfolding of_bits
returns c =
    let m = c.mended.ensures in
    near_is c.args.x _ (yes c.well_formed.0.1) c.requires (λ k. let h = m.below k in search rules) m.whole
