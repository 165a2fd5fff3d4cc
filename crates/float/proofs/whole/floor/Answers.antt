-- `float::whole::floor` meets its contract.
use Rattle.std.proofs.Common.{sym, ◌∙◌}
use Rattle.float.proofs.Compared.{yes}
use Rattle.float.proofs.Picks.{floor_pick, floor_steps, floor_is}
use Rattle.float.proofs.Wholes.{neg_above, signed_is}
use Rattle.float.proofs.whole.floor.Goals as goal

pub by_sign-requires-clause-minus : goal.by_sign-requires-clause-minus
by_sign-requires-clause-minus c = neg_above c.args.x

pub returns : goal.returns
returns c =
    let s = c.by_sign.ensures in
    signed_is floor_pick floor_steps c.args.x _ (yes c.well_formed.0.1) s.above s.below s.none ∙ sym (floor_is c.args.x)
