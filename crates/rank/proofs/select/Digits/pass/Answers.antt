-- `rank::select::Digits::pass` meets its contract.
use Rattle.std.proofs.lemmas.Nat.{pow_pos}
use Rattle.rank.proofs.Counted.{histogram_none, histogram_holds, next_digit, power_most}
use Rattle.rank.proofs.select.Digits.pass.Goals as goal

pub tally-requires : goal.tally-requires
tally-requires c = histogram_none _ _ _ _ (power_most c.args.self.bits c.args.self.bits_bound)

pub walk-requires : goal.walk-requires
walk-requires c = histogram_holds (pow_pos c.args.self.bits) (power_most c.args.self.bits c.args.self.bits_bound) c.tally.ensures c.requires

pub returns : goal.returns
returns c = next_digit (pow_pos c.args.self.bits) c.tally.ensures c.requires c.walk.ensures
