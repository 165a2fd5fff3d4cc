-- `rank::select::Digits::tally` meets its contract.
use Rattle.std.proofs.Common.{◌≡◌, ◌/◌, ◌^◌, ◌<◌, arith}
use Rattle.std.proofs.lemmas.Nat.{mod_below, pow_pos}
use Rattle.rank.specs.Inner.{ordinal_at}
use Rattle.rank.proofs.Counted.{histogram_turn, histogram_room, power_most}
use Rattle.rank.proofs.select.Digits.tally.Goals as goal

pub overflow_add-hist : goal.overflow_add-hist
overflow_add-hist c =
    let d = c.args.self in
    let b : c.digit.result < 2 ^ d.bits = omega (arith, mod_below (c.ordinal-k.result / 2 ^ d.shift) (2 ^ d.bits) (pow_pos d.bits), c.digit.ensures.value) in
    let r = histogram_room c.loop-x.invariant (omega arith) _ b c.holds.result in
    record { fits = omega (arith, r, c.from.ensures) }

pub loop-x-preserved : goal.loop-x-preserved
loop-x-preserved c =
    let d = c.args.self in
    let is : c.ordinal-k.result ≡ ordinal_at c.args.v.now c.loop-x.x-index = cc in
    rw (c.from.ensures, c.holds.ensures) (histogram_turn (power_most d.bits d.bits_bound) c.loop-x.invariant is c.digit.ensures.value)
