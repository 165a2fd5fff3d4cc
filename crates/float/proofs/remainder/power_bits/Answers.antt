use Rattle.std.proofs.Common.{arith}
use Rattle.std.proofs.lemmas.Nat.{one_shl, pow_below}
use Rattle.float.proofs.Modulo.{low_power, high_power}
use Rattle.float.proofs.remainder.power_bits.Goals as goal

pub returns-then-e-lt52 : goal.returns-then-e-lt52
returns-then-e-lt52 c =
    let e = c.args.e in
    let h = c.if-e-lt52.true in
    rw (one_shl e 64 (omega arith)) (omega (arith, pow_below e 52 h), low_power e h)

pub returns : goal.returns
returns c = (omega arith, high_power c.args.e c.if-e-lt52.false)
