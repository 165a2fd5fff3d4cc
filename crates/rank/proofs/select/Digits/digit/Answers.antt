-- `rank::select::Digits::digit` meets its contract.
use Rattle.std.proofs.Common.{◌≡◌, ◌-◌, ◌*◌, ◌/◌, ◌%◌, ◌^◌, bit_and, arith}
use Rattle.std.proofs.lemmas.Nat.{and_mask, one_shl, mod_below, pow_pos}
use Rattle.rank.proofs.Counted.{power_most}
use Rattle.rank.proofs.select.Digits.digit.Goals as goal

pub returns : goal.returns
returns c =
    let h = c.args.k / 2 ^ c.args.self.shift in
    let b = c.args.self.bits in
    let e : bit_and h (1 * 2 ^ b % 2 ^ 64 - 1) ≡ h % 2 ^ b = rw (one_shl b 64 (omega (arith, c.args.self.bits_bound))) (and_mask h b) in
    record { bound = omega (arith, e, mod_below h (2 ^ b) (pow_pos b), power_most b c.args.self.bits_bound); value = e }
