-- `rank::select::Bounds::cell` meets its contract.
use Rattle.std.proofs.Common.{ℕ, ◌≡◌, ◌-◌, ◌/◌, ◌^◌, ◌<◌, bit_xor, sym, ap, ◌∙◌, arith}
use Rattle.std.proofs.Math.Nat.{div-eq_of_lt}
use Rattle.std.specs.Int.Count.{count_leading_zeros}
use Rattle.std.proofs.lemmas.Nat.{leading_length, xor_shr, xor_lt}
use Rattle.std.specs.Int.Bits.{xor_zero_r, xor_self, xor_assoc}
use Rattle.rank.proofs.select.Bounds.cell.Goals as goal

same : (a b : ℕ) → bit_xor a b ≡ 0 → a ≡ b
same a b e = sym (xor_zero_r a) ∙ ap (bit_xor a) (sym e) ∙ sym (xor_assoc a a b) ∙ ap (λ x. bit_xor x b) (xor_self a)

-- without as many bits as the exclusive or has, they are the same
shortened : (a b : ℕ) → a < 2 ^ 64 → b < 2 ^ 64 → let n = 64 - count_leading_zeros 64 (bit_xor a b) in a / 2 ^ n ≡ b / 2 ^ n
shortened a b h k =
    let w = leading_length 64 (bit_xor a b) (xor_lt 64 a b h k) in
    let n : 64 - count_leading_zeros 64 (bit_xor a b) ≡ w.0 = omega (arith, w.1) in
    rw n (same (a / 2 ^ w.0) (b / 2 ^ w.0) (sym (xor_shr a b w.0) ∙ div-eq_of_lt w.2))

pub returns : goal.returns
returns c = let e = shortened c.args.self.least c.args.self.greatest (omega arith) (omega arith) in record { least = sym c.shortened.ensures; greatest = sym e ∙ sym c.shortened.ensures }
