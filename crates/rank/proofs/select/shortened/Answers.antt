-- `rank::select::shortened` meets its contract.
use Rattle.std.proofs.Common.{ℕ, ◌≡◌, ◌/◌, ◌^◌, ◌<◌, Option, Some, None, sym, arith}
use Rattle.std.specs.Option.{SomeIff, unwrap_or}
use Rattle.std.proofs.Math.Nat.{div-eq_of_lt, lt_of_lt_of_le}
use Rattle.std.proofs.Math.Pow.{pow_mono}
use Rattle.rank.proofs.select.shortened.Goals as goal

cases : (k b : ℕ) (r : Option ℕ) → k < 2 ^ 64 → SomeIff r (b < 64) (k / 2 ^ b) → unwrap_or r 0 ≡ k / 2 ^ b
cases k b None h e = sym (div-eq_of_lt (lt_of_lt_of_le h (pow_mono {i = 64} (omega arith))))
cases k b (Some x) h e = e.1

pub returns : goal.returns
returns c = rw c.unwrap_or.ensures (cases c.args.k c.args.bits c.checked_shr.result c.ranges.k.fits c.checked_shr.ensures)
