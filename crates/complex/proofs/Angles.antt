-- The loop that stores a unit for each angle. Assumes nothing.
use Rattle.std.proofs.Common.{ℕ, ◌<◌, ◌≡◌, ◌∙◌, List, length, get_or, take, arith}
use Rattle.std.proofs.lemmas.List.{get_or-take, length-take}
use lib.Ieee.{Float, nan}
use borrow.Author.Rules.{rules}
use Rattle.complex.specs.declared.value.Complex.{Complex}
use Rattle.complex.proofs.RowLaws.{z_fill_none, z_fill_turn0}
use Rattle.complex.specs.Units.{unit_of, unit_at}

-- of one of the first n angles
pub unit_is : (angles : List Float) (n k : ℕ) (z : Complex) → k < length (take n angles) → z ≡ unit_of (get_or (take n angles) k nan) → z ≡ unit_at angles k
unfolding unit_at
unit_is angles n k z less e =
    let first : k < n = omega (arith, length-take n angles) in
    e ∙ rw (get_or-take n angles k nan first)

pub ruleset stores = (rules, unit_is, z_fill_none, z_fill_turn0)
