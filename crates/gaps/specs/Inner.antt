-- Not needed to read a public promise: a turn of the loop over the pairs. Definitions only.
use Rattle.std.specs.Prelude.{◌+◌}
use Rattle.float.specs.Ops.{◌⊕◌}
use Rattle.complex.specs.declared.value.Complex.{Complex}
use Rattle.complex.specs.Value.{c_add, c_norm}
use Rattle.gaps.specs.declared.pairs.Pairs.{Pairs}

-- what was found of the pairs, with one more pair, whose product is p
abbrev pub pair_plus : Pairs → Complex → Pairs
pair_plus a p = record { count = a.count + 1; sum = c_add a.sum p; size = a.size ⊕ c_norm p }
