-- What the code of the counts needs: one count, a row of counts and a group of cases with more in them.
-- Definitions only.
use Rattle.std.specs.Prelude.{ℕ, ◌+◌, ◌-◌, ◌^◌, min, Bool, cond, List, length, nat_lt, slice_index, slice_set}
use Rattle.stored.specs.declared.tally.Group.{Group}
use Rattle.stored.specs.declared.tally.Tally.{Tally}

-- a count with more added, up to the largest number, and a row of counts with more added at place k
abbrev pub sum_of : ℕ → ℕ → ℕ
sum_of count more = min (count + more) (2 ^ 64 - 1)

abbrev pub added : List ℕ → ℕ → ℕ → List ℕ
added row k more = slice_set row k (sum_of (slice_index row k) more)

-- a row that may have no place k, and the count of what is broken, which then has more
abbrev pub row_after : List ℕ → ℕ → ℕ → List ℕ
row_after row k more = cond (nat_lt k (length row)) (added row k more) row

abbrev pub broken_after : List ℕ → ℕ → ℕ → ℕ → ℕ
broken_after row broken k more = cond (nat_lt k (length row)) broken (sum_of broken more)

-- a group with a case of a call more, which is equal or not, and the count of what is broken, which has more where the
-- group has no place for the call
abbrev pub group_after : Group → ℕ → Bool → Group
group_after group call equal = record { asked = row_after group.asked call 1; equal = row_after group.equal call (cond equal 1 0) }

abbrev pub broken_in : Group → ℕ → ℕ → Bool → ℕ
broken_in group broken call equal = broken_after group.equal (broken_after group.asked broken call 1) call (cond equal 1 0)

-- all counts where one group or the other is that of the case
abbrev pub in_stored : Tally → ℕ → Bool → Tally
in_stored t call equal = record t { stored = group_after t.stored call equal; broken = broken_in t.stored t.broken call equal }

abbrev pub in_meant : Tally → ℕ → Bool → Tally
in_meant t call equal = record t { meant = group_after t.meant call equal; broken = broken_in t.meant t.broken call equal }

abbrev pub in_group : Tally → Bool → ℕ → Bool → Tally
in_group t meant call equal = cond meant (in_meant t call equal) (in_stored t call equal)
