-- Reading an input to its end, a piece at a time: what one read means for the whole. What the reads answer is the
-- reader's. Definitions only.
use Rattle.std.specs.Prelude.{ℕ, zero, suc, ◌+◌, Bool, true, false, ltb, None, Some}
use Rattle.std.specs.Option.{unwrap_or}
use Rattle.std.specs.declared.option.Option.{Option}
use Rattle.format.specs.declared.reads.Read.{Read}
use Rattle.format.specs.declared.reads.Reading.{Reading}
use Rattle.format.specs.declared.reads.Reading.TheVariants.{Failed, Ended, Full, More}

-- bytes came, and n are there now: more may come as long as there is room
abbrev pub room_for : Bool → ℕ → Reading
room_for true n = More n
room_for false n = Full

-- by how many came: none only at the end of the input
abbrev pub came_of : ℕ → ℕ → ℕ → Reading
came_of room there zero = Ended
came_of room there (suc k) = room_for (ltb (there + suc k) room) (there + suc k)

-- by the answer
abbrev pub answer_of : ℕ → ℕ → Option ℕ → Reading
answer_of room there None = Failed
answer_of room there (Some k) = came_of room there k

-- what a read means for the input
unfoldable pub reading_of : Read → Reading
reading_of read = answer_of read.room read.there read.answer

-- the reading goes on only where bytes came and there is room for more
abbrev pub goes_on : Reading → Bool
goes_on Failed = false
goes_on Ended = false
goes_on Full = false
goes_on (More n) = true

-- How many bytes the input counts as having, by the read that ended it: those that were there at its end, and as many
-- as there is room for where it has more or could not be read, so that no part of a recording passes for a whole one.
abbrev pub end_of : ℕ → ℕ → Reading → ℕ
end_of room there Failed = room
end_of room there Ended = there
end_of room there Full = room
end_of room there (More n) = room

unfoldable pub count_of : Read → ℕ
count_of read = end_of read.room read.there (reading_of read)

-- How many bytes are there after a read, whatever it means for the input: a read that fails brings none.
abbrev pub there_after : Read → ℕ
there_after read = read.there + unwrap_or read.answer 0
