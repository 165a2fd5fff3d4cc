-- The last read is of this input, and asked for a piece; each goes on behind the one before it.
use Rattle.std.proofs.Common.{◌≡◌, ◌-◌, min, max, length}
use Rattle.format.proofs.input.read_to_end.Given as goal

abbrev pub invariant-loop-n : goal.invariant-loop-n
invariant-loop-n g l =
    (l.last.room ≡ length l.bytes) × (l.last.asked ≡ min (max 1 l.piece) (length l.bytes - l.last.there)) × (length l.bytes ≡ length l.initial.bytes)

abbrev pub decreases-loop-n : goal.decreases-loop-n
decreases-loop-n g l = length l.initial.bytes - l.last.there
