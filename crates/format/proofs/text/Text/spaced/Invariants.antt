-- The first numbers are put.
use Rattle.std.proofs.Common.{take}
use Rattle.format.specs.Text.{spaced}
use Rattle.format.specs.Growing.{Grown}
use Rattle.format.proofs.text.Text.spaced.Given as goal

abbrev pub invariant-loop-n : goal.invariant-loop-n
invariant-loop-n l = Grown l.initial.self (spaced (take l.n-index l.numbers)) l.self
