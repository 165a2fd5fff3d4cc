use mathlib.Core.Path.{◌≡◌}
use Rattle.synth.specs.Inner.{less_part}
use Rattle.synth.proofs.removal.subtract_span.Given as goal

abbrev pub invariant-loop-j : goal.invariant-loop-j
invariant-loop-j l = l.part ≡ less_part l.fs l.cyc l.f l.lo l.initial.part l.j
