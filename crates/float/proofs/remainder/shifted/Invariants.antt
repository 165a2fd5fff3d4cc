-- The invariant: r is what is left of m with eleven digits a turn behind it.
use Rattle.std.proofs.Common.{◌≡◌, ◌*◌, ◌%◌, ◌^◌}
use Rattle.float.proofs.remainder.shifted.Given as goal

abbrev pub invariant-loop : goal.invariant-loop
invariant-loop l = l.r ≡ l.m * 2 ^ (11 * l.counter) % l.n
