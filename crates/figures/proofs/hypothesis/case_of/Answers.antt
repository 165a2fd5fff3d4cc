-- `figures::hypothesis::case_of` meets its contract, case by case.
use lib.Ieee.{of_bits, of_int}
use Rattle.figures.proofs.hypothesis.case_of.Goals as goal

pub returns-in-OneSignal : goal.returns-in-OneSignal
unfolding of_bits of_int
returns-in-OneSignal c = rw c.in-OneSignal.is

pub returns-in-TwoSignalCw : goal.returns-in-TwoSignalCw
unfolding of_bits of_int
returns-in-TwoSignalCw c = rw c.in-TwoSignalCw.is

pub returns-in-NonCw : goal.returns-in-NonCw
unfolding of_bits of_int
returns-in-NonCw c = rw c.in-NonCw.is

pub returns-in-Unresolved : goal.returns-in-Unresolved
unfolding of_bits of_int
returns-in-Unresolved c = rw c.in-Unresolved.is
