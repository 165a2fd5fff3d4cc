-- The numbers of refusals. Assumes nothing.
use native.Mathlib.Omega.{arith}
use mathlib.Core.Path.{◌≡◌}
use Rattle.questions.specs.declared.refusals.Refusal.{Refusal}
use Rattle.questions.specs.declared.refusals.Refusal.TheVariants.{Rate, Count, Sample, Carrier, Places, Work, Given, Valley, Peak, Hints, Answers, Records, Evidence, Tray, Reference, Unit, Order, Text, Positions}
use Rattle.questions.specs.Refusals.{number_of}

-- none is 0, which is the number of an answer that refuses nothing
pub number_some : (r : Refusal) → number_of r ≡ 0 → ⊥
number_some Rate e = omega arith
number_some Count e = omega arith
number_some Sample e = omega arith
number_some Carrier e = omega arith
number_some Places e = omega arith
number_some Work e = omega arith
number_some Given e = omega arith
number_some Valley e = omega arith
number_some Peak e = omega arith
number_some Hints e = omega arith
number_some Answers e = omega arith
number_some Records e = omega arith
number_some Evidence e = omega arith
number_some Tray e = omega arith
number_some Reference e = omega arith
number_some Unit e = omega arith
number_some Order e = omega arith
number_some Text e = omega arith
number_some Positions e = omega arith
