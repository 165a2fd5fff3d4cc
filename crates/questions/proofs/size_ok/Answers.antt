-- `questions::size_ok` meets its contract.
use lib.Ieee.{of_bits}
use Rattle.float.specs.Size.{sized}
use Rattle.questions.specs.Questions.{size_ok}
use Rattle.questions.proofs.size_ok.Goals as goal

pub returns-then-finite : goal.returns-then-finite
unfolding size_ok sized of_bits
returns-then-finite c = rw (c.abs.ensures, ← c.finite.ensures, c.if-finite.true)
