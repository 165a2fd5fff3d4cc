-- `capi::clean::cancel_clean` meets its contract.
use Rattle.questions.specs.Answers.{by_number}
use Rattle.capi.specs.Clean.{clean_call}
use Rattle.capi.proofs.clean.cancel_clean.Goals as goal

pub returns : goal.returns
unfolding by_number clean_call
returns c = rw (c.of_clean.ensures, c.clean.ensures, c.given_check-c.ensures)
