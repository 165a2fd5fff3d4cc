-- `capi::hypothesis::cancel_classify` meets its contract.
use Rattle.questions.specs.Answers.{by_number}
use Rattle.capi.specs.Hypothesis.{classify_call}
use Rattle.capi.proofs.hypothesis.cancel_classify.Goals as goal

pub returns : goal.returns
unfolding by_number classify_call
returns c = rw (c.of_hypothesis.ensures, c.classify.ensures, c.given_offset-offset.ensures)
