-- `questions::elements_ok` meets its contract: an element is read from its place alone.
use Rattle.std.proofs.Common.{◌∙◌, ap, refl, rules}
use Rattle.elements.specs.Element.{element_at}
use Rattle.elements.proofs.Records.{element_read}
use Rattle.questions.specs.Questions.{element_ok}
use Rattle.questions.proofs.Given.{ok_same}
use Rattle.questions.proofs.elements_ok.Goals as goal

pub returns : goal.returns
returns c =
    c.records_ok.ensures (λ x. element_ok (element_at x 0)) (λ x t k. search rules)
    ∙ ok_same element_ok (element_at c.args.list.now) _ _ _ _ (λ k h. ap element_ok (element_read _ _ _ k _ refl h refl))
