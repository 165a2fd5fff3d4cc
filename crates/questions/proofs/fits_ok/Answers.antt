-- `questions::fits_ok` meets its contract: a fit is read from its place alone.
use Rattle.std.proofs.Common.{◌∙◌, ap, refl, rules}
use Rattle.fits.specs.List.{fit_at}
use Rattle.fits.proofs.Records.{fit_read}
use Rattle.questions.specs.Questions.{fit_ok}
use Rattle.questions.proofs.Given.{ok_same}
use Rattle.questions.proofs.fits_ok.Goals as goal

pub returns : goal.returns
returns c =
    c.records_ok.ensures (λ x. fit_ok (fit_at x 0)) (λ x t k. search rules)
    ∙ ok_same fit_ok (fit_at c.args.list.now) _ _ _ _ (λ k h. ap fit_ok (fit_read _ _ _ k _ refl h refl))
