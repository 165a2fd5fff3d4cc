-- `capi::calls::cancel_fit_elements` meets its contract.
use Rattle.strong.specs.Fit.{fit_rule}
use Rattle.strong.proofs.FitAccepted.{fit_done}
use Rattle.figures.specs.Calls.{fitted_figures}
use Rattle.capi.specs.Calls.{fit_call, fit_told}
use Rattle.capi.proofs.Ways.{told_way, fit_told_lem}
use Rattle.capi.proofs.calls.cancel_fit_elements.Goals as goal

pub returns : goal.returns
unfolding fit_call fit_rule
returns c =
    told_way fit_told _ _ fitted_figures _ _ _ _ _ _ _ _ c.fit_elements.ensures c.told.ensures
    (λ x e q. fit_told_lem _ _ _ _ _ (fit_done c.args.iq.now c.args.fs c.args.carrier_hz c.args.elements.now c.args.element_count c.args.fits.now c.args.work.now _ e).1 q)
