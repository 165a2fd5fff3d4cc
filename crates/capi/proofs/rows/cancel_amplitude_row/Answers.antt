-- `capi::rows::cancel_amplitude_row` meets its contract.
use Rattle.strong.specs.Amplitude.{row_rule}
use Rattle.strong.proofs.AmplitudeAccepted.{row_counted}
use Rattle.figures.specs.Rows.{row_figures}
use Rattle.capi.specs.Rows.{row_call, row_told}
use Rattle.capi.proofs.Ways.{told_way, numbers_told}
use Rattle.capi.proofs.rows.cancel_amplitude_row.Goals as goal

pub returns : goal.returns
unfolding row_call row_rule
returns c =
    told_way row_told _ _ row_figures _ _ _ _ _ _ _ _ c.amplitude_row.ensures.work_after c.told.ensures
    (λ x e q. numbers_told _ _ _ _ _ _ (row_counted c.args.iq.now c.args.fs c.args.carrier_hz c.args.row.now c.args.work.now _ e) q)
