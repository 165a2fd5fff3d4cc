-- `capi::rows::cancel_block_classes` meets its contract.
use Rattle.given.specs.Blocks.{classes_rule}
use Rattle.given.proofs.BlocksAccepted.{blocks_told}
use Rattle.figures.specs.Rows.{classes_figures}
use Rattle.capi.specs.Rows.{classes_call, classes_told}
use Rattle.capi.proofs.Ways.{told_way, numbers_told}
use Rattle.capi.proofs.rows.cancel_block_classes.Goals as goal

pub returns : goal.returns
unfolding classes_call classes_rule
returns c =
    told_way classes_told _ _ classes_figures _ _ _ _ _ _ _ _ c.block_classes.ensures c.told.ensures
    (λ x e q. numbers_told _ _ _ _ _ _ (blocks_told c.args.iq_len c.args.fs c.args.carrier_hz c.args.carrier_step_hz c.args.elements.now c.args.element_count c.args.fits.now c.args.fit_count c.args.classes.now _ e) q)
