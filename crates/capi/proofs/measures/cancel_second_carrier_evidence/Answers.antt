-- `capi::measures::cancel_second_carrier_evidence` meets its contract.
use Rattle.given.specs.Evidence.{evidence_rule}
use Rattle.figures.specs.Measures.{evidence_figures}
use Rattle.capi.specs.Measures.{evidence_call, evidence_told}
use Rattle.capi.proofs.Ways.{told_way, measure_told}
use Rattle.capi.proofs.measures.cancel_second_carrier_evidence.Goals as goal

pub returns : goal.returns
unfolding evidence_call evidence_rule
returns c =
    told_way evidence_told _ _ evidence_figures _ _ _ _ _ _ _ _ c.second_carrier_evidence.ensures.work_after c.told.ensures
    (λ x e q. measure_told _ _ _ q)
