-- `capi::functions::cancel_norm` meets its contract.
use Rattle.capi.proofs.functions.cancel_norm.Goals as goal

pub returns : goal.returns
returns c = rw (c.norm.ensures, c.new.ensures)
