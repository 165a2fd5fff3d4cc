use Rattle.complex.proofs.Angles.{stores}
use Rattle.complex.proofs.units.cos_sin.Goals as goal

pub loop-k-init : goal.loop-k-init
loop-k-init c = search stores

pub loop-k-preserved : goal.loop-k-preserved
loop-k-preserved c = search stores
