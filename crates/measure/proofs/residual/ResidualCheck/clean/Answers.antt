use Rattle.constants.proofs.Bits.{clean_edge_over_neighbour_bits, clean_interior_over_neighbour_bits}
use Rattle.measure.specs.Residual.{clean_of}
use Rattle.measure.proofs.residual.ResidualCheck.clean.Goals as goal

pub returns-else-self : goal.returns-else-self
unfolding clean_of
returns-else-self c = rw (clean_edge_over_neighbour_bits, c.if-self.false)

pub returns-then-self : goal.returns-then-self
unfolding clean_of
returns-then-self c = rw (clean_edge_over_neighbour_bits, clean_interior_over_neighbour_bits, c.if-self.true)
