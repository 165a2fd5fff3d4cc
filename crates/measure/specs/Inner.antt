-- Not needed to read a public promise: what the functions behind the measures ensure. Definitions only.
use Rattle.std.specs.Prelude.{ℕ, ◌<◌, ◌≡◌, List, Float}
use Rattle.lists.specs.Those.{picked}
use Rattle.complex.specs.declared.value.Complex.{Complex}
use Rattle.complex.specs.Rows.{z_at}
use Rattle.classes.specs.declared.class.BlockClass.{BlockClass}
use Rattle.classes.specs.declared.class.BlockClass.TheVariants.{Edge, Interior, Gap}
use Rattle.classes.specs.Class.{codes_of}
use Rattle.fits.specs.declared.fit.ElementFit.{ElementFit}
use Rattle.prepared.specs.declared.powers.Level.{Level}
use Rattle.prepared.specs.Powers.{block_power}
use Rattle.prepared.specs.Left.{residual_mean}
use Rattle.prepared.specs.Inner.{of_class}
use Rattle.measure.specs.declared.residual.ResidualCheck.{ResidualCheck}
use Rattle.measure.specs.Residual.{ratio_db, floored, figures_of}

-- two slices that hold the means of so many blocks and the numbers of their classes
pub record Held (means codes : List Float) (z : ℕ → Complex) (class : ℕ → BlockClass) (blocks : ℕ) : Type 0 where
  pub mean : (b : ℕ) → b < blocks → z_at means b ≡ z b
  pub classes : codes ≡ codes_of class blocks

-- the figures of a level for each class
abbrev pub figures_from : Level → Level → Level → ResidualCheck
figures_from edge interior gap =
    record {
      edge_over_neighbour_db = ratio_db edge.value (floored gap.value);
      interior_over_neighbour_db = ratio_db interior.value (floored gap.value);
      edge_blocks = edge.count;
      interior_blocks = interior.count;
      gap_blocks = gap.count;
    }

-- the residual check of what two slices hold: the blocks' means, and the numbers of their classes
unfoldable pub residual_held : List Float → List Float → ℕ → Float → List ElementFit → ResidualCheck
residual_held means codes blocks fs fits =
    let left = block_power (residual_mean fs blocks fits (z_at means)) in
    figures_of (picked (of_class codes Edge) left blocks) (picked (of_class codes Interior) left blocks) (picked (of_class codes Gap) left blocks)
