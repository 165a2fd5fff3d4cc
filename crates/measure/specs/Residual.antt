-- The residual check (01, part 6: `residual_check`, cancel.rs's own `ratio_db`, and `clean`): what taking the fits off
-- would leave of the strong sender, over the level of its neighbour. Definitions only.
use Rattle.std.specs.Prelude.{ℕ, Bool, false, ◌&&◌, cond, List, length, Float, Some, None}
use Rattle.std.specs.declared.option.Option.{Option}
use Rattle.std.specs.Float.{inf}
use Rattle.std.specs.Float.Ieee.{lt, le}
use Rattle.float.specs.Ops.{◌⊗◌, ◌⊘◌, of, plus_zero, half}
use Rattle.float.specs.Compare.{max_of}
use Rattle.logarithm.specs.Logarithm.{log10_of}
use Rattle.constants.specs.Constants.{NEIGHBOUR_PERCENTILE, MIN_POSITIVE, CLEAN_EDGE_OVER_NEIGHBOUR_DB, CLEAN_INTERIOR_OVER_NEIGHBOUR_DB}
use Rattle.complex.specs.declared.value.Complex.{Complex}
use Rattle.row.specs.Window.{window_of, samples, blocks}
use Rattle.row.specs.Blocks.{block_mean}
use Rattle.rank.specs.Select.{percentile_of}
use Rattle.elements.specs.declared.element.KeyedElement.{KeyedElement}
use Rattle.fits.specs.declared.fit.ElementFit.{ElementFit}
use Rattle.classes.specs.declared.class.BlockClass.{BlockClass}
use Rattle.classes.specs.declared.class.BlockClass.TheVariants.{Edge, Interior, Gap}
use Rattle.classes.specs.Classify.{class_of}
use Rattle.measure.specs.declared.residual.ResidualCheck.{ResidualCheck}
use Rattle.prepared.specs.Powers.{powers_of}
use Rattle.prepared.specs.Left.{residual_mean}

-- cancel.rs's `ratio_db`: +∞ where a side is missing or the lower one is not above 0; the upper one counts as no less
-- than the smallest normal number
unfoldable pub ratio_db : Option Float → Option Float → Float
ratio_db (Some n) (Some d) = cond (lt plus_zero d) (of 10 ⊗ log10_of (max_of n MIN_POSITIVE ⊘ d)) (inf false)
ratio_db (Some n) None = inf false
ratio_db None d = inf false

-- the Rust's `nb`: the neighbour's level, which is at least the smallest normal number
unfoldable pub floored : Option Float → Option Float
floored (Some v) = Some (max_of v MIN_POSITIVE)
floored None = None

-- the figures, from the powers of the edge, interior and gap blocks: their medians over the neighbour's level
unfoldable pub figures_of : List Float → List Float → List Float → ResidualCheck
figures_of edge interior gap =
    let neighbour = floored (percentile_of gap NEIGHBOUR_PERCENTILE) in
    record {
      edge_over_neighbour_db = ratio_db (percentile_of edge half) neighbour;
      interior_over_neighbour_db = ratio_db (percentile_of interior half) neighbour;
      edge_blocks = length edge;
      interior_blocks = length interior;
      gap_blocks = length gap;
    }

-- of so many blocks with these means and classes
unfoldable pub residual_of : Float → (ℕ → Complex) → (ℕ → BlockClass) → ℕ → List ElementFit → ResidualCheck
residual_of fs z class blocks fits =
    let left = residual_mean fs blocks fits z in
    figures_of (powers_of Edge class left blocks) (powers_of Interior class left blocks) (powers_of Gap class left blocks)

-- `residual_check`, of a recording at a rate and an estimate: its carrier, fits and elements
abbrev pub residual_check_of : List Float → Float → Float → List ElementFit → List KeyedElement → ResidualCheck
residual_check_of iq fs carrier fits elements =
    let len = window_of fs in
    residual_of fs (block_mean iq (carrier ⊘ fs) len) (class_of fs (samples iq) fits elements) (blocks iq len) fits

-- `clean`: both ratios at or under their thresholds. A NaN is not clean, −∞ is.
unfoldable pub clean_of : ResidualCheck → Bool
clean_of r = le r.edge_over_neighbour_db CLEAN_EDGE_OVER_NEIGHBOUR_DB && le r.interior_over_neighbour_db CLEAN_INTERIOR_OVER_NEIGHBOUR_DB
