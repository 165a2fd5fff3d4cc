-- The figure of clean, and a residual check that is given as its figures (include/cancel.h). Definitions only.
use Rattle.std.specs.Prelude.{Bool, List, [], ◌∷◌, get_or, Float}
use Rattle.std.specs.Float.{nan}
use Rattle.measure.specs.declared.residual.ResidualCheck.{ResidualCheck}
use Rattle.figures.specs.Flag.{flag_of}

-- The residual check that five figures stand for, as far as `clean` goes: of them the two ratios count, and the three
-- counts of blocks are not read.
abbrev pub given_check : List Float → ResidualCheck
given_check check =
    record {
      edge_over_neighbour_db = get_or check 0 nan;
      interior_over_neighbour_db = get_or check 1 nan;
      edge_blocks = 0;
      interior_blocks = 0;
      gap_blocks = 0;
    }

-- clean: 0 or 1
abbrev pub clean_figures : Bool → List Float
clean_figures c = flag_of c ∷ []
