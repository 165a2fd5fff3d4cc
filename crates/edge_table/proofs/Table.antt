-- 01's edge table, proved: `edge_table` is the one statement, and EdgeTable of specs/Table.antt says its rows. Assumes
-- nothing.
use Prim.Native.Nat.{◌^◌}
use mathlib.Core.Path.{◌≡◌, refl, sym, ◌∙◌}
use mathlib.Core.Bool.{true, false}
use lib.IntN.{negsuc}
use lib.Ieee.{fin, neg, mul, of_int, round}
use Rattle.float.specs.Ops.{◌⊗◌, of, fraction}
use Rattle.float.proofs.Literals.{literals, round_halves, rem_reaches_one}
use Rattle.trig.proofs.Edges.{sin_zero, cos_zero}
use Rattle.constants.specs.Constants.{SLOPE_BLOCK_S}
use Rattle.rank.proofs.Examples.{rank_of_four, rank_of_five}
use Rattle.elements.proofs.Edges.{step_3000, window_3000}
use Rattle.measure.proofs.Edges.{no_edge_blocks}
use Rattle.edge_table.specs.Table.{EdgeTable}
use Rattle.edge_table.proofs.Elements.{rows}
use Rattle.edge_table.proofs.Fits.{block_3000, fitted_100, fitted_61, skipped_60}
use Rattle.edge_table.proofs.Spans.{spanned}
use Rattle.edge_table.proofs.Classes.{blocks_3000, classed}
use Rattle.edge_table.proofs.Hypotheses.{two_signals, one_signal, unresolved}

-- 1.5, and −2^−60
one_and_half : (SLOPE_BLOCK_S ⊗ of 3000 ≡ fin false 3 (negsuc 0)) × (fraction 3 2 ≡ fin false 3 (negsuc 0))
unfolding SLOPE_BLOCK_S fraction round mul of_int
one_and_half = (refl, refl)

just_below : neg (fraction 1 (2 ^ 60)) ≡ fin true 1 (negsuc 59)
unfolding fraction round neg
just_below = refl

pub edge_table : EdgeTable
edge_table =
    record {
      step = step_3000;
      window = window_3000;
      slope_block_is = (one_and_half.0 ∙ sym one_and_half.1, round_halves.0, block_3000);
      round_away = round_halves.1;
      remainder = rw (just_below, ← literals.3) rem_reaches_one;
      sine = sin_zero;
      cosine = cos_zero;
      rank_of_four = rw (← literals.2) rank_of_four;
      rank_of_five = rw (← literals.2) rank_of_five;
      times = rows.ones_100_199;
      gain = fitted_100;
      span = spanned;
      listed = rows.ones_40_54;
      short = rows.ones_40_53;
      listed_61 = rows.ones_61;
      fitted_61 = fitted_61;
      listed_60 = rows.ones_60;
      skipped_60 = skipped_60;
      blocks = blocks_3000;
      classes = classed;
      two_signals = two_signals;
      one_signal = one_signal;
      unresolved = unresolved;
      no_edge_blocks = λ iq rate hz fits elements e. no_edge_blocks rate _ _ _ fits e;
    }
