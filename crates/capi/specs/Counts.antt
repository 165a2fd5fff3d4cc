-- Counts among the figures of a call, as a caller from C reads them. Definitions only.
use Rattle.std.specs.Prelude.{ℕ, suc, ◌^◌, ◌<◌, ◌≡◌, false, List, [], ◌∷◌, get_or, Float}
use Rattle.std.specs.Float.{nan}
use Rattle.std.specs.Float.Ieee.{to_unsigned}
use Rattle.std.specs.Float.Ieee.Exact.{HasValue}
use Rattle.engine.specs.declared.run.RunFigures.{RunFigures}

-- A figure is the count n with nothing lost: its value is n, which is below 2^53, and C's conversion to a whole number
-- of 64 bits gives n.
pub record IsCount (x : Float) (n : ℕ) : Type 0 where
  pub below : n < 2 ^ 53
  pub value : HasValue x false n 1
  pub back : to_unsigned 64 x ≡ n

-- the figures from place `at` on are these counts, one after the other
abbrev pub Counts : List Float → ℕ → List ℕ → Type 0
Counts figures at [] = Unit {0}
Counts figures at (n ∷ ns) = IsCount (get_or figures at nan) n × Counts figures (suc at) ns

-- the figure at a place as the whole number that C's conversion gives
abbrev pub whole : List Float → ℕ → ℕ
whole figures at = to_unsigned 64 (get_or figures at nan)

-- The counts of a run, in their order: those up to other, and behind the ratios the blocks of both measures.
abbrev pub first_counts : RunFigures → List ℕ
first_counts f =
    f.samples ∷ f.window ∷ f.estimate.found.key_downs ∷ f.estimate.found.listed ∷ f.estimate.found.short ∷ f.estimate.fitted ∷ f.skipped
    ∷ f.estimate.found.airtime ∷ f.blocks ∷ f.classes.edge ∷ f.classes.interior ∷ f.classes.gap ∷ f.classes.other ∷ []

abbrev pub measured_counts : RunFigures → List ℕ
measured_counts f = f.residual.edge_blocks ∷ f.residual.interior_blocks ∷ f.residual.gap_blocks ∷ f.evidence.gap_blocks ∷ []
