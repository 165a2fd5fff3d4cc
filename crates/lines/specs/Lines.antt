-- The lines of the report on a recording (01, part 8). Definitions only.
use Rattle.std.specs.Prelude.{ℕ, Bool, true, false, List, [], ◌∷◌, ◌++◌, codes}
use Rattle.std.specs.Float.Ieee.{to_unsigned}
use Rattle.elements.specs.declared.element.KeyedElement.{KeyedElement}
use Rattle.elements.specs.declared.keying.Found.{Found}
use Rattle.classes.specs.declared.classify.ClassCounts.{ClassCounts}
use Rattle.measure.specs.declared.hypothesis.Hypothesis.{Hypothesis}
use Rattle.measure.specs.declared.hypothesis.Hypothesis.TheVariants.{OneSignal, TwoSignalCw, NonCw, Unresolved}
use Rattle.engine.specs.declared.run.RunFigures.{RunFigures}
use Rattle.format.specs.Text.{line}

-- size: samples, window, blocks
abbrev pub size_line : ℕ → ℕ → ℕ → List ℕ
size_line samples window blocks = line (codes "(size") (samples ∷ window ∷ blocks ∷ [])

-- keys: key-downs, listed, short, fitted, skipped
abbrev pub keys_line : Found → ℕ → ℕ → List ℕ
keys_line found fitted skipped = line (codes "(keys") (found.key_downs ∷ found.listed ∷ found.short ∷ fitted ∷ skipped ∷ [])

-- air: the airtime
abbrev pub air_line : ℕ → List ℕ
air_line airtime = line (codes "(air") (airtime ∷ [])

-- blocks: edge, interior, gap, other
abbrev pub blocks_line : ClassCounts → List ℕ
blocks_line classes = line (codes "(blocks") (classes.edge ∷ classes.interior ∷ classes.gap ∷ classes.other ∷ [])

-- One key line (up, down) per listed element.
abbrev pub key_line : KeyedElement → List ℕ
key_line e = line (codes "(key") (to_unsigned 64 e.up ∷ to_unsigned 64 e.down ∷ [])

unfoldable pub key_lines : List KeyedElement → List ℕ
key_lines [] = []
key_lines (e ∷ es) = key_line e ++ key_lines es

-- Hypotheses: one, two, noncw, unresolved
abbrev pub hypothesis_line : Hypothesis → List ℕ
hypothesis_line OneSignal = codes "(hypothesis one)\n"
hypothesis_line (TwoSignalCw offset) = codes "(hypothesis two)\n"
hypothesis_line NonCw = codes "(hypothesis noncw)\n"
hypothesis_line Unresolved = codes "(hypothesis unresolved)\n"

-- buffer: kept or taken. The last line closes the report.
abbrev pub buffer_line : Bool → List ℕ
buffer_line false = codes "(buffer kept))\n"
buffer_line true = codes "(buffer taken))\n"

-- the lines of counts, in their order
unfoldable pub count_lines : RunFigures → List ℕ
count_lines f =
    size_line f.samples f.window f.blocks
    ++ (keys_line f.estimate.found f.estimate.fitted f.skipped ++ (air_line f.estimate.found.airtime ++ blocks_line f.classes))

-- of a run's figures and its listed elements
unfoldable pub run_lines : RunFigures → List KeyedElement → List ℕ
run_lines f es = codes "(run 0\n" ++ (count_lines f ++ (key_lines es ++ (hypothesis_line f.hypothesis ++ buffer_line f.taken)))
