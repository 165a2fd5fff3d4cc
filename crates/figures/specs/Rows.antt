-- The figures of the amplitude row and of the blocks' classes, in their order (include/cancel.h). Definitions only.
use Rattle.std.specs.Prelude.{List, [], ◌∷◌, Float}
use Rattle.float.specs.Ops.{of}
use Rattle.elements.specs.declared.amplitude.AmplitudeRow.{AmplitudeRow}
use Rattle.given.specs.declared.blocks.BlockClasses.{BlockClasses}
use Rattle.figures.specs.Optional.{present_of, value_of}

-- of amplitude_row: amplitudes, threshold present, threshold
abbrev pub row_figures : AmplitudeRow → List Float
row_figures r = of r.amplitudes ∷ present_of r.threshold ∷ value_of r.threshold ∷ []

-- of block_classes: blocks, edge, interior, gap, other
abbrev pub classes_figures : BlockClasses → List Float
classes_figures b =
    of b.blocks ∷ of b.counts.edge ∷ of b.counts.interior ∷ of b.counts.gap ∷ of b.counts.other ∷ []
