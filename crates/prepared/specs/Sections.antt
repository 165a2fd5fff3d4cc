-- The sections of the work slice: each number, times the number of blocks, is where a section begins or, by its name,
-- ends (src/sections.rt). Definitions only.
use Rattle.std.specs.Prelude.{ℕ}

-- the numbers of the classes, behind the blocks' means
abbrev pub CLASSES : ℕ
CLASSES = 2

-- behind them, what is free for a measure
abbrev pub SIDES : ℕ
SIDES = 3
