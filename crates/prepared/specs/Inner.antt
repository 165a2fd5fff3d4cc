-- Not needed to read a public promise: what the functions behind the measures require and ensure of the work slice.
-- Definitions only.
use Rattle.std.specs.Prelude.{ℕ, ◌+◌, ◌*◌, ◌≤◌, ◌<◌, ◌≡◌, Bool, List, length, get_or, Float}
use Rattle.std.specs.Float.{nan}
use Rattle.std.specs.Float.Ieee.{eq}
use Rattle.lists.specs.Those.{picked}
use Rattle.complex.specs.declared.value.Complex.{Complex}
use Rattle.complex.specs.Rows.{z_at}
use Rattle.classes.specs.declared.class.BlockClass.{BlockClass}
use Rattle.classes.specs.Class.{code_of}
use Rattle.prepared.specs.Sections.{CLASSES}
use Rattle.prepared.specs.Powers.{block_power}

-- The work slice of so many blocks: first their means, as complex numbers, then the number of each one's class; what
-- follows is free for a measure.
pub record Prepared (w : List Float) (z : ℕ → Complex) (c : ℕ → BlockClass) (blocks : ℕ) : Type 0 where
  pub mean : (b : ℕ) → b < blocks → z_at w b ≡ z b
  pub class : (b : ℕ) → b < blocks → get_or w (CLASSES * blocks + b) nan ≡ code_of (c b)
  pub room : 32 * blocks ≤ length w

-- whether block b has class c, in a slice that holds the numbers of the classes
abbrev pub of_class : List Float → BlockClass → ℕ → Bool
of_class codes c b = eq (get_or codes b nan) (code_of c)

-- the powers of the blocks of class c, in a slice of means and one of the numbers of the classes
abbrev pub class_powers : List Float → List Float → ℕ → BlockClass → List Float
class_powers means codes blocks c = picked (of_class codes c) (block_power (z_at means)) blocks
