-- The class of a block (01, part 5: Edge, Interior, Gap, Other), and the number it has in a lent slice. Definitions
-- only.
use Rattle.std.specs.Prelude.{ℕ, Bool, List, eqb, Float}
use Rattle.float.specs.Ops.{of}
use Rattle.lists.specs.Firsts.{firsts}
use Rattle.classes.specs.declared.class.BlockClass.{BlockClass}
use Rattle.classes.specs.declared.class.BlockClass.TheVariants.{Edge, Interior, Gap, Other}

abbrev pub class_number : BlockClass → ℕ
class_number Edge = 0
class_number Interior = 1
class_number Gap = 2
class_number Other = 3

-- the number in a slice
abbrev pub code_of : BlockClass → Float
code_of c = of (class_number c)

-- the numbers of the first n of a row of classes
abbrev pub codes_of : (ℕ → BlockClass) → ℕ → List Float
codes_of class n = firsts (λ b. code_of (class b)) n

-- whether two classes are the same
abbrev pub is_class : BlockClass → BlockClass → Bool
is_class c d = eqb (class_number c) (class_number d)
