-- An element in a lent list of f64 (01, "Where cancel.rs leans on Rust"). Definitions only.
use Rattle.std.specs.Prelude.{ℕ, ◌+◌, ◌*◌, List, get_or, Float}
use Rattle.std.specs.Float.{nan}
use Rattle.lists.specs.Firsts.{firsts}
use Rattle.lists.specs.Records.{Handed, handed}
use Rattle.elements.specs.declared.element.KeyedElement.{KeyedElement}

-- Four numbers an element; a place is one record.
abbrev pub ELEMENT : ℕ
ELEMENT = 4

-- the element whose numbers begin at number `at` of a list
abbrev pub element_from : List Float → ℕ → KeyedElement
element_from l at = record { start = get_or l at nan; end = get_or l (at + 1) nan; up = get_or l (at + 2) nan; down = get_or l (at + 3) nan }

-- the element at place p, and those at the first `count` places
abbrev pub element_at : List Float → ℕ → KeyedElement
element_at l p = element_from l (ELEMENT * p)

unfoldable pub elements_in : List Float → ℕ → List KeyedElement
elements_in l count = firsts (element_at l) count

-- what a list hands out at its first `count` places of elements
unfoldable pub handed_elements : List Float → ℕ → Handed KeyedElement
handed_elements l count = handed ELEMENT (elements_in l count) l
