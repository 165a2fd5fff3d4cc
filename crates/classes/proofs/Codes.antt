-- The number of a class tells it from the others.
use Prim.Native.Nat.{ℕ}
use mathlib.Core.Path.{◌≡◌, refl, sym, ap, ◌∙◌}
use mathlib.Core.Bool.{true, cond}
use borrow.Author.Tests.{eqb-true}
use lib.Dec.{eqb}
use lib.Ieee.{eq, of_int}
use Rattle.classes.specs.declared.class.BlockClass.{BlockClass}
use Rattle.classes.specs.declared.class.BlockClass.TheVariants.{Edge, Interior, Gap, Other}
use Rattle.classes.specs.Class.{class_number, code_of, is_class}

pub code_tells : (c d : BlockClass) → eq (code_of d) (code_of c) ≡ is_class c d
unfolding eq of_int
code_tells Edge Edge = refl
code_tells Edge Interior = refl
code_tells Edge Gap = refl
code_tells Edge Other = refl
code_tells Interior Edge = refl
code_tells Interior Interior = refl
code_tells Interior Gap = refl
code_tells Interior Other = refl
code_tells Gap Edge = refl
code_tells Gap Interior = refl
code_tells Gap Gap = refl
code_tells Gap Other = refl
code_tells Other Edge = refl
code_tells Other Interior = refl
code_tells Other Gap = refl
code_tells Other Other = refl

-- one number, one class
named : ℕ → BlockClass
named n = cond (eqb n 0) Edge (cond (eqb n 1) Interior (cond (eqb n 2) Gap Other))

named_back : (c : BlockClass) → named (class_number c) ≡ c
unfolding named
named_back Edge = refl
named_back Interior = refl
named_back Gap = refl
named_back Other = refl

pub class_same : (c d : BlockClass) → is_class c d ≡ true → c ≡ d
class_same c d e = sym (named_back c) ∙ ap named (eqb-true (class_number c) (class_number d) e) ∙ named_back d
