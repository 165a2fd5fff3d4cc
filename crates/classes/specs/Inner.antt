-- Not needed to read a public promise: what the functions behind `classify_blocks` ensure: the numbers that a slice
-- of classes then holds. Definitions only.
use Rattle.std.specs.Prelude.{ℕ, Bool, ◌&&◌, ◌||◌, cond, List, leb, ltb, length, get_or, Float}
use Rattle.std.specs.Float.{nan}
use Rattle.std.specs.Float.Ieee.{lt}
use Rattle.float.specs.Ops.{◌⊖◌, ◌⊘◌, of, one, two}
use Rattle.lists.specs.Firsts.{firsts}
use Rattle.elements.specs.declared.element.KeyedElement.{KeyedElement}
use Rattle.classes.specs.declared.class.BlockClass.TheVariants.{Edge, Interior, Other}
use Rattle.classes.specs.Class.{code_of}
use Rattle.classes.specs.Classify.{times_of, block_centre, in_range, near, inside, at_edge}

-- from a block's first sample to its centre
abbrev pub to_centre : ℕ → Float
to_centre len = (of len ⊖ one) ⊘ two

-- a list with x at each place that passes a test
unfoldable pub labelled : List Float → (ℕ → Bool) → Float → List Float
labelled l p x = firsts (λ b. cond (p b) x (get_or l b nan)) (length l)

-- the test of those places from a up to, not including, e
abbrev pub between : ℕ → ℕ → (ℕ → Bool) → ℕ → Bool
between a e p b = leb a b && ltb b e && p b

-- the blocks of `range` whose centre lies between lo and hi, neither of them included
unfoldable pub amid : ℕ → Float → Float → ℕ → Bool
amid len lo hi b = in_range len lo hi b && (lt lo (block_centre len b) && lt (block_centre len b) hi)

module _ (fs : Float) where
  -- what an element, and a fit, leave in the list
  abbrev pub element_labelled : KeyedElement → List Float → List Float
  element_labelled e l = labelled l (near fs (times_of e)) (code_of Other)

  abbrev pub fit_labelled : KeyedElement → List Float → List Float
  fit_labelled e l =
      labelled (labelled l (inside fs (times_of e)) (code_of Interior)) (λ b. at_edge fs e.start b || at_edge fs e.end b) (code_of Edge)
