-- The class of each block (01, part 5: `classify_blocks`): blocks of `window` samples; later writes win: all elements
-- first paint Other, then each fit in turn paints its interior and its two edges, the rim comes last. It is a
-- definition of the block, the rate, the number of samples and the times alone. Definitions only.
use Rattle.std.specs.Prelude.{ℕ, ◌*◌, ◌/◌, Bool, ◌&&◌, ◌||◌, cond, List, [], ◌∷◌, ◌++◌, map, leb, ltb, length, get_or, Float}
use Rattle.std.specs.Float.{nan}
use Rattle.std.specs.Float.Ieee.{lt, eq, to_unsigned}
use Rattle.float.specs.Ops.{◌⊕◌, ◌⊖◌, ◌⊗◌, ◌⊘◌, of, plus_zero, one, two}
use Rattle.float.specs.Compare.{max_of}
use Rattle.float.specs.Whole.{floor_of, ceil_of}
use Rattle.lists.specs.Count.{count_to}
use Rattle.constants.specs.Constants.{RISE_S, EDGE_ZONE_S, RIM_S}
use Rattle.row.specs.Window.{window_of, centre_of}
use Rattle.elements.specs.declared.element.KeyedElement.{KeyedElement}
use Rattle.fits.specs.declared.fit.ElementFit.{ElementFit}
use Rattle.classes.specs.declared.class.BlockClass.{BlockClass}
use Rattle.classes.specs.declared.class.BlockClass.TheVariants.{Edge, Interior, Gap, Other}
use Rattle.classes.specs.declared.classify.ClassCounts.{ClassCounts}
use Rattle.classes.specs.Class.{code_of, is_class}

-- the start and the end of an element, which are the Rust's own fields of it
pub record Times : Type 0 where
  pub start : Float
  pub end : Float

abbrev pub times_of : KeyedElement → Times
times_of e = record { start = e.start; end = e.end }

abbrev pub times_of_fit : ElementFit → Times
times_of_fit f = times_of f.element

-- Blocks = floor(n/window); the trailing rest belongs to none.
abbrev pub blocks_of : Float → ℕ → ℕ
blocks_of fs n = n / window_of fs

-- blocks of len samples
module _ (len : ℕ) where
  -- the centre of block b
  abbrev pub block_centre : ℕ → Float
  block_centre b = centre_of (b * len) len

  -- `range`: the first block whose centre is at or above lo, and the one after the last whose centre is at or below hi
  abbrev pub first_from : Float → ℕ
  first_from lo = to_unsigned 64 (max_of (ceil_of ((lo ⊖ (of len ⊖ one) ⊘ two) ⊘ of len)) plus_zero)

  abbrev pub past_last : Float → ℕ
  past_last hi = to_unsigned 64 (max_of (floor_of ((hi ⊖ (of len ⊖ one) ⊘ two) ⊘ of len) ⊕ one) plus_zero)

  unfoldable pub in_range : Float → Float → ℕ → Bool
  in_range lo hi b = leb (first_from lo) b && ltb b (past_last hi)

-- Each of a list in turn is applied to what those before it left.
unfoldable pub in_turn : {A B : Type 0} → (A → B → B) → List A → B → B
in_turn labels [] b = b
in_turn labels (x ∷ xs) b = in_turn labels xs (labels x b)

module _ (fs : Float) where
  -- within three rises of an element: no gap
  unfoldable pub near : Times → ℕ → Bool
  near t b = in_range (window_of fs) (t.start ⊖ of 3 ⊗ (RISE_S ⊗ fs)) (t.end ⊕ of 3 ⊗ (RISE_S ⊗ fs)) b

  -- more than two rises inside a fitted element that is longer than four
  unfoldable pub inside : Times → ℕ → Bool
  inside t b =
      let r = RISE_S ⊗ fs in
      let lo = t.start ⊕ two ⊗ r in
      let hi = t.end ⊖ two ⊗ r in
      let centre = block_centre (window_of fs) b in
      lt (of 4 ⊗ r) (t.end ⊖ t.start) && in_range (window_of fs) lo hi b && lt lo centre && lt centre hi

  -- within the ramp at the time x
  unfoldable pub at_edge : Float → ℕ → Bool
  at_edge x b = in_range (window_of fs) (x ⊖ EDGE_ZONE_S ⊗ fs) (x ⊕ EDGE_ZONE_S ⊗ fs) b

  -- near an element a block is Other
  unfoldable pub element_labels : ℕ → Times → BlockClass → BlockClass
  element_labels b t c = cond (near t b) Other c

  -- a fit labels its interior, and then its two edges
  unfoldable pub fit_labels : ℕ → Times → BlockClass → BlockClass
  fit_labels b t c = cond (at_edge t.start b || at_edge t.end b) Edge (cond (inside t b) Interior c)

  -- the rim: within RIM_S of an end of n samples
  unfoldable pub on_rim : ℕ → ℕ → Bool
  on_rim n b =
      let centre = block_centre (window_of fs) b in
      lt centre (RIM_S ⊗ fs) || lt (of n ⊖ RIM_S ⊗ fs) centre

  -- The class of block b of n samples, by the times of the fits' elements and of the elements found: over Gap, all
  -- elements label first, then the fits, and the rim comes last.
  unfoldable pub class_at : ℕ → List Times → List Times → ℕ → BlockClass
  class_at n fitted found b =
      cond (on_rim n b) Other (in_turn (fit_labels b) fitted (in_turn (element_labels b) (fitted ++ found) Gap))

-- the same of an estimate
abbrev pub class_of : Float → ℕ → List ElementFit → List KeyedElement → ℕ → BlockClass
class_of fs n fits elements = class_at fs n (map times_of_fit fits) (map times_of elements)

-- Edge, interior, gap and other, as counts, are how many blocks end in each class.
abbrev pub counts_of : (ℕ → BlockClass) → ℕ → ClassCounts
counts_of class blocks =
    record {
      edge = count_to (λ b. is_class Edge (class b)) blocks;
      interior = count_to (λ b. is_class Interior (class b)) blocks;
      gap = count_to (λ b. is_class Gap (class b)) blocks;
      other = count_to (λ b. is_class Other (class b)) blocks;
    }

-- the same of a slice that holds the number of each block's class: the counts of the row that it holds (`counts_hold`)
unfoldable pub count_in : List Float → BlockClass → ℕ
count_in l c = count_to (λ b. eq (get_or l b nan) (code_of c)) (length l)

abbrev pub counts_in : List Float → ClassCounts
counts_in l = record { edge = count_in l Edge; interior = count_in l Interior; gap = count_in l Gap; other = count_in l Other }
