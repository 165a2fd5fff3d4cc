-- The row of 01's edge table that speaks of classes: n = 3,000, one fit at 1499.5 to 1599.5. The ends of each range are
-- computed once; what is left is a comparison of whole numbers. Assumes nothing.
use Prim.Native.Nat.{ℕ, ◌+◌, ◌-◌, ◌<◌}
use native.Mathlib.Decide.{dec_lt}
use native.Mathlib.Omega.{arith}
use mathlib.Core.Path.{◌≡◌, refl, sym, ap, ◌∙◌}
use mathlib.Core.Bool.{Bool, true, false, ◌&&◌, ◌||◌, cond, and-false, beq}
use mathlib.Core.List.{List, [], ◌∷◌}
use borrow.Author.Tests.{lt-ltb, le-ltb, le-leb, lt-leb}
use lib.Dec.{leb, ltb}
use lib.IntN.{pos}
use lib.Ieee.{Float, fin, add, sub, mul, div, lt, is_nan, round, of_int, of_bits, to_unsigned}
use Rattle.float.specs.Ops.{◌⊕◌, ◌⊖◌, ◌⊗◌, of, two, fraction}
use Rattle.float.specs.Compare.{max_of}
use Rattle.float.specs.Whole.{floor_of, ceil_of, whole_by}
use Rattle.lists.specs.Every.{every}
use Rattle.lists.specs.Count.{count_to}
use Rattle.lists.proofs.Every.{every_at, and_left, and_right}
use Rattle.lists.proofs.Count.{count_cong}
use Rattle.constants.specs.Constants.{RISE_S, EDGE_ZONE_S, RIM_S}
use Rattle.elements.specs.declared.element.KeyedElement.{KeyedElement}
use Rattle.elements.proofs.Edges.{step_3000}
use Rattle.fits.specs.declared.fit.ElementFit.{ElementFit}
use Rattle.classes.specs.declared.class.BlockClass.{BlockClass}
use Rattle.classes.specs.declared.class.BlockClass.TheVariants.{Edge, Interior, Gap, Other}
use Rattle.classes.specs.Class.{is_class}
use Rattle.classes.proofs.Codes.{class_same}
use Rattle.classes.specs.Classify.{Times, times_of_fit, blocks_of, block_centre, first_from, past_last, in_range, in_turn, near, inside, at_edge, element_labels, fit_labels, on_rim, class_at, class_of, counts_of}
use Rattle.edge_table.specs.Table.{fs, tabled, Classes}

-- from 1499.5 to 1599.5, at 3,000 samples a second
abbrev times : Times
times = record { start = fraction 14995 10; end = fraction 15995 10 }

-- where the interior begins and ends
abbrev from : Float
from = times.start ⊕ two ⊗ (RISE_S ⊗ fs)

abbrev upto : Float
upto = times.end ⊖ two ⊗ (RISE_S ⊗ fs)

-- ---- the ends of the ranges
near_ends : (first_from 8 (times.start ⊖ of 3 ⊗ (RISE_S ⊗ fs)) ≡ 182) × (past_last 8 (times.end ⊕ of 3 ⊗ (RISE_S ⊗ fs)) ≡ 206)
unfolding RISE_S fraction round add sub mul div floor_of ceil_of whole_by max_of is_nan lt of_int of_bits to_unsigned
near_ends = (refl, refl)

start_ends : (first_from 8 (times.start ⊖ EDGE_ZONE_S ⊗ fs) ≡ 187) × (past_last 8 (times.start ⊕ EDGE_ZONE_S ⊗ fs) ≡ 188)
unfolding EDGE_ZONE_S RISE_S fraction round add sub mul div floor_of ceil_of whole_by max_of is_nan lt of_int of_bits to_unsigned
start_ends = (refl, refl)

end_ends : (first_from 8 (times.end ⊖ EDGE_ZONE_S ⊗ fs) ≡ 199) × (past_last 8 (times.end ⊕ EDGE_ZONE_S ⊗ fs) ≡ 201)
unfolding EDGE_ZONE_S RISE_S fraction round add sub mul div floor_of ceil_of whole_by max_of is_nan lt of_int of_bits to_unsigned
end_ends = (refl, refl)

inside_ends : (first_from 8 from ≡ 191) × (past_last 8 upto ≡ 196) × (lt (of 4 ⊗ (RISE_S ⊗ fs)) (times.end ⊖ times.start) ≡ true)
unfolding RISE_S fraction round add sub mul div floor_of ceil_of whole_by max_of is_nan lt of_int of_bits to_unsigned
inside_ends = (refl, refl, refl)

-- the centres of these five blocks lie between
inside_all : every (λ k. lt from (block_centre 8 (191 + k)) && lt (block_centre 8 (191 + k)) upto) 5 ≡ true
unfolding RISE_S fraction round add sub mul div lt of_int of_bits
inside_all = refl

-- the rim ends at 600 = 75 × 2^3 and begins at 2400 = 75 × 2^5; each block's centre is compared
abbrev low : Float
low = fin false 75 (pos 3)

abbrev high : Float
high = fin false 75 (pos 5)

rim_ends : (RIM_S ⊗ fs ≡ low) × (of 3000 ⊖ low ≡ high)
unfolding RIM_S fraction round add sub mul of_int
rim_ends = (refl, refl)

rim_all : every (λ b. beq (lt (block_centre 8 b) low || lt high (block_centre 8 b)) (ltb b 75 || leb 300 b)) 375 ≡ true
unfolding add sub div lt of_int of_bits
rim_all = refl

-- ---- each zone, as a range of block numbers
near_so : (b : ℕ) → near fs times b ≡ (leb 182 b && ltb b 206)
unfolding near in_range
near_so b = rw (step_3000, near_ends.0, near_ends.1)

start_so : (b : ℕ) → at_edge fs times.start b ≡ (leb 187 b && ltb b 188)
unfolding at_edge in_range
start_so b = rw (step_3000, start_ends.0, start_ends.1)

end_so : (b : ℕ) → at_edge fs times.end b ≡ (leb 199 b && ltb b 201)
unfolding at_edge in_range
end_so b = rw (step_3000, end_ends.0, end_ends.1)

inside_so : (b : ℕ) → inside fs times b ≡ (leb 191 b && ltb b 196)
unfolding inside in_range
inside_so b = rw (step_3000, inside_ends.0, inside_ends.1, inside_ends.2) (go (dec_lt b 191) (dec_lt b 196))
  where
    go : Dec (b < 191) → Dec (b < 196) → (leb 191 b && ltb b 196 && lt from (block_centre 8 b) && lt (block_centre 8 b) upto) ≡ (leb 191 b && ltb b 196)
    go (yes h) w = rw (lt-leb 191 b h)
    go (no h) (no g) = rw (le-ltb b 196 (omega arith), and-false (leb 191 b))
    go (no h) (yes g) =
        let here : 191 + (b - 191) ≡ b = omega arith in
        let amid = rw here at (every_at (λ k. lt from (block_centre 8 (191 + k)) && lt (block_centre 8 (191 + k)) upto) 5 (b - 191) (omega arith) inside_all) in
        let above = and_left (lt from (block_centre 8 b)) (lt (block_centre 8 b) upto) amid in
        let below = and_right (lt from (block_centre 8 b)) (lt (block_centre 8 b) upto) amid in
        rw (above, below, lt-ltb b 196 g, le-leb 191 b (omega arith))

same : (s t : Bool) → beq s t ≡ true → s ≡ t
same true true e = refl
same true false e = sym e
same false true e = e
same false false e = refl

rim_so : (b : ℕ) → b < 375 → on_rim fs 3000 b ≡ (ltb b 75 || leb 300 b)
unfolding on_rim
rim_so b h =
    rw (step_3000, rim_ends.0, rim_ends.1)
    (same _ _ (every_at (λ b. beq (lt (block_centre 8 b) low || lt high (block_centre 8 b)) (ltb b 75 || leb 300 b)) 375 b h rim_all))

-- ---- the classes: as the zones label them, and as the table has them
abbrev zoned : ℕ → BlockClass
zoned b =
    cond (ltb b 75 || leb 300 b) Other
    (cond (leb 187 b && ltb b 188 || leb 199 b && ltb b 201) Edge (cond (leb 191 b && ltb b 196) Interior (cond (leb 182 b && ltb b 206) Other Gap)))

zones_all : every (λ b. is_class (zoned b) (tabled b)) 375 ≡ true
zones_all = refl

zoned_so : (b : ℕ) → b < 375 → zoned b ≡ tabled b
zoned_so b h = class_same (zoned b) (tabled b) (every_at (λ b. is_class (zoned b) (tabled b)) 375 b h zones_all)

counts_all : counts_of tabled 375 ≡ record { edge = 3; interior = 5; gap = 201; other = 166 }
unfolding count_to
counts_all = refl

-- ---- the classes of an estimate with one fit at these times
module _ (b : ℕ) (h : b < 375) where
  -- with no element found, and with the fit's own
  unfound : class_at fs 3000 (times ∷ []) [] b ≡ zoned b
  unfolding class_at in_turn element_labels fit_labels
  unfound = rw (rim_so b h, near_so b, inside_so b, start_so b, end_so b)

  found : class_at fs 3000 (times ∷ []) (times ∷ []) b ≡ zoned b
  unfolding class_at in_turn element_labels fit_labels
  found = rw (rim_so b h, near_so b, inside_so b, start_so b, end_so b, twice (leb 182 b && ltb b 206))
    where
      twice : (t : Bool) → cond t Other (cond t Other Gap) ≡ cond t Other Gap
      twice true = refl
      twice false = refl

counts_so : (class : ℕ → BlockClass) → ((b : ℕ) → b < 375 → class b ≡ tabled b) → counts_of class 375 ≡ counts_of tabled 375
counts_so class e = rw (count Edge, count Interior, count Gap, count Other)
  where
    count : (c : BlockClass) → count_to (λ b. is_class c (class b)) 375 ≡ count_to (λ b. is_class c (tabled b)) 375
    count c = count_cong _ _ 375 (λ b h. ap (is_class c) (e b h))

row : (fits : List ElementFit) (elements : List KeyedElement) → ((b : ℕ) → b < 375 → class_of fs 3000 fits elements b ≡ zoned b) → Classes fits elements
row fits elements e = (all, counts_so (class_of fs 3000 fits elements) all ∙ counts_all)
  where
    all : (b : ℕ) → b < 375 → class_of fs 3000 fits elements b ≡ tabled b
    all b h = e b h ∙ zoned_so b h

pub blocks_3000 : blocks_of fs 3000 ≡ 375
blocks_3000 = rw step_3000

pub classed : (f : ElementFit) → f.element.start ≡ fraction 14995 10 → f.element.end ≡ fraction 15995 10 → Classes (f ∷ []) [] × Classes (f ∷ []) (f.element ∷ [])
classed f s e =
    let at : times_of_fit f ≡ times = rw (s, e) in
    (row (f ∷ []) [] (λ b h. rw at (unfound b h)), row (f ∷ []) (f.element ∷ []) (λ b h. rw at (found b h)))
