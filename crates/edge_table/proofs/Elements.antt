-- The rows of 01's edge table that speak of elements. At step 1 and carrier 0 the row of a recording of zeros and ones
-- is how many ones each eight samples have, over 8; what is found is computed from that. Assumes nothing.
use Rattle.std.proofs.Common.{Some}
use Rattle.std.specs.declared.option.Option.{Option}
use Prim.Native.Nat.{ℕ, zero, suc, ◌+◌, ◌-◌, ◌/◌, ◌^◌, ◌≤◌, ◌<◌}
use native.Mathlib.Nat.{div-one}
use native.Mathlib.Omega.{arith}
use mathlib.Core.Path.{◌≡◌, refl, sym, ap, ◌∙◌, subst}
use mathlib.Core.Logic.{⊎_elim}
use mathlib.Core.Bool.{true, false, not}
use mathlib.Core.List.{List, [], ◌∷◌}
use lib.Dec.{T, ltb}
use lib.ListN.{length, get_or, get_or-eq_default}
use lib.Ieee.{Float, nan, binary64, add, sub, mul, div, lt, le, eq, of_int, of_bits, round, to_unsigned, is_nan, fits}
use lib.Ieee.Fits.{round-fits, nan-fits}
use borrow.Author.Tests.{ltb-true, ltb-false}
use Rattle.float.specs.Ops.{◌⊘◌, of, fraction, half}
use Rattle.float.specs.Whole.{round_of, whole_by}
use Rattle.constants.specs.Constants.{RISE_S, EDGE_PERCENTILE}
use Rattle.row.specs.Window.{step_of}
use Rattle.row.specs.Envelope.{row_of, row_length}
use Rattle.lists.specs.Firsts.{firsts}
use Rattle.lists.proofs.Firsts.{length_firsts, get_d_firsts, firsts_cong}
use Rattle.rank.specs.Order.{is_minus_zero, precedes, before, up_to}
use Rattle.lists.specs.Count.{count_to}
use Rattle.rank.specs.Select.{rank_of, percentile_of}
use Rattle.lists.proofs.Count.{count_cong}
use Rattle.rank.proofs.Sorted.{held, rank_lt, percentile_counts}
use Rattle.elements.specs.declared.element.KeyedElement.{KeyedElement}
use Rattle.elements.specs.declared.keying.Found.{Found}
use Rattle.elements.specs.Keying.{upward, downward, pending, row_key_downs, crossed_at, element_of, is_long, long, airtime_of, listed_of, short_of, counts, elements_of, found_to, elements_to}
use Rattle.lists.specs.Those.{those}
use Rattle.elements.specs.Find.{half_of, threshold_of, found_at, elements_at, found_of, elements_found}
use Rattle.elements.proofs.KeyDowns.{either}
use Rattle.elements.proofs.Same.{found_same, elements_same}
use Rattle.elements.proofs.Edges.{step_3000}
use Rattle.edge_table.specs.Ones.{ones_of, ones_from}
use Rattle.edge_table.specs.Table.{tally, element, Finds}
use Rattle.edge_table.proofs.Ones.{at_nine, ones_below, length_ones, row_ones}

pub cycles_3000 : of 0 ⊘ of 3000 ≡ of 0
unfolding div of_int
cycles_3000 = refl

-- ---- its row: the ones in each eight, over 8
module _ (a e : ℕ) where
  abbrev pub in_eight : ℕ → ℕ
  in_eight i = ones_below a e (8 + i) - ones_below a e i

  abbrev pub eighths : ℕ → Float
  eighths i = fraction (in_eight i) 8

  few_ones : (i : ℕ) → in_eight i ≤ 8
  few_ones i = omega arith

module _ (a e n : ℕ) (few : n ≤ 2 ^ 20) where
  blocks_ones : length (ones_of a e n) / 2 / step_of (of 3000) ≡ n
  blocks_ones = rw (step_3000, length_ones a e n, div-one) (omega arith)

  row_3000 : (i : ℕ) → 8 + i ≤ n → row_of (ones_of a e n) (of 3000) (of 0) i ≡ eighths a e i
  unfolding row_of
  row_3000 i h = rw (step_3000, cycles_3000) (row_ones a e n few i h)

-- ---- its threshold: half of 1, where so many eights are full that the 98th percentile is one of them
abbrev top : Float
top = fraction 8 8

below_top : (m : ℕ) → m ≤ 8 → precedes (fraction m 8) top ≡ ltb m 8
unfolding precedes is_minus_zero lt eq is_nan fraction round
below_top = at_nine (λ m. precedes (fraction m 8) top ≡ ltb m 8) refl refl refl refl refl refl refl refl refl

upto_top : (m : ℕ) → m ≤ 8 → not (precedes top (fraction m 8)) ≡ true
unfolding precedes is_minus_zero lt eq is_nan fraction round
upto_top = at_nine (λ m. not (precedes top (fraction m 8)) ≡ true) refl refl refl refl refl refl refl refl refl

half_top : half_of (Some top) ≡ Some half
unfolding fraction round lt mul of_bits
half_top = refl

count_all : (n : ℕ) → count_to (λ i. true) n ≡ n
unfolding count_to
count_all zero = refl
count_all (suc n) = rw (count_all n) (omega arith)

eighth_fits : (m : ℕ) → T (fits binary64 (fraction m 8))
unfolding fraction
eighth_fits m = round-fits binary64 false m 8

row_fits : (m : ℕ → ℕ) (n i : ℕ) → T (fits binary64 (get_or (firsts (λ k. fraction (m k) 8) n) i nan))
row_fits m n i =
    ⊎_elim (λ h. subst (λ (x : Float). T (fits binary64 x)) (sym (get_d_firsts (λ k. fraction (m k) 8) n i nan (ltb-true i n h))) (eighth_fits (m i)))
    (λ h. subst (λ (x : Float). T (fits binary64 x)) (sym (get_or-eq_default (firsts (λ k. fraction (m k) 8) n) nan (rw (length_firsts (λ k. fraction (m k) 8) n) (ltb-false i n h)))) (nan-fits binary64))
    (either (ltb i n))

module _ (m : ℕ → ℕ) (small : (i : ℕ) → m i ≤ 8) (n : ℕ) where
  eights : List Float
  eights = firsts (λ k. fraction (m k) 8) n

  before_top : before eights top ≡ count_to (λ i. ltb (m i) 8) n
  unfolding before eights
  before_top =
      rw (length_firsts (λ k. fraction (m k) 8) n)
      (count_cong (λ i. precedes (get_or eights i nan) top) (λ i. ltb (m i) 8) n
      (λ i h. ap (λ (x : Float). precedes x top) (get_d_firsts (λ k. fraction (m k) 8) n i nan h) ∙ below_top (m i) (small i)))

  all_upto : up_to eights top ≡ n
  unfolding up_to eights
  all_upto =
      rw (length_firsts (λ k. fraction (m k) 8) n)
      (count_cong (λ i. not (precedes top (get_or eights i nan))) (λ i. true) n
      (λ i h. ap (λ (x : Float). not (precedes top x)) (get_d_firsts (λ k. fraction (m k) 8) n i nan h) ∙ upto_top (m i) (small i))
      ∙ count_all n)

  percentile_top : 0 < n → count_to (λ i. ltb (m i) 8) n ≤ rank_of n EDGE_PERCENTILE → percentile_of eights EDGE_PERCENTILE ≡ Some top
  unfolding eights
  percentile_top some enough =
      let size = length_firsts (λ k. fraction (m k) 8) n in
      percentile_counts eights EDGE_PERCENTILE top (held eights (row_fits m n)) (eighth_fits 8) (rw size some) (rw (size, before_top) enough)
      (rw (size, all_upto) (rank_lt n EDGE_PERCENTILE some))

module _ (row : ℕ → Float) (fs : Float) {last last' step step' : ℕ} {p p' : (Option Float)} (l : last ≡ last') (s : step ≡ step') (t : p ≡ p') where
  found_by : found_at row last step fs p ≡ found_at row last' step' fs p'
  found_by = rw (l, s, t)

  elements_by : elements_at row last step fs p ≡ elements_at row last' step' fs p'
  elements_by = rw (l, s, t)

-- ---- what is found in it is what the row of eighths has
module _ (a e n : ℕ) (few : n ≤ 2 ^ 20) (some : 8 ≤ n) (enough : count_to (λ i. ltb (in_eight a e i) 8) (n - 7) ≤ rank_of (n - 7) EDGE_PERCENTILE) where
  abbrev iq : List Float
  iq = ones_of a e n

  threshold_ones : threshold_of iq (of 3000) (of 0) ≡ Some half
  unfolding threshold_of eights
  threshold_ones =
      ap (λ (l : List Float). half_of (percentile_of l EDGE_PERCENTILE))
      (ap (λ (b : ℕ). firsts (row_of iq (of 3000) (of 0)) (b - 7)) (blocks_ones a e n few)
      ∙ firsts_cong (row_of iq (of 3000) (of 0)) (eighths a e) (n - 7) (λ i h. row_3000 a e n few i (omega arith)))
      ∙ ap half_of (percentile_top (in_eight a e) (few_ones a e) (n - 7) (omega arith) enough) ∙ half_top

  last_ones : row_length iq (of 3000) - 1 ≡ n - 7 - 1
  last_ones = ap (λ (b : ℕ). b - 7 - 1) (blocks_ones a e n few)

  row_so : (i : ℕ) → i ≤ n - 7 - 1 → row_of iq (of 3000) (of 0) i ≡ eighths a e i
  row_so i h = row_3000 a e n few i (omega arith)

  pub found_ones : found_of iq (of 3000) (of 0) ≡ found_to (eighths a e) half 1 (of 3000) (n - 7 - 1)
  unfolding found_of
  found_ones =
      found_by (row_of iq (of 3000) (of 0)) (of 3000) last_ones step_3000 threshold_ones
      ∙ found_same (row_of iq (of 3000) (of 0)) (eighths a e) half (n - 7 - 1) row_so 1 (of 3000)

  pub elements_ones : elements_found iq (of 3000) (of 0) ≡ elements_to (eighths a e) half 1 (of 3000) (n - 7 - 1)
  unfolding elements_found
  elements_ones =
      elements_by (row_of iq (of 3000) (of 0)) (of 3000) last_ones step_3000 threshold_ones
      ∙ elements_same (row_of iq (of 3000) (of 0)) (eighths a e) half (n - 7 - 1) row_so 1 (of 3000)

-- ---- the table's rows

-- the counts and the elements of the row of eighths
abbrev RowFinds : (a e n : ℕ) → Found → List KeyedElement → Type 0
RowFinds a e n found elements =
    (found_to (eighths a e) half 1 (of 3000) (n - 7 - 1) ≡ found) × (elements_to (eighths a e) half 1 (of 3000) (n - 7 - 1) ≡ elements)

finds : (a e n : ℕ) (found : Found) (elements : List KeyedElement) → n ≤ 2 ^ 20 → 8 ≤ n
    → count_to (λ i. ltb (in_eight a e i) 8) (n - 7) ≤ rank_of (n - 7) EDGE_PERCENTILE → RowFinds a e n found elements → Finds (ones_of a e n) found elements
finds a e n found elements few some enough row = (found_ones a e n few some enough ∙ row.0, elements_ones a e n few some enough ∙ row.1)

pub record Rows : Type 0 where
  pub ones_100_199 : Finds (ones_of 100 199 300) (tally 1 1 0 101) (element (fraction 995 10) (fraction 1995 10) 96 197 ∷ [])
  pub ones_40_54 : Finds (ones_of 40 54 107) (tally 1 1 0 16) (element (fraction 395 10) (fraction 545 10) 36 52 ∷ [])
  pub ones_40_53 : Finds (ones_of 40 53 107) (tally 1 0 1 0) []
  pub ones_61 : Finds (ones_from 100 61 300) (tally 1 1 0 62) (element (fraction 995 10) (fraction 1605 10) 96 158 ∷ [])
  pub ones_60 : Finds (ones_from 100 60 300) (tally 1 1 0 61) (element (fraction 995 10) (fraction 1595 10) 96 157 ∷ [])

pub rows : Rows
unfolding found_to counts elements_to elements_of listed_of short_of those airtime_of row_key_downs pending upward downward long is_long element_of crossed_at RISE_S count_to rank_of EDGE_PERCENTILE round_of whole_by fraction round lt le eq add sub mul div of_int of_bits to_unsigned
rows =
    record {
      ones_100_199 = finds 100 199 300 _ _ (omega arith) (omega arith) (omega arith) (refl, refl);
      ones_40_54 = finds 40 54 107 _ _ (omega arith) (omega arith) (omega arith) (refl, refl);
      ones_40_53 = finds 40 53 107 _ _ (omega arith) (omega arith) (omega arith) (refl, refl);
      ones_61 = finds 100 160 300 _ _ (omega arith) (omega arith) (omega arith) (refl, refl);
      ones_60 = finds 100 159 300 _ _ (omega arith) (omega arith) (omega arith) (refl, refl);
    }
