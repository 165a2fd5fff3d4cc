-- The offset is absent exactly when no two consecutive gap blocks are both above PAIR_FACTOR × reference
-- (`absent_exactly`), and present exactly when there are two such blocks (`present_exactly`). Assumes nothing.
use Rattle.std.proofs.Common.{Some, None}
use Rattle.std.specs.declared.option.Option.{Option}
use Prim.Native.Nat.{ℕ, zero, suc, ◌+◌, ◌<◌}
use native.Mathlib.Numerals.{add-one}
use native.Mathlib.Omega.{arith}
use native.Mathlib.Nat.{eq-zero-or-pos}
use mathlib.Core.Path.{◌≡◌, sym, ◌∙◌}
use mathlib.Core.Logic.{⊎_elim, ◌↔◌}
use mathlib.Core.Bool.{Bool, true, false≢true}
use mathlib.Core.List.{List}
use borrow.Author.Tests.{eq-eqb, ne_eqb}
use lib.Ieee.{Float, lt}
use Rattle.float.specs.Ops.{◌⊗◌, ◌⊘◌, of}
use Rattle.lists.proofs.Count.{count_some}
use Rattle.lists.proofs.Every.{and_left, and_right}
use Rattle.constants.specs.Constants.{PAIR_FACTOR}
use Rattle.complex.specs.declared.value.Complex.{Complex}
use Rattle.row.specs.Window.{window_of}
use Rattle.classes.specs.declared.class.BlockClass.{BlockClass}
use Rattle.classes.specs.declared.class.BlockClass.TheVariants.{Gap}
use Rattle.prepared.specs.Powers.{block_power}
use Rattle.gaps.specs.Pairs.{above, strong, preceded, pair_at, pairs_of, IsPair}
use Rattle.measure.specs.Offset.{f0_of, strongest, power_at, offset_from}
use Rattle.gaps.specs.Reference.{mean_at}
use Rattle.measure.specs.Evidence.{is_in, evidence_with, evidence_by, reference_of, evidence_of}
use Rattle.gaps.proofs.Counted.{count_there}

-- ---- pairs as a property, and as a count

module _ (gap : ℕ → Bool) (z : ℕ → Complex) (ref : Float) (blocks : ℕ) where
  -- a pair that ends at a block begins at the one before
  pair_is : (b : ℕ) → b < blocks → pair_at (strong gap z ref) b ≡ true → (a : ℕ) × IsPair gap z ref blocks a
  unfolding pair_at preceded above
  pair_is zero h e = absurd (false≢true e)
  pair_is (suc a) h e =
      let s = strong gap z ref in
      let one = and_left (s a) (s (suc a)) e in
      let two = and_right (s a) (s (suc a)) e in
      let level = PAIR_FACTOR ⊗ ref in (
        a,
        record {
          inside = omega arith;
          first_gap = and_left (gap a) (lt level (block_power z a)) one;
          second_gap = rw (add-one a) (and_left (gap (suc a)) (lt level (block_power z (suc a))) two);
          first_above = and_right (gap a) (lt level (block_power z a)) one;
          second_above = rw (add-one a) (and_right (gap (suc a)) (lt level (block_power z (suc a))) two);
        },
      )

  is_pair : (a : ℕ) → IsPair gap z ref blocks a → pair_at (strong gap z ref) (a + 1) ≡ true
  unfolding pair_at preceded above
  is_pair a p =
      let g : gap (suc a) ≡ true = rw (add-one a) at p.second_gap in
      let h : lt (PAIR_FACTOR ⊗ ref) (block_power z (suc a)) ≡ true = rw (add-one a) at p.second_above in
      rw (add-one a, p.first_gap, p.first_above, g, h)

  some_pair : 0 < (pairs_of (strong gap z ref) z blocks).count → (a : ℕ) × IsPair gap z ref blocks a
  unfolding pairs_of
  some_pair h = let w = count_some (pair_at (strong gap z ref)) blocks h in pair_is w.0 w.1 w.2

  pair_some : (a : ℕ) → IsPair gap z ref blocks a → 0 < (pairs_of (strong gap z ref) z blocks).count
  unfolding pairs_of
  pair_some a p = count_there (pair_at (strong gap z ref)) blocks (a + 1) p.inside (is_pair a p)

  -- ---- the offset, of any three offsets to choose from

  module _ (mean : Float → ℕ → Complex) (carrier rate : Float) (paired : List ℕ) where
    abbrev offset : Option Float
    offset = offset_from mean carrier rate (pairs_of (strong gap z ref) z blocks) paired

    abbrev chosen : Float
    chosen = strongest (power_at mean carrier paired) (f0_of (pairs_of (strong gap z ref) z blocks) rate) rate

    gone : (pairs_of (strong gap z ref) z blocks).count ≡ 0 → offset ≡ None
    unfolding offset_from
    gone e = rw (eq-eqb (pairs_of (strong gap z ref) z blocks).count 0 e)

    there : 0 < (pairs_of (strong gap z ref) z blocks).count → offset ≡ Some chosen
    unfolding offset_from
    there h = rw (ne_eqb (pairs_of (strong gap z ref) z blocks).count 0 (omega arith))

    offset_absent : (offset ≡ None) ↔ ((b : ℕ) → IsPair gap z ref blocks b → ⊥)
    offset_absent = (
      λ e b p. let h : Some chosen ≡ None = sym (there (pair_some b p)) ∙ e in let no : ◌≡◌ {A = ℕ} 0 1 = cc in omega arith,
      λ none. ⊎_elim gone (λ h. let w = some_pair h in absurd (none w.0 w.1)) (eq-zero-or-pos (pairs_of (strong gap z ref) z blocks).count),
    )

    offset_present : ((f : Float) × (offset ≡ Some f)) ↔ ((b : ℕ) × IsPair gap z ref blocks b)
    offset_present = (
      λ w.
          ⊎_elim (λ e. let h : None ≡ Some w.0 = sym (gone e) ∙ w.1 in let no : ◌≡◌ {A = ℕ} 0 1 = cc in absurd (omega arith))
          some_pair (eq-zero-or-pos (pairs_of (strong gap z ref) z blocks).count),
      λ w. (chosen, there (pair_some w.0 w.1)),
    )

-- ---- the offset of the evidence

module _ (iq : List Float) (fs carrier : Float) (class : ℕ → BlockClass) (blocks : ℕ) where
  -- the blocks b and b + 1 are such a pair
  abbrev pub Paired : ℕ → Type 0
  Paired b = IsPair (is_in Gap class) (mean_at iq fs carrier) (reference_of iq fs carrier class blocks) blocks b

  pub absent_exactly : ((evidence_of iq fs carrier class blocks).offset_hz ≡ None) ↔ ((b : ℕ) → Paired b → ⊥)
  unfolding evidence_of evidence_by evidence_with reference_of
  absent_exactly = offset_absent (is_in Gap class) (mean_at iq fs carrier) _ blocks (mean_at iq fs) carrier (fs ⊘ of (window_of fs)) _

  pub present_exactly : ((f : Float) × ((evidence_of iq fs carrier class blocks).offset_hz ≡ Some f)) ↔ ((b : ℕ) × Paired b)
  unfolding evidence_of evidence_by evidence_with reference_of
  present_exactly = offset_present (is_in Gap class) (mean_at iq fs carrier) _ blocks (mean_at iq fs) carrier (fs ⊘ of (window_of fs)) _
