-- The ways out of `find_elements`. Assumes nothing.
use Rattle.std.proofs.Common.{Some, None}
use Rattle.std.specs.declared.option.Option.{Option}
use Prim.Native.Nat.{ℕ, ◌-◌, ◌*◌, ◌/◌, ◌≤◌}
use native.Mathlib.Omega.{arith}
use mathlib.Core.Path.{◌≡◌, sym, ap, ◌∙◌}
use mathlib.Core.List.{List}
use lib.ListN.{length, get_or}
use lib.Ieee.{Float, nan}
use Rattle.float.specs.Ops.{bits}
use Rattle.row.specs.Window.{step_of, step_blocks}
use Rattle.row.specs.Envelope.{row_of, row_length}
use Rattle.lists.specs.Firsts.{firsts}
use Rattle.lists.proofs.Firsts.{get_d_firsts}
use Rattle.rank.specs.Select.{percentile_of}
use Rattle.elements.specs.declared.keying.Found.{Found}
use Rattle.elements.specs.Keying.{heights, no_key_downs, found_to, elements_to}
use Rattle.lists.specs.Records.{handed}
use Rattle.elements.specs.Element.{ELEMENT, elements_in, handed_elements}
use Rattle.elements.specs.Inner.{stored}
use Rattle.elements.specs.Find.{half_of, threshold_of, found_of, elements_found}
use Rattle.elements.proofs.Same.{found_same, elements_same}
use Rattle.elements.proofs.Records.{elements_handed}
use Rattle.elements.proofs.Bounds.{some_row}
use Rattle.elements.proofs.Amplitudes.{row_size}
use Rattle.elements.proofs.Recording.{listed_counted, all_counted, enough_places}
use Rattle.constants.proofs.Bits.{edge_percentile_bits}

module _ (iq : List Float) (fs carrier : Float) where
  abbrev answered : Found → List Float → List Float → Type 0
  answered r l out = (r ≡ found_of iq fs carrier) × (handed_elements out r.listed ≡ handed ELEMENT (elements_found iq fs carrier) l)

  -- ---- the elements found, stored in a list with floor(B/2) places
  found_handed : (r : Found) (l out : List Float) → ELEMENT * (step_blocks iq fs / 2) ≤ length l → r ≡ found_of iq fs carrier → out ≡ stored l (elements_found iq fs carrier) → answered r l out
  found_handed r l out room e f =
      let few = all_counted iq fs carrier in
      let most = enough_places iq fs carrier in
      let listed = listed_counted iq fs carrier in
      (e, rw (e, f, listed) (elements_handed l (elements_found iq fs carrier) (omega arith)))

  -- ---- no threshold: nothing is found
  without : (l : List Float) → threshold_of iq fs carrier ≡ None → answered no_key_downs l l
  unfolding found_of elements_found elements_in handed_elements firsts
  without l e = (rw e, rw e)

  module _ (v : List Float) (is : v ≡ firsts (row_of iq fs carrier) (row_length iq fs)) (p : Option Float) (asked : p ≡ percentile_of v (bits 0x3fef_5c28_f5c2_8f5c)) where
    threshold_is : threshold_of iq fs carrier ≡ half_of p
    unfolding threshold_of
    threshold_is = rw (← is, edge_percentile_bits, ← asked)

    pub way_none : (l : List Float) → p ≡ None → answered no_key_downs l l
    way_none l e = without l (rw (threshold_is, e))

    pub way_low : (l : List Float) (top : Float) → p ≡ Some top → None ≡ half_of (Some top) → answered no_key_downs l l
    way_low l top e low = without l (rw (threshold_is, e) (sym low))

    pub way_found : (l out : List Float) (top thr : Float) (step : ℕ) (r : Found) → ELEMENT * (step_blocks iq fs / 2) ≤ length l → step ≡ step_of fs → p ≡ Some top → Some thr ≡ half_of (Some top)
        → (r ≡ found_to (heights v) thr step fs (length v - 1)) × (out ≡ stored l (elements_to (heights v) thr step fs (length v - 1)))
        → answered r l out
    unfolding found_of elements_found
    way_found l out top thr step r room s e high h =
        let at : threshold_of iq fs carrier ≡ Some thr = rw (threshold_is, e) (sym high) in
        let some = some_row iq fs carrier thr at in
        let size = row_size iq fs carrier v is in
        let last : length v - 1 ≡ row_length iq fs - 1 = omega arith in
        let same : (i : ℕ) → i ≤ length v - 1 → heights v i ≡ row_of iq fs carrier i =
        λ i b. ap (λ (m : List Float). get_or m i nan) is ∙ get_d_firsts (row_of iq fs carrier) (row_length iq fs) i nan (omega arith) in
        found_handed r l out room
        (rw (at, ← last, ← s) (h.0 ∙ found_same (heights v) (row_of iq fs carrier) thr (length v - 1) same step fs))
        (rw (at, ← last, ← s) (h.1 ∙ ap (stored l) (elements_same (heights v) (row_of iq fs carrier) thr (length v - 1) same step fs)))
