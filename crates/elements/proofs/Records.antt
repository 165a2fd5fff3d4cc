-- Elements in a list: stored from a number on and read back. `element_kind` gives the laws on records of any kind
-- (lists Records) for elements; `elements_handed` says what a list of elements hands out. Assumes nothing.
use Prim.Native.Nat.{ℕ, ◌+◌, ◌*◌, ◌≤◌, ◌<◌}
use native.Mathlib.Nat.{add-zero}
use native.Mathlib.Omega.{arith}
use mathlib.Core.Path.{◌≡◌, ap, ◌∙◌}
use mathlib.Core.List.{List, []}
use lib.Dec.{lit<}
use lib.ListN.{length, get_or, set, drop, length-set}
use lib.Seq.{get_or-set_same, get_or-set_other, drop-set-lt}
use lib.Ieee.{Float, nan}
use Rattle.std.specs.Simd.{first_chunks}
use Rattle.lists.specs.Records.{Handed, handed}
use Rattle.lists.proofs.Chunks.{chunk_read}
use Rattle.lists.proofs.Records.{Kind, stored_handed, handed_again}
use Rattle.elements.specs.declared.element.KeyedElement.{KeyedElement}
use Rattle.elements.specs.Element.{ELEMENT, element_from, element_at, elements_in, handed_elements}
use Rattle.elements.specs.Inner.{put_element_from, stored}

module _ (l : List Float) (at : ℕ) (e : KeyedElement) where
  with_start : List Float
  with_start = set l at e.start

  with_end : List Float
  unfolding with_start
  with_end = set with_start (at + 1) e.end

  with_up : List Float
  unfolding with_end
  with_up = set with_end (at + 2) e.up

  pub before_element : (x : ℕ) → x < at → get_or (put_element_from l at e) x nan ≡ get_or l x nan
  unfolding with_up
  before_element x h =
      get_or-set_other with_up (at + 3) x e.down nan (omega arith) ∙ get_or-set_other with_end (at + 2) x e.up nan (omega arith)
      ∙ get_or-set_other with_start (at + 1) x e.end nan (omega arith) ∙ get_or-set_other l at x e.start nan (omega arith)

  pub element_before : (from : ℕ) → from + ELEMENT ≤ at → element_from (put_element_from l at e) from ≡ element_from l from
  element_before from h =
      rw (before_element from (omega arith), before_element (from + 1) (omega arith), before_element (from + 2) (omega arith), before_element (from + 3) (omega arith))

  pub element_after : (n : ℕ) → at + ELEMENT ≤ n → drop n (put_element_from l at e) ≡ drop n l
  unfolding with_up
  element_after n h =
      drop-set-lt n with_up (at + 3) e.down (omega arith) ∙ drop-set-lt n with_end (at + 2) e.up (omega arith) ∙ drop-set-lt n with_start (at + 1) e.end (omega arith)
      ∙ drop-set-lt n l at e.start (omega arith)

  module _ (room : at + ELEMENT ≤ length l) where
    start_is : get_or (put_element_from l at e) at nan ≡ e.start
    unfolding with_up
    start_is =
        get_or-set_other with_up (at + 3) at e.down nan (omega arith) ∙ get_or-set_other with_end (at + 2) at e.up nan (omega arith)
        ∙ get_or-set_other with_start (at + 1) at e.end nan (omega arith) ∙ get_or-set_same l at e.start nan (omega arith)

    end_is : get_or (put_element_from l at e) (at + 1) nan ≡ e.end
    unfolding with_up
    end_is =
        get_or-set_other with_up (at + 3) (at + 1) e.down nan (omega arith) ∙ get_or-set_other with_end (at + 2) (at + 1) e.up nan (omega arith)
        ∙ get_or-set_same with_start (at + 1) e.end nan (simp length-set (omega arith))

    up_is : get_or (put_element_from l at e) (at + 2) nan ≡ e.up
    unfolding with_up
    up_is = get_or-set_other with_up (at + 3) (at + 2) e.down nan (omega arith) ∙ get_or-set_same with_end (at + 2) e.up nan (simp length-set (omega arith))

    down_is : get_or (put_element_from l at e) (at + 3) nan ≡ e.down
    unfolding with_up
    down_is = get_or-set_same with_up (at + 3) e.down nan (simp length-set (omega arith))

    pub element_put : element_from (put_element_from l at e) at ≡ e
    element_put = rw (start_is, end_is, up_is, down_is)

pub element_kind : Kind Float KeyedElement ELEMENT element_from put_element_from
element_kind =
    record {
      some = omega arith;
      length_put = λ l at e. simp length-set;
      get_put = element_put;
      get_before = element_before;
      drop_put = element_after;
    }

-- the elements that a list hands out: stored in it, read back from it, and stored in it a second time
pub elements_handed : (l : List Float) (es : List KeyedElement) → ELEMENT * length es ≤ length l → handed_elements (stored l es) (length es) ≡ handed ELEMENT es l
unfolding elements_in handed_elements
elements_handed = stored_handed ELEMENT element_from put_element_from element_kind

pub elements_read : (cur l : List Float) (n : ℕ) (es : List KeyedElement) → handed_elements cur n ≡ handed ELEMENT es l → elements_in cur n ≡ es
unfolding handed handed_elements
elements_read cur l n es e = ap (λ h. h.records) e

pub elements_again : (h : Handed KeyedElement) (es ds : List KeyedElement) (mid l : List Float) (n : ℕ)
    → h ≡ handed ELEMENT es mid → handed_elements mid n ≡ handed ELEMENT ds l → h ≡ handed ELEMENT es l
unfolding handed_elements
elements_again h es ds mid l n e f = handed_again ELEMENT h es (elements_in mid n) ds mid l e f

-- an element read from its place alone
pub element_read : (places : List (List Float)) (n : ℕ) (l : List Float) (k : ℕ) (e : KeyedElement)
    → places ≡ first_chunks ELEMENT n l → k < n → e ≡ element_at (get_or places k []) 0 → e ≡ element_at l k
element_read places n l k e all h read =
    rw (
      read,
      all,
      chunk_read ELEMENT n l k 0 [] nan h (lit< tt),
      chunk_read ELEMENT n l k 1 [] nan h (lit< tt),
      chunk_read ELEMENT n l k 2 [] nan h (lit< tt),
      chunk_read ELEMENT n l k 3 [] nan h (lit< tt),
      add-zero (ELEMENT * k),
    )
