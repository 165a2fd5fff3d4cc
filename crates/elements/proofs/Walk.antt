-- The walk along a row, pair by pair of neighbours: what is pending and counted after j positions, how a turn of the
-- loop moves it on, and how small the counts are. Assumes nothing.
use Rattle.std.proofs.Common.{◌≡◌, ℕ, zero, suc, ◌+◌, ◌-◌, ◌*◌, ◌^◌, ◌≤◌, ◌<◌, Bool, true, false, not, ◌&&◌, cond, List, [], ◌∷◌, ◌++◌, length, get_or, drop, Bor, Some, None, refl, sym, ap, ◌∙◌, add-one, add-zero, arith, length-append}
use Rattle.std.proofs.Math.Bool.{and_comm}
use Rattle.std.proofs.lemmas.Iterator.{window_more}
use Rattle.std.specs.Slice.Iter.{windows_rest, windows_size, windows_steps}
use Rattle.std.specs.declared.slice.Windows.{Windows}
use Rattle.std.specs.Float.{nan}
use Rattle.std.specs.Float.Ieee.{lt, le}
use Rattle.std.specs.Prelude.{Float}
use Rattle.std.specs.declared.option.Option.{Option}
use native.Mathlib.Nat.{mul-le-mul}
use mathlib.Core.Bool.{true≢false}
use mathlib.Core.List.{append-nil}
use lib.ListN.{length-map}
use Rattle.lists.proofs.Every.{and_left}
use Rattle.elements.specs.declared.element.KeyedElement.{KeyedElement}
use Rattle.elements.specs.declared.keying.Found.{Found}
use Rattle.elements.specs.Keying.{heights, upward, downward, KeyDown, key_down, pending, ended, row_key_downs, element_of, is_long, long, airtime_of, no_key_downs, listed_of, short_of, counts, elements_of, found_to, elements_to}
use Rattle.elements.specs.Element.{ELEMENT, element_from}
use Rattle.lists.specs.Records.{stored_by}
use Rattle.elements.specs.Inner.{put_element_from, put_element, stored, stored_from, found_plus, one_listed, one_short, Room, Ending}
use Rattle.lists.specs.Those.{those}
use Rattle.elements.proofs.Reached.{not_reached}
use Rattle.elements.proofs.Joined.{airtime_append, airtime_steps, those_less, counts_append, elements_append}
use Rattle.lists.proofs.Records.{stored_append}
use Rattle.elements.proofs.Records.{element_kind}
use Rattle.lists.proofs.Those.{those_shorter}

-- no crossing is both upward and downward
pub one_way : (row : ℕ → Float) (thr : Float) (i : ℕ) → upward row thr i ≡ true → downward row thr i ≡ false
unfolding upward downward
one_way row thr i h = rw (not_reached (row (i - 1)) thr (and_left (lt (row (i - 1)) thr) (le thr (row i)) h))

-- ---- two neighbours of a row, as the walk goes over it

-- the windows of two that are left begin at position j
pub record Paired (row : List Float) (j : ℕ) (pairs : Windows Float) : Type 0 where
  pub two : windows_size pairs ≡ 2
  pub left : length (windows_rest pairs) ≤ length row
  pub behind : windows_rest pairs ≡ drop (length row - length (windows_rest pairs)) row
  pub place : j ≡ length row - length (windows_rest pairs)
  pub last : j ≤ length row - 1

pub paired_first : (row : List Float) (s : Windows Float) → windows_size s ≡ 2 → windows_rest s ≡ row → Paired row 0 s
paired_first row s two all =
    let none : length row - length row ≡ 0 = omega arith in
    record { two = two; left = rw all (omega arith); behind = rw (all, none); place = rw (all, none); last = omega arith }

module _ (row : List Float) (j : ℕ) (s t : Windows Float) (pair : Bor (List Float)) (p : Paired row j s) (step : windows_steps s (Some pair) t) where
  turn : (length (windows_rest t) + 1 ≡ length (windows_rest s)) × (windows_rest t ≡ drop (length row - length (windows_rest t)) row)
      × (windows_size s ≤ length (windows_rest s)) × ((k : ℕ) (d : Float) → k < windows_size s → get_or pair.now k d ≡ get_or row (length row - length (windows_rest s) + k) d)
  turn = window_more row s t (Some pair) pair refl step (omega (arith, p.two)) p.left p.behind

  pub paired_next : Paired row (j + 1) t
  paired_next =
      record { two = step.0 ∙ p.two; left = omega (arith, turn.0, p.left); behind = turn.1; place = omega (arith, turn.0, turn.2, p.two, p.left, p.place); last = omega (arith, turn.0, turn.2, p.two, p.left, p.place) }

  first : get_or pair.now 0 nan ≡ get_or row j nan
  first = let here : length row - length (windows_rest s) + 0 ≡ j = omega (arith, p.place) in rw here at (turn.3 0 nan (omega (arith, p.two)))

  second : get_or pair.now 1 nan ≡ get_or row (j + 1) nan
  second = let here : length row - length (windows_rest s) + 1 ≡ j + 1 = omega (arith, p.place) in rw here at (turn.3 1 nan (omega (arith, p.two)))

  module _ (thr : Float) (b : Bool) where
    pub is_upward : b ≡ (lt (get_or pair.now 0 nan) thr && le thr (get_or pair.now 1 nan)) → b ≡ upward (heights row) thr (j + 1)
    unfolding upward
    is_upward e = let before : j + 1 - 1 ≡ j = omega arith in rw (before, ← first, ← second) e

    pub is_downward : b ≡ (lt (get_or pair.now 1 nan) thr && le thr (get_or pair.now 0 nan)) → b ≡ downward (heights row) thr (j + 1)
    unfolding downward
    is_downward e =
        let before : j + 1 - 1 ≡ j = omega arith in
        rw (before, ← first, ← second) (e ∙ and_comm (lt (get_or pair.now 1 nan) thr) (le thr (get_or pair.now 0 nan)))

-- ---- what position j + 1 makes of what is pending and of the key-downs
module _ (row : ℕ → Float) (thr : Float) (j : ℕ) where
  pub pending_up : upward row thr (suc j) ≡ true → pending row thr (suc j) ≡ Some (suc j)
  unfolding pending
  pending_up h = rw h

  pub pending_down : upward row thr (suc j) ≡ false → downward row thr (suc j) ≡ true → pending row thr (suc j) ≡ None
  unfolding pending
  pending_down h d = rw (h, d)

  pub pending_same : upward row thr (suc j) ≡ false → downward row thr (suc j) ≡ false → pending row thr (suc j) ≡ pending row thr j
  unfolding pending
  pending_same h d = rw (h, d)

  pub key_downs_more : downward row thr (suc j) ≡ true → row_key_downs row thr (suc j) ≡ row_key_downs row thr j ++ ended (pending row thr j) (suc j)
  unfolding row_key_downs
  key_downs_more d = rw d

  pub key_downs_same : downward row thr (suc j) ≡ false → row_key_downs row thr (suc j) ≡ row_key_downs row thr j
  unfolding row_key_downs
  key_downs_same d = rw d (append-nil (row_key_downs row thr j))

-- ---- how many key-downs there are at most, and how long they are together: they lie one behind the other
abbrev pub Spaced : Option ℕ → ℕ → List KeyDown → Type 0
Spaced (Some u) j ks = (1 ≤ u) × (u ≤ j) × (2 * length ks + 1 ≤ u) × (airtime_of 1 ks ≤ u)
Spaced None j ks = (2 * length ks ≤ j) × (airtime_of 1 ks ≤ j)

spaced_step : (rises falls : Bool) (r : Option ℕ) (j : ℕ) (ks : List KeyDown) → (rises ≡ true → falls ≡ false) → Spaced r j ks
    → Spaced (cond rises (Some (suc j)) (cond falls None r)) (suc j) (ks ++ cond falls (ended r (suc j)) [])
unfolding airtime_of
spaced_step true true r j ks one h = absurd (true≢false (one refl))
spaced_step true false (Some u) j ks one h = rw (append-nil ks) (omega arith, omega arith, omega arith, omega arith)
spaced_step true false None j ks one h = rw (append-nil ks) (omega arith, omega arith, omega arith, omega arith)
spaced_step false true (Some u) j ks one h =
    rw (length-append ks (key_down u (suc j) ∷ []), airtime_append 1 ks (key_down u (suc j) ∷ [])) (omega arith, omega arith)
spaced_step false true None j ks one h = rw (append-nil ks) (omega arith, omega arith)
spaced_step false false (Some u) j ks one h = rw (append-nil ks) (omega arith, omega arith, omega arith, omega arith)
spaced_step false false None j ks one h = rw (append-nil ks) (omega arith, omega arith)

pub spaced : (row : ℕ → Float) (thr : Float) (j : ℕ) → Spaced (pending row thr j) j (row_key_downs row thr j)
unfolding pending row_key_downs airtime_of
spaced row thr zero = (omega arith, omega arith)
spaced row thr (suc j) =
    spaced_step (upward row thr (suc j)) (downward row thr (suc j)) (pending row thr j) j (row_key_downs row thr j) (one_way row thr (suc j)) (spaced row thr j)

-- ---- the same of the code's counts, where a key-down ends at i
room_of : (ks : List KeyDown) (p q : KeyDown → Bool) (u step : ℕ) → u ≤ 2 ^ 20 → step ≤ 64 → 2 * length ks + 1 ≤ u → airtime_of 1 ks ≤ u
    → Room (record { key_downs = length ks; listed = length (those p ks); short = length (those q ks); airtime = airtime_of step (those p ks) })
room_of ks p q u step h g few brief =
    let listed = those_shorter p ks in
    let short = those_shorter q ks in
    let air = those_less p step ks in
    let steps = airtime_steps step ks in
    let most : airtime_of 1 ks * step ≤ 2 ^ 20 * 64 = mul-le-mul {n₁ = airtime_of 1 ks} {n₂ = 2 ^ 20} (omega arith) g in
    record { key_downs = omega arith; long = omega arith; brief = omega arith; air = omega arith }

module _ (row : ℕ → Float) (thr : Float) (step : ℕ) (fs : Float) where
  ending_of : (u i : ℕ) (r : Option ℕ) → i ≤ 2 ^ 20 → 1 ≤ i → step ≤ 64 → Some u ≡ r → Spaced r (i - 1) (row_key_downs row thr (i - 1)) → Ending (found_to row thr step fs (i - 1)) u i
  unfolding found_to counts listed_of short_of
  ending_of u i (Some v) h p g e k =
      let same : u ≡ v = cc in
      let fewer = those_shorter (long row thr step fs) (row_key_downs row thr (i - 1)) in
      record {
        first = omega arith;
        later = omega arith;
        place = omega arith;
        room = room_of (row_key_downs row thr (i - 1)) (long row thr step fs) (λ d. not (long row thr step fs d)) v step (omega arith) g k.2 k.3;
      }
  ending_of u i None h p g e k = let none : ◌≡◌ {A = ℕ} 0 1 = cc in absurd (omega arith)

  pub ending : (rising : Option ℕ) (u i : ℕ) (found : Found) → rising ≡ Some u → rising ≡ pending row thr (i - 1) → found ≡ found_to row thr step fs (i - 1)
      → 1 ≤ i → i ≤ 2 ^ 20 → step ≤ 64 → Ending found u i
  ending rising u i found e p q one small g = rw q (ending_of u i (pending row thr (i - 1)) small one g (sym e ∙ p) (spaced row thr (i - 1)))

  -- ---- what a key-down counts, and what is stored of it
  module _ (k : KeyDown) where
    pub counts_long : long row thr step fs k ≡ true → counts row thr step fs (k ∷ []) ≡ one_listed ((k.down - k.up) * step)
    unfolding counts listed_of short_of those airtime_of
    counts_long h = let none : (k.down - k.up) * step + 0 ≡ (k.down - k.up) * step = omega arith in rw (h, none)

    pub counts_short : long row thr step fs k ≡ false → counts row thr step fs (k ∷ []) ≡ one_short
    unfolding counts listed_of short_of those airtime_of
    counts_short h = rw h

    pub elements_long : long row thr step fs k ≡ true → elements_of row thr step fs (k ∷ []) ≡ element_of row thr step k ∷ []
    unfolding elements_of listed_of those
    elements_long h = rw h

    pub elements_short : long row thr step fs k ≡ false → elements_of row thr step fs (k ∷ []) ≡ []
    unfolding elements_of listed_of those
    elements_short h = rw h

  pub counts_none : counts row thr step fs [] ≡ no_key_downs
  unfolding counts listed_of short_of those airtime_of
  counts_none = refl

  pub elements_none : elements_of row thr step fs [] ≡ []
  unfolding elements_of listed_of those
  elements_none = refl

  -- ---- one key-down more: a listed one and a short one
  module _ (k : KeyDown) (e : KeyedElement) (t : Bool) (found r : Found) (l out : List Float) (is : e ≡ element_of row thr step k) (test : t ≡ is_long fs e) where
    pub one_listed_lem : t ≡ true → r ≡ found_plus found (one_listed ((k.down - k.up) * step)) → out ≡ put_element l found.listed e
        → (r ≡ found_plus found (counts row thr step fs (k ∷ []))) × (out ≡ stored_from l found.listed (elements_of row thr step fs (k ∷ [])))
    unfolding stored_by long
    one_listed_lem passed counted put =
        let is-long : long row thr step fs k ≡ true = rw (← is) (sym test ∙ passed) in
        (rw (counts_long k is-long) counted, rw (elements_long k is-long, ← is) put)

    pub one_short_lem : t ≡ false → r ≡ found_plus found one_short → out ≡ l
        → (r ≡ found_plus found (counts row thr step fs (k ∷ []))) × (out ≡ stored_from l found.listed (elements_of row thr step fs (k ∷ [])))
    unfolding stored_by long
    one_short_lem failed counted same =
        let is-short : long row thr step fs k ≡ false = rw (← is) (sym test ∙ failed) in
        (rw (counts_short k is-short) counted, rw (elements_short k is-short) same)

  -- a downward crossing at i where nothing is pending
  module _ (rising : Option ℕ) (i : ℕ) (found : Found) (l : List Float) where
    pub none_ended : rising ≡ None
        → (found ≡ found_plus found (counts row thr step fs (ended rising i))) × (l ≡ stored_from l found.listed (elements_of row thr step fs (ended rising i)))
    unfolding stored_by
    none_ended e = (rw (e, counts_none) (simp add-zero), rw (e, elements_none))

  -- ---- lists put behind one another
  listed_place : (ks : List KeyDown) → 0 + length (elements_of row thr step fs ks) ≡ (counts row thr step fs ks).listed
  unfolding counts elements_of
  listed_place ks =
      let here : 0 + length (elements_of row thr step fs ks) ≡ length (elements_of row thr step fs ks) = omega arith in
      here ∙ length-map (listed_of row thr step fs ks) (element_of row thr step)

  module _ (ks new : List KeyDown) (found : Found) (so_far : found ≡ counts row thr step fs ks) where
    counts_more : (r : Found) → r ≡ found_plus found (counts row thr step fs new) → r ≡ counts row thr step fs (ks ++ new)
    counts_more r e = rw (counts_append row thr step fs ks new, ← so_far) e

    stored_more : (l cur out : List Float) → cur ≡ stored l (elements_of row thr step fs ks) → out ≡ stored_from cur found.listed (elements_of row thr step fs new)
        → out ≡ stored l (elements_of row thr step fs (ks ++ new))
    stored_more l cur out c e =
        let place : 0 + length (elements_of row thr step fs ks) ≡ found.listed = listed_place ks ∙ ap (λ f. f.listed) (sym so_far) in
        rw (elements_append row thr step fs ks new, stored_append ELEMENT element_from put_element_from element_kind l 0 (elements_of row thr step fs ks) (elements_of row thr step fs new), place, ← c) e

  -- ---- the loop, where the positions 1 to j are behind it
  pub record Walked (l : List Float) (j : ℕ) (rising : Option ℕ) (found : Found) (cur : List Float) : Type 0 where
    pub waiting : rising ≡ pending row thr j
    pub counted : found ≡ found_to row thr step fs j
    pub written : cur ≡ stored l (elements_to row thr step fs j)

  module _ (l : List Float) where
    pub walked_none : Walked l 0 None no_key_downs l
    unfolding pending row_key_downs found_to elements_to stored_by
    walked_none = record { waiting = refl; counted = sym counts_none; written = rw elements_none }

    module _ (j : ℕ) (rising : Option ℕ) (found : Found) (cur : List Float) (w : Walked l j rising found cur) where
      pub walked_up : upward row thr (j + 1) ≡ true → Walked l (j + 1) (Some (j + 1)) found cur
      unfolding found_to elements_to
      walked_up u =
          let h = rw add-one at u in
          let same = key_downs_same row thr j (one_way row thr (suc j) h) in
          rw add-one (record { waiting = sym (pending_up row thr j h); counted = rw same w.counted; written = rw same w.written })

      pub walked_same : upward row thr (j + 1) ≡ false → downward row thr (j + 1) ≡ false → Walked l (j + 1) rising found cur
      unfolding found_to elements_to
      walked_same u f =
          let h = rw add-one at u in
          let d = rw add-one at f in
          let same = key_downs_same row thr j d in
          rw add-one (record { waiting = w.waiting ∙ sym (pending_same row thr j h d); counted = rw same w.counted; written = rw same w.written })

      pub walked_down : (r : Found) (out : List Float) → upward row thr (j + 1) ≡ false → downward row thr (j + 1) ≡ true
          → (r ≡ found_plus found (counts row thr step fs (ended rising (j + 1))))
          × (out ≡ stored_from cur found.listed (elements_of row thr step fs (ended rising (j + 1))))
          → Walked l (j + 1) None r out
      unfolding found_to elements_to
      walked_down r out u f e =
          let h = rw add-one at u in
          let d = rw add-one at f in
          let more = key_downs_more row thr j d in
          let new = ended (pending row thr j) (suc j) in
          let e' = rw (w.waiting, add-one) at e in
          rw add-one
          (record {
            waiting = sym (pending_down row thr j h d);
            counted = rw more (counts_more (row_key_downs row thr j) new found w.counted r e'.0);
            written = rw more (stored_more (row_key_downs row thr j) new found w.counted l cur out w.written e'.1);
          })
