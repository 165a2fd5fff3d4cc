-- Where something is counted: in the program's counts by their names, and so at its place among all of them.
use Rattle.std.proofs.Common.{◌≡◌, ℕ, ◌+◌, ◌-◌, ◌^◌, ◌<◌, ◌≤◌, ◌==◌, min, not, Bool, true, false, cond, List, [], ◌∷◌, ◌++◌, length, get_or, nat_lt, refl, sym, ◌∙◌, arith, le-ltb, ne_eqb, lt-ltb, ltb-true, ltb-false, length-append, append_assoc, lit≤, length-set}
use Rattle.std.specs.Int.{from_bool}
use Rattle.std.proofs.lemmas.List.{set-append_left, set-append_right, get_or-append-add, set-get_or}
use Rattle.std.proofs.Math.ListN.{get_or-append}
use Rattle.std.proofs.Math.Seq.{get_or-append_seam, set-append_seam}
use Rattle.stored.specs.declared.tally.Tally.{Tally}
use Rattle.stored.specs.Tally.{asked_in, counted_of, ran_of, CALLS, NUMBERS, HYPOTHESES, ASKED, EQUAL, STORED, MEANT, REFUSED, HYPOTHESIS, TAKEN, CHANGED, ENDS, BROKEN, PLACES, place_of, plus, counts}
use Rattle.stored.specs.Inner.{in_stored, in_meant, in_group, sum_of, added, row_after, broken_after}

-- ---- a row of counts that stands behind so many others, and what has no place
module _ (before : List ℕ) (first places k more : ℕ) where
  pub in_row : (row after : List ℕ) → length before ≡ first → length row ≡ places → k < places → first + places ≤ PLACES → plus first places k more (before ++ (row ++ after)) ≡ before ++ (added row k more ++ after)
  unfolding plus place_of
  in_row row after e f h g =
      let here : first + k - first ≡ k = omega arith in
      let read : get_or (before ++ (row ++ after)) (first + k) 0 ≡ get_or row k 0 =
      rw (← e) (get_or-append-add before (row ++ after) k 0 ∙ get_or-append row after 0 k (omega arith)) in
      rw (lt-ltb k places h, lt-ltb (first + k) PLACES (omega arith), read, set-append_right before (row ++ after) first (first + k) (sum_of (get_or row k 0) more) e (omega arith), here, set-append_left row after k (sum_of (get_or row k 0) more) (omega arith)) refl

  pub no_place : (broken : ℕ) → length before ≡ BROKEN → places ≤ k → plus first places k more (before ++ (broken ∷ [])) ≡ before ++ (sum_of broken more ∷ [])
  unfolding plus place_of
  no_place broken e h =
      rw (le-ltb k places h, ← e, get_or-append_seam before broken [] 0, set-append_seam before broken [] (sum_of broken more)) refl

-- ---- the program's counts, whose rows have these lengths
pub record Long (s : Tally) : Type 0 where
  pub stored_asked : length s.stored.asked ≡ CALLS
  pub stored_equal : length s.stored.equal ≡ CALLS
  pub meant_asked : length s.meant.asked ≡ CALLS
  pub meant_equal : length s.meant.equal ≡ CALLS
  pub refused : length s.refused ≡ NUMBERS
  pub hypotheses : length s.hypotheses ≡ HYPOTHESES

module _ (s : Tally) (l : Long s) (k more : ℕ) where
  -- what has no place in a row is broken
  spilt : (first places : ℕ) → places ≤ k → plus first places k more (counts s) ≡ counts (record s { broken = sum_of s.broken more })
  spilt first places h =
      simp append_assoc at (no_place (s.stored.asked ++ (s.stored.equal ++ (s.meant.asked ++ (s.meant.equal ++ (s.refused ++ (s.hypotheses ++ (s.taken ∷ s.changed ∷ s.ends ∷ []))))))) first places k more s.broken (simp length-append (omega arith)) h)

  -- so of a row of counts and what is broken, by what the counts are where the row has the place
  placed : (first places : ℕ) (row : List ℕ) (with : List ℕ → ℕ → Tally) → length row ≡ places
      → (k < places → plus first places k more (counts s) ≡ counts (with (added row k more) s.broken))
      → with row (sum_of s.broken more) ≡ record s { broken = sum_of s.broken more }
      → plus first places k more (counts s) ≡ counts (with (row_after row k more) (broken_after row s.broken k more))
  placed first places row with e inside outside = of (nat_lt k (length row)) refl
    where
      of : (t : Bool) → nat_lt k (length row) ≡ t → plus first places k more (counts s) ≡ counts (with (cond t (added row k more) row) (cond t s.broken (sum_of s.broken more)))
      of true y = let within = ltb-true k (length row) y in inside (omega arith)
      of false y = let past = ltb-false k (length row) y in rw outside (spilt first places (omega arith))

  pub at_stored_asked : plus (STORED + ASKED) CALLS k more (counts s) ≡ counts (record s { stored = record s.stored { asked = row_after s.stored.asked k more }; broken = broken_after s.stored.asked s.broken k more })
  at_stored_asked =
      placed (STORED + ASKED) CALLS s.stored.asked (λ row broken. record s { stored = record s.stored { asked = row }; broken = broken }) l.stored_asked (λ h. in_row [] (STORED + ASKED) CALLS k more s.stored.asked _ refl l.stored_asked h (lit≤ tt)) refl

  pub at_stored_equal : plus (STORED + EQUAL) CALLS k more (counts s) ≡ counts (record s { stored = record s.stored { equal = row_after s.stored.equal k more }; broken = broken_after s.stored.equal s.broken k more })
  at_stored_equal =
      placed (STORED + EQUAL) CALLS s.stored.equal (λ row broken. record s { stored = record s.stored { equal = row }; broken = broken }) l.stored_equal (λ h. in_row s.stored.asked (STORED + EQUAL) CALLS k more s.stored.equal _ l.stored_asked l.stored_equal h (lit≤ tt)) refl

  pub at_meant_asked : plus (MEANT + ASKED) CALLS k more (counts s) ≡ counts (record s { meant = record s.meant { asked = row_after s.meant.asked k more }; broken = broken_after s.meant.asked s.broken k more })
  at_meant_asked =
      placed (MEANT + ASKED) CALLS s.meant.asked (λ row broken. record s { meant = record s.meant { asked = row }; broken = broken }) l.meant_asked (λ h. simp append_assoc at (in_row (s.stored.asked ++ s.stored.equal) (MEANT + ASKED) CALLS k more s.meant.asked (s.meant.equal ++ (s.refused ++ (s.hypotheses ++ (s.taken ∷ s.changed ∷ s.ends ∷ s.broken ∷ [])))) (simp length-append (omega arith)) l.meant_asked h (lit≤ tt))) refl

  pub at_meant_equal : plus (MEANT + EQUAL) CALLS k more (counts s) ≡ counts (record s { meant = record s.meant { equal = row_after s.meant.equal k more }; broken = broken_after s.meant.equal s.broken k more })
  at_meant_equal =
      placed (MEANT + EQUAL) CALLS s.meant.equal (λ row broken. record s { meant = record s.meant { equal = row }; broken = broken }) l.meant_equal (λ h. simp append_assoc at (in_row (s.stored.asked ++ (s.stored.equal ++ s.meant.asked)) (MEANT + EQUAL) CALLS k more s.meant.equal (s.refused ++ (s.hypotheses ++ (s.taken ∷ s.changed ∷ s.ends ∷ s.broken ∷ []))) (simp length-append (omega arith)) l.meant_equal h (lit≤ tt))) refl

  pub at_refused : plus REFUSED NUMBERS k more (counts s) ≡ counts (record s { refused = row_after s.refused k more; broken = broken_after s.refused s.broken k more })
  at_refused =
      placed REFUSED NUMBERS s.refused (λ row broken. record s { refused = row; broken = broken }) l.refused (λ h. simp append_assoc at (in_row (s.stored.asked ++ (s.stored.equal ++ (s.meant.asked ++ s.meant.equal))) REFUSED NUMBERS k more s.refused (s.hypotheses ++ (s.taken ∷ s.changed ∷ s.ends ∷ s.broken ∷ [])) (simp length-append (omega arith)) l.refused h (lit≤ tt))) refl

  pub at_hypotheses : plus HYPOTHESIS HYPOTHESES k more (counts s) ≡ counts (record s { hypotheses = row_after s.hypotheses k more; broken = broken_after s.hypotheses s.broken k more })
  at_hypotheses =
      placed HYPOTHESIS HYPOTHESES s.hypotheses (λ row broken. record s { hypotheses = row; broken = broken }) l.hypotheses (λ h. simp append_assoc at (in_row (s.stored.asked ++ (s.stored.equal ++ (s.meant.asked ++ (s.meant.equal ++ s.refused)))) HYPOTHESIS HYPOTHESES k more s.hypotheses (s.taken ∷ s.changed ∷ s.ends ∷ s.broken ∷ []) (simp length-append (omega arith)) l.hypotheses h (lit≤ tt))) refl

  pub at_taken : plus TAKEN 1 0 more (counts s) ≡ counts (record s { taken = sum_of s.taken more })
  at_taken =
      simp append_assoc at (in_row (s.stored.asked ++ (s.stored.equal ++ (s.meant.asked ++ (s.meant.equal ++ (s.refused ++ s.hypotheses))))) TAKEN 1 0 more (s.taken ∷ []) (s.changed ∷ s.ends ∷ s.broken ∷ []) (simp length-append (omega arith)) refl (lit≤ tt) (lit≤ tt))

  pub at_changed : plus CHANGED 1 0 more (counts s) ≡ counts (record s { changed = sum_of s.changed more })
  at_changed =
      simp append_assoc at (in_row (s.stored.asked ++ (s.stored.equal ++ (s.meant.asked ++ (s.meant.equal ++ (s.refused ++ (s.hypotheses ++ (s.taken ∷ []))))))) CHANGED 1 0 more (s.changed ∷ []) (s.ends ∷ s.broken ∷ []) (simp length-append (omega arith)) refl (lit≤ tt) (lit≤ tt))

  pub at_ends : plus ENDS 1 0 more (counts s) ≡ counts (record s { ends = sum_of s.ends more })
  at_ends =
      simp append_assoc at (in_row (s.stored.asked ++ (s.stored.equal ++ (s.meant.asked ++ (s.meant.equal ++ (s.refused ++ (s.hypotheses ++ (s.taken ∷ s.changed ∷ []))))))) ENDS 1 0 more (s.ends ∷ []) (s.broken ∷ []) (simp length-append (omega arith)) refl (lit≤ tt) (lit≤ tt))

  pub at_broken : plus BROKEN 1 0 more (counts s) ≡ counts (record s { broken = sum_of s.broken more })
  at_broken =
      simp append_assoc at (in_row (s.stored.asked ++ (s.stored.equal ++ (s.meant.asked ++ (s.meant.equal ++ (s.refused ++ (s.hypotheses ++ (s.taken ∷ s.changed ∷ s.ends ∷ []))))))) BROKEN 1 0 more (s.broken ∷ []) [] (simp length-append (omega arith)) refl (lit≤ tt) (lit≤ tt))

-- ---- a case of a call in its group
length-row_after : (row : List ℕ) (k more : ℕ) → length (row_after row k more) ≡ length row
length-row_after row k more = of (nat_lt k (length row))
  where
    of : (t : Bool) → length (cond t (added row k more) row) ≡ length row
    of true = length-set row k _
    of false = refl

module _ (s : Tally) (l : Long s) (call : ℕ) (equal : Bool) where
  long_stored : Long (in_stored s call equal)
  long_stored = record { stored_asked = length-row_after s.stored.asked _ _ ∙ l.stored_asked; stored_equal = length-row_after s.stored.equal _ _ ∙ l.stored_equal; meant_asked = l.meant_asked; meant_equal = l.meant_equal; refused = l.refused; hypotheses = l.hypotheses }

  long_meant : Long (in_meant s call equal)
  long_meant = record { stored_asked = l.stored_asked; stored_equal = l.stored_equal; meant_asked = length-row_after s.meant.asked _ _ ∙ l.meant_asked; meant_equal = length-row_after s.meant.equal _ _ ∙ l.meant_equal; refused = l.refused; hypotheses = l.hypotheses }

  asked_stored : asked_in STORED call equal (counts s) ≡ counts (in_stored s call equal)
  unfolding asked_in
  asked_stored =
      let first : Tally = record s { stored = record s.stored { asked = row_after s.stored.asked call 1 }; broken = broken_after s.stored.asked s.broken call 1 } in
      let long : Long first = record { stored_asked = length-row_after s.stored.asked _ _ ∙ l.stored_asked; stored_equal = l.stored_equal; meant_asked = l.meant_asked; meant_equal = l.meant_equal; refused = l.refused; hypotheses = l.hypotheses } in
      rw (at_stored_asked s l call 1) (at_stored_equal first long call (cond equal 1 0))

  asked_meant : asked_in MEANT call equal (counts s) ≡ counts (in_meant s call equal)
  unfolding asked_in
  asked_meant =
      let first : Tally = record s { meant = record s.meant { asked = row_after s.meant.asked call 1 }; broken = broken_after s.meant.asked s.broken call 1 } in
      let long : Long first = record { stored_asked = l.stored_asked; stored_equal = l.stored_equal; meant_asked = length-row_after s.meant.asked _ _ ∙ l.meant_asked; meant_equal = l.meant_equal; refused = l.refused; hypotheses = l.hypotheses } in
      rw (at_meant_asked s l call 1) (at_meant_equal first long call (cond equal 1 0))

  pub counted : (meant : Bool) (number : ℕ) (t : Tally) → t ≡ in_group s meant call equal → counts (record t { refused = row_after t.refused number (from_bool (not meant)); broken = broken_after t.refused t.broken number (from_bool (not meant)) }) ≡ counted_of call meant equal number (counts s)
  unfolding counted_of
  counted true number t e = rw (e, asked_meant) (sym (at_refused (in_meant s call equal) long_meant number 0))
  counted false number t e = rw (e, asked_stored) (sym (at_refused (in_stored s call equal) long_stored number 1))

-- ---- a run, by the number that refused it
accepted_once : (b : Bool) → from_bool b ≡ cond b 1 0
accepted_once true = refl
accepted_once false = refl

module _ (s : Tally) (l : Long s) (number hypothesis : ℕ) (taken : Bool) (changed : ℕ) where
  pub ran : (samples : ℕ) → samples ≡ cond taken changed 0 → counts (record s { hypotheses = row_after s.hypotheses hypothesis (from_bool (number == 0)); broken = broken_after s.hypotheses s.broken hypothesis (from_bool (number == 0)); taken = sum_of s.taken (from_bool taken); changed = sum_of s.changed samples }) ≡ ran_of number hypothesis taken changed (counts s)
  unfolding ran_of
  ran samples e =
      let accepted = cond (number == 0) 1 0 in
      let found : Tally = record s { hypotheses = row_after s.hypotheses hypothesis accepted; broken = broken_after s.hypotheses s.broken hypothesis accepted } in
      let long : Long found = record { stored_asked = l.stored_asked; stored_equal = l.stored_equal; meant_asked = l.meant_asked; meant_equal = l.meant_equal; refused = l.refused; hypotheses = length-row_after s.hypotheses hypothesis accepted ∙ l.hypotheses } in
      let took : Tally = record found { taken = sum_of s.taken (cond taken 1 0) } in
      let as_long : Long took = record { stored_asked = l.stored_asked; stored_equal = l.stored_equal; meant_asked = l.meant_asked; meant_equal = l.meant_equal; refused = l.refused; hypotheses = length-row_after s.hypotheses hypothesis accepted ∙ l.hypotheses } in
      rw (accepted_once (number == 0), accepted_once taken, e, at_hypotheses s l hypothesis accepted, at_taken found long 0 (cond taken 1 0)) (sym (at_changed took as_long 0 (cond taken changed 0)))

-- ---- a run that is refused adds nothing, where no count is above the largest number
module _ (t : List ℕ) (within : (i : ℕ) → get_or t i 0 ≤ 2 ^ 64 - 1) where
  plus_nothing : (first places k : ℕ) → plus first places k 0 t ≡ t
  unfolding plus
  plus_nothing first places k =
      let i = place_of first places k in
      let same : min (get_or t i 0 + 0) (2 ^ 64 - 1) ≡ get_or t i 0 = omega (arith, within i) in
      rw same (set-get_or t i 0)

  pub refused_run : (number hypothesis : ℕ) → (number ≡ 0 → ⊥) → ran_of number hypothesis false 0 t ≡ t
  unfolding ran_of
  refused_run number hypothesis h =
      rw (ne_eqb number 0 h, plus_nothing HYPOTHESIS HYPOTHESES hypothesis, plus_nothing TAKEN 1 0) (plus_nothing CHANGED 1 0)

-- ---- counting at a place, whatever row it is named by
pub at_place : (first places k i more : ℕ) (t : List ℕ) → i ≡ place_of first places k → (row many j : ℕ) → i ≡ row + j → j < many → i < PLACES → plus first places k more t ≡ plus row many j more t
unfolding plus place_of
at_place first places k i more t e row many j f g h =
    let within : row + j < PLACES = omega arith in
    rw (← e, lt-ltb j many g, lt-ltb (row + j) PLACES within, f) refl
