-- Which pairs `row_key_downs` has: each upward crossing with the next downward one, each once, in order (01, part 3).
-- For every row and threshold; where a row must have no NaN, the theorem says so. Assumes nothing.
use Rattle.std.proofs.Common.{Some, None}
use Rattle.std.specs.declared.option.Option.{Option}
use Prim.Native.Nat.{ℕ, zero, suc, ◌+◌, ◌-◌, ◌*◌, ◌≤◌, ◌<◌}
use native.Mathlib.Nat.{eq-or-lt_of_le, eq-zero-or-pos, le_of_suc-le-suc}
use native.Mathlib.Omega.{arith}
use mathlib.Core.Path.{◌≡◌, refl, sym, ap, ◌∙◌, subst}
use mathlib.Core.Logic.{◌⊎◌, inl, inr, ⊎_elim, ◌↔◌}
use mathlib.Core.Bool.{Bool, true, false, ◌&&◌, cond, false≢true}
use mathlib.Core.List.Memᴰ
use mathlib.Core.List.{List, [], ◌∷◌, ◌++◌, append-nil, Memᴰ}
use lib.ListN.{length}
use lib.Dec.{ltb}
use borrow.Author.Tests.{ltb-true, ltb-false}
use lib.Ieee.{Float, lt, le, is_nan}
use Rattle.lists.proofs.Every.{and_left, and_right}
use Rattle.lists.proofs.Members.{those_are, those_others}
use Rattle.elements.specs.Keying.{upward, downward, KeyDown, key_down, IsKeyDown, InOrder, pending, ended, row_key_downs, long, listed_of, short_of, counts, found_to}
use Rattle.lists.specs.Those.{those}
use Rattle.elements.proofs.Reached.{not_reached, reached, reached_number}
use Rattle.elements.proofs.Walk.{Spaced, one_way, pending_up, pending_down, pending_same, key_downs_more, key_downs_same, spaced}

pub either : (t : Bool) → (t ≡ true) ⊎ (t ≡ false)
either true = inl refl
either false = inr refl

lt_or_ge : (a b : ℕ) → (a < b) ⊎ (b ≤ a)
lt_or_ge a b = ⊎_elim (λ h. inl (ltb-true a b h)) (λ h. inr (ltb-false a b h)) (either (ltb a b))

module _ (row : ℕ → Float) (thr : Float) where
  -- no crossing at i
  abbrev quiet : ℕ → Type 0
  quiet i = (upward row thr i ≡ false) × (downward row thr i ≡ false)

  -- ---- what is pending at j: the upward crossing that no crossing follows up to j
  pending_none : (u : ℕ) → pending row thr zero ≡ Some u → ⊥
  unfolding pending
  pending_none u e = let no : ◌≡◌ {A = ℕ} 0 1 = cc in omega arith

  not_nothing : (u : ℕ) (r : Option ℕ) → r ≡ None → r ≡ Some u → ⊥
  not_nothing u r e g = let no : ◌≡◌ {A = ℕ} 0 1 = cc in omega arith

  same_at : (u v : ℕ) (r : Option ℕ) → r ≡ Some u → r ≡ Some v → u ≡ v
  same_at u v r e g = cc

  pub pending_is : (j u : ℕ) → pending row thr j ≡ Some u → (upward row thr u ≡ true) × (u ≤ j) × ((m : ℕ) → u < m → m ≤ j → quiet m)
  pending_is zero u e = absurd (pending_none u e)
  pending_is (suc j) u e =
      ⊎_elim
      (λ h. let here = same_at (suc j) u (pending row thr (suc j)) (pending_up row thr j h) e in
      (subst (λ k. upward row thr k ≡ true) here h, omega arith, λ m a b. absurd (omega arith)))
      (λ h.
      ⊎_elim (λ d. absurd (not_nothing u (pending row thr (suc j)) (pending_down row thr j h d) e))
      (λ d. let below = pending_is j u (sym (pending_same row thr j h d) ∙ e) in
      (below.0, omega arith, λ m a b. ⊎_elim (λ q. subst quiet (sym q) (h, d)) (λ l. below.2 m a (le_of_suc-le-suc l)) (eq-or-lt_of_le b)))
      (either (downward row thr (suc j))))
      (either (upward row thr (suc j)))

  -- position 0 has no amplitude before it, and no crossing
  pub first_not_up : upward row thr 0 ≡ true → ⊥
  unfolding upward
  first_not_up h =
      let a = not_reached (row 0) thr (and_left (lt (row 0) thr) (le thr (row 0)) h) in
      let b = and_right (lt (row 0) thr) (le thr (row 0)) h in
      false≢true (sym a ∙ b)

  -- so that a key-down has an amplitude before it
  pub up_at_least_one : (last : ℕ) (k : KeyDown) → IsKeyDown row thr last k → 0 < k.up
  up_at_least_one last k is = ⊎_elim (λ z. absurd (first_not_up (subst (λ i. upward row thr i ≡ true) z is.rises))) (λ p. p) (eq-zero-or-pos k.up)

  pub pending_at : (j u : ℕ) → upward row thr u ≡ true → u ≤ j → ((m : ℕ) → u < m → m ≤ j → quiet m) → pending row thr j ≡ Some u
  pending_at zero u h le-j q = let none : u ≡ 0 = omega arith in absurd (first_not_up (subst (λ k. upward row thr k ≡ true) none h))
  pending_at (suc j) u h le-j q =
      ⊎_elim
      (λ e. subst (λ k. pending row thr k ≡ Some u) e (up_here u h))
      (λ l. let s = q (suc j) (omega arith) (omega arith) in
      pending_same row thr j s.0 s.1 ∙ pending_at j u h (omega arith) (λ m a b. q m a (omega arith)))
      (eq-or-lt_of_le le-j)
    where
      up_here : (v : ℕ) → upward row thr v ≡ true → pending row thr v ≡ Some v
      up_here zero g = absurd (first_not_up g)
      up_here (suc v) g = pending_up row thr v g

  -- ---- each member of the list is a key-down, and no upward crossing lies within it
  abbrev Alone : KeyDown → Type 0
  Alone k = (i : ℕ) → k.up < i → i < k.down → upward row thr i ≡ false

  module _ (j : ℕ) (d : downward row thr (suc j) ≡ true) where
    here_is : (r : Option ℕ) (k : KeyDown) → pending row thr j ≡ r → Memᴰ k (ended r (suc j)) → IsKeyDown row thr (suc j) k × Alone k
    here_is (Some u) k e m =
        let p = pending_is j u e in
        let same = Memᴰ.eq_of_singleton m in
        subst (λ q. IsKeyDown row thr (suc j) q × Alone q) (sym same)
        (record { rises = p.0; falls = d; later = omega arith; within = omega arith; next = λ i a b. (p.2 i a (omega arith)).1 }, λ i a b. (p.2 i a (omega arith)).0)
    here_is None k e m = absurd (Memᴰ.not-nil m)

  wider : (j : ℕ) (k : KeyDown) → IsKeyDown row thr j k × Alone k → IsKeyDown row thr (suc j) k × Alone k
  wider j k h =
      let s = h.0 in
      let w = s.within in
      (record { rises = s.rises; falls = s.falls; later = s.later; within = omega arith; next = s.next }, h.1)

  pub members : (j : ℕ) (k : KeyDown) → Memᴰ k (row_key_downs row thr j) → IsKeyDown row thr j k × Alone k
  unfolding row_key_downs
  members zero k m = absurd (Memᴰ.not-nil m)
  members (suc j) k m =
      ⊎_elim
      (λ d. ⊎_elim (λ l. wider j k (members j k l)) (λ h. here_is j d (pending row thr j) k refl h)
      (Memᴰ.append_cases (row_key_downs row thr j) (subst (λ l. Memᴰ k l) (key_downs_more row thr j d) m)))
      (λ d. wider j k (members j k (subst (λ l. Memᴰ k l) (key_downs_same row thr j d) m)))
      (either (downward row thr (suc j)))

  -- ---- and each key-down with no upward crossing within it is in the list
  at_end : (j : ℕ) (k : KeyDown) → IsKeyDown row thr (suc j) k → Alone k → k.down ≡ suc j → Memᴰ k (row_key_downs row thr (suc j))
  at_end j k s alone e =
      let before = s.later in
      let d : downward row thr (suc j) ≡ true = subst (λ i. downward row thr i ≡ true) e s.falls in
      let up = pending_at j k.up s.rises (omega arith) (λ m a b. (alone m a (omega arith), s.next m a (omega arith))) in
      let same : k ≡ key_down k.up (suc j) = ap (λ i. key_down k.up i) e in
      subst (λ l. Memᴰ k l) (sym (key_downs_more row thr j d))
      (Memᴰ.append_right (row_key_downs row thr j) (subst (λ r. Memᴰ k (ended r (suc j))) (sym up) (Memᴰ.head same)))

  kept_on : (j : ℕ) (k : KeyDown) → Memᴰ k (row_key_downs row thr j) → Memᴰ k (row_key_downs row thr (suc j))
  kept_on j k m =
      ⊎_elim (λ d. subst (λ l. Memᴰ k l) (sym (key_downs_more row thr j d)) (Memᴰ.append_left (ended (pending row thr j) (suc j)) m))
      (λ d. subst (λ l. Memᴰ k l) (sym (key_downs_same row thr j d)) m)
      (either (downward row thr (suc j)))

  pub listed_all : (j : ℕ) (k : KeyDown) → IsKeyDown row thr j k → Alone k → Memᴰ k (row_key_downs row thr j)
  listed_all zero k s alone = let a = s.later in let b = s.within in absurd (omega arith)
  listed_all (suc j) k s alone =
      ⊎_elim (λ e. at_end j k s alone e)
      (λ l. kept_on j k
      (listed_all j k (record { rises = s.rises; falls = s.falls; later = s.later; within = le_of_suc-le-suc l; next = s.next }) alone))
      (eq-or-lt_of_le s.within)

  -- ---- where no amplitude is a NaN, the row stays at the threshold or above it until the next downward crossing: no
  -- second upward crossing comes before that
  up_reaches : (i : ℕ) → upward row thr i ≡ true → le thr (row i) ≡ true
  unfolding upward
  up_reaches i h = and_right (lt (row (i - 1)) thr) (le thr (row i)) h

  not_up : (i : ℕ) → le thr (row (i - 1)) ≡ true → upward row thr i ≡ false
  unfolding upward
  not_up i h =
      ⊎_elim (λ l. absurd (false≢true (sym (not_reached (row (i - 1)) thr l) ∙ h))) (λ l. rw l) (either (lt (row (i - 1)) thr))

  second_false : (a b : Bool) → a ≡ true → (a && b) ≡ false → b ≡ false
  second_false a b e h = rw e at h

  stays_on : (m : ℕ) → le thr (row m) ≡ true → downward row thr (suc m) ≡ false → is_nan (row (suc m)) ≡ false → le thr (row (suc m)) ≡ true
  unfolding downward
  stays_on m h d n =
      let here : suc m - 1 ≡ m = omega arith in
      let not_below = second_false (le thr (row (suc m - 1))) (lt (row (suc m)) thr) (rw here h) d in
      reached (row (suc m)) thr n (reached_number (row m) thr h) not_below

  module _ (last : ℕ) (numbers : (i : ℕ) → i ≤ last → is_nan (row i) ≡ false) where
    stays : (u m : ℕ) → upward row thr u ≡ true → u ≤ m → m ≤ last → ((i : ℕ) → u < i → i ≤ m → downward row thr i ≡ false) → le thr (row m) ≡ true
    stays u zero h a b q = let first : u ≡ 0 = omega arith in absurd (first_not_up (subst (λ k. upward row thr k ≡ true) first h))
    stays u (suc m) h a b q =
        ⊎_elim (λ e. up_reaches (suc m) (subst (λ k. upward row thr k ≡ true) e h))
        (λ l. stays_on m (stays u m h (le_of_suc-le-suc l) (omega arith) (λ i c d. q i c (omega arith))) (q (suc m) l (omega arith)) (numbers (suc m) b))
        (eq-or-lt_of_le a)

    pub alone : (k : KeyDown) → IsKeyDown row thr last k → Alone k
    alone k s i a b =
        let w = s.within in
        not_up i (stays k.up (i - 1) s.rises (omega arith) (omega arith) (λ m c d. s.next m c (omega arith)))

    -- A pair of positions is in the list exactly if it is an upward crossing and the next downward one.
    pub key_down_is : (k : KeyDown) → Memᴰ k (row_key_downs row thr last) ↔ IsKeyDown row thr last k
    key_down_is k = (λ m. (members last k m).0, λ s. listed_all last k s (alone k s))

  -- ---- the order of the list
  -- a key-down of the list ends before the pending upward crossing
  before_pending : (j u : ℕ) (k : KeyDown) → pending row thr j ≡ Some u → Memᴰ k (row_key_downs row thr j) → k.down < u
  before_pending j u k e m =
      let p = pending_is j u e in
      let s = (members j k m).0 in
      let w = s.within in
      ⊎_elim (λ l. l)
      (λ l. ⊎_elim (λ q. absurd (false≢true (sym (subst (λ i. downward row thr i ≡ false) q (one_way row thr u p.0)) ∙ s.falls)))
      (λ g. absurd (false≢true (sym (p.2 k.down g w).1 ∙ s.falls)))
      (eq-or-lt_of_le l))
      (lt_or_ge k.down u)

  in_order_more : (ks : List KeyDown) (k : KeyDown) → InOrder ks → ((d : KeyDown) → Memᴰ d ks → d.down < k.up) → InOrder (ks ++ (k ∷ []))
  in_order_more [] k h all = (λ d m. absurd (Memᴰ.not-nil m), tt)
  in_order_more (x ∷ ks) k h all = (
    λ d m.
        ⊎_elim (λ r. h.0 d r) (λ r. subst (λ (z : KeyDown). x.down < z.up) (sym (Memᴰ.eq_of_singleton r)) (all x (Memᴰ.head refl))) (Memᴰ.append_cases ks m),
    in_order_more ks k h.1 (λ d m. all d (Memᴰ.tail m)),
  )

  in_order_ended : (j : ℕ) (r : Option ℕ) → pending row thr j ≡ r → InOrder (row_key_downs row thr j) → InOrder (row_key_downs row thr j ++ ended r (suc j))
  in_order_ended j (Some u) e h = in_order_more (row_key_downs row thr j) (key_down u (suc j)) h (λ d m. before_pending j u d e m)
  in_order_ended j None e h = subst InOrder (sym (append-nil (row_key_downs row thr j))) h

  pub in_order : (j : ℕ) → InOrder (row_key_downs row thr j)
  unfolding row_key_downs
  in_order zero = tt
  in_order (suc j) =
      ⊎_elim (λ d. subst InOrder (sym (key_downs_more row thr j d)) (in_order_ended j (pending row thr j) refl (in_order j)))
      (λ d. subst InOrder (sym (key_downs_same row thr j d)) (in_order j))
      (either (downward row thr (suc j)))

  -- ---- two key-downs take four crossings: a row of n amplitudes has at most (n − 1) / 2 key-downs
  places_of : (r : Option ℕ) (j : ℕ) (ks : List KeyDown) → Spaced r j ks → 2 * length ks ≤ j
  places_of (Some u) j ks h = omega arith
  places_of None j ks h = omega arith

  pub places : (j : ℕ) → 2 * length (row_key_downs row thr j) ≤ j
  places j = places_of (pending row thr j) j (row_key_downs row thr j) (spaced row thr j)

-- ---- listed and short: the long ones and the others, none of them twice and none left out
pub those_in_order : (p : KeyDown → Bool) (ks : List KeyDown) → InOrder ks → InOrder (those p ks)
unfolding those
those_in_order p [] h = tt
those_in_order p (k ∷ ks) h = go (p k) (those_in_order p ks h.1)
  where
    go : (t : Bool) → InOrder (those p ks) → InOrder (cond t (k ∷ those p ks) (those p ks))
    go true rest = (λ d m. h.0 d ((those_are p ks d).0 m).0, rest)
    go false rest = rest

module _ (row : ℕ → Float) (thr : Float) (step : ℕ) (fs : Float) where
  -- A key-down is listed exactly if it is one of the row's and is long.
  pub listed_is : (ks : List KeyDown) (k : KeyDown) → Memᴰ k (listed_of row thr step fs ks) ↔ (Memᴰ k ks × (long row thr step fs k ≡ true))
  unfolding listed_of
  listed_is = those_are (long row thr step fs)

  -- Key-downs are listed or short.
  pub balance : (j : ℕ) → (found_to row thr step fs j).key_downs ≡ (found_to row thr step fs j).listed + (found_to row thr step fs j).short
  unfolding found_to counts listed_of short_of
  balance j = those_others (long row thr step fs) (row_key_downs row thr j)
