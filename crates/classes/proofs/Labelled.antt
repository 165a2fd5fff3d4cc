-- A list with one number at the places that pass a test: what it holds, the loop that stores it, and a part of a list
-- in which it is stored.
use Prim.Native.Nat.{ℕ, ◌+◌, ◌-◌, ◌≤◌, ◌<◌, min}
use native.Mathlib.Omega.{arith}
use native.Mathlib.Decide.{dec_lt, ℕ_discrete}
use mathlib.Core.Path.{◌≡◌, refl, sym, ap, ◌∙◌}
use mathlib.Core.Bool.{Bool, true, false, ◌&&◌, ◌||◌, cond, and-false}
use mathlib.Core.List.{List}
use borrow.Author.Tests.{lt-ltb, le-ltb, le-leb, lt-leb}
use borrow.Rule.Slice.PartMut.{mid_of, put_mid, same_len_mid}
use lib.Dec.{leb, ltb}
use lib.ListN.{length, get_or, set, replicate, length-set, length-take, length-drop}
use lib.Seq.{get_or-set_same, get_or-set_other, ext_get_or}
use lib.Ieee.{Float, nan}
use Rattle.std.proofs.lemmas.List.{get_or-replicate}
use Rattle.lists.specs.Firsts.{firsts}
use Rattle.lists.proofs.Firsts.{length_firsts, get_d_firsts, firsts_cong, firsts_all}
use Rattle.classes.specs.Classify.{first_from, past_last, in_range}
use Rattle.classes.specs.Inner.{labelled}
use Rattle.classes.proofs.Lent.{part_at, put_below, put_at, put_past}

module _ (l : List Float) (x : Float) where
  pub length_labelled : (p : ℕ → Bool) → length (labelled l p x) ≡ length l
  unfolding labelled
  length_labelled p = length_firsts (λ b. cond (p b) x (get_or l b nan)) (length l)

  pub get_d_labelled : (p : ℕ → Bool) (b : ℕ) → b < length l → get_or (labelled l p x) b nan ≡ cond (p b) x (get_or l b nan)
  unfolding labelled
  get_d_labelled p b h = get_d_firsts (λ b. cond (p b) x (get_or l b nan)) (length l) b nan h

  -- tests that agree on the list's places
  pub labelled_cong : (p q : ℕ → Bool) → ((b : ℕ) → b < length l → p b ≡ q b) → labelled l p x ≡ labelled l q x
  unfolding labelled
  labelled_cong p q e = firsts_cong _ _ (length l) (λ b h. ap (λ (t : Bool). cond t x (get_or l b nan)) (e b h))

  pub labelled_nowhere : (p : ℕ → Bool) → ((b : ℕ) → b < length l → p b ≡ false) → l ≡ labelled l p x
  unfolding labelled
  labelled_nowhere p e = sym (firsts_all _ l nan (λ b h. ap (λ (t : Bool). cond t x (get_or l b nan)) (e b h)))

  -- a list that holds, at each place, what the test says
  pub labelled_is : (p : ℕ → Bool) (m : List Float) → length m ≡ length l → ((b : ℕ) → b < length l → get_or m b nan ≡ cond (p b) x (get_or l b nan)) → m ≡ labelled l p x
  labelled_is p m size e =
      ext_get_or nan m (labelled l p x) (size ∙ sym (length_labelled p))
      (λ b h. let g : b < length l = omega arith in e b g ∙ sym (get_d_labelled p b g))

  -- a list that x fills
  pub labelled_all : (m : List Float) → m ≡ replicate (length l) x → length m ≡ length l → m ≡ labelled l (λ b. true) x
  labelled_all m e size = labelled_is (λ b. true) m size (λ b h. ap (λ k. get_or k b nan) e ∙ get_or-replicate (length l) b x nan h)

-- a test of the places before place k
abbrev pub upto : (ℕ → Bool) → ℕ → ℕ → Bool
upto p k b = ltb b k && p b

next_other : (p : ℕ → Bool) (k b : ℕ) → (b ≡ k → ⊥) → upto p (k + 1) b ≡ upto p k b
next_other p k b i = go (dec_lt b k)
  where
    go : Dec (b < k) → upto p (k + 1) b ≡ upto p k b
    go (yes h) = rw (lt-ltb b k h, lt-ltb b (k + 1) (omega arith))
    go (no h) = rw (le-ltb b k (omega arith), le-ltb b (k + 1) (omega arith))

module _ (l : List Float) (x : Float) where
  -- ---- a loop over the list that stores x where a test passes: before it, a turn that stores, one that does not, and
  -- after it
  module _ (p : ℕ → Bool) where
    pub label_none : l ≡ labelled l (upto p 0) x
    label_none = labelled_nowhere l x (upto p 0) (λ b h. rw (le-ltb b 0 (omega arith)))

    pub label_yes : (k : ℕ) (cur : List Float) → cur ≡ labelled l (upto p k) x → k < length l → p k ≡ true → set cur k x ≡ labelled l (upto p (k + 1)) x
    label_yes k cur e h t =
        let size : length cur ≡ length l = ap length e ∙ length_labelled l x (upto p k) in
        labelled_is l x (upto p (k + 1)) (set cur k x) (simp length-set size) (λ b g. go b g (ℕ_discrete b k))
      where
        go : (b : ℕ) → b < length l → Dec (b ≡ k) → get_or (set cur k x) b nan ≡ cond (upto p (k + 1) b) x (get_or l b nan)
        go b g (yes i) =
            let here : k < length cur = omega (arith, ap length e, length_labelled l x (upto p k)) in
            rw (i, lt-ltb k (k + 1) (omega arith), t) (get_or-set_same cur k x nan here)
        go b g (no i) = get_or-set_other cur k b x nan i ∙ ap (λ (c : List Float). get_or c b nan) e ∙ get_d_labelled l x (upto p k) b g ∙ ap (λ (s : Bool). cond s x (get_or l b nan)) (sym (next_other p k b i))

    pub label_no : (k : ℕ) (cur : List Float) → cur ≡ labelled l (upto p k) x → p k ≡ false → cur ≡ labelled l (upto p (k + 1)) x
    label_no k cur e t = e ∙ labelled_cong l x (upto p k) (upto p (k + 1)) (λ b h. go b (ℕ_discrete b k))
      where
        go : (b : ℕ) → Dec (b ≡ k) → upto p k b ≡ upto p (k + 1) b
        go b (yes i) = rw (i, t, and-false (ltb k k), and-false (ltb k (k + 1)))
        go b (no i) = sym (next_other p k b i)

    pub label_done : (k : ℕ) (cur : List Float) → cur ≡ labelled l (upto p k) x → length l ≤ k → cur ≡ labelled l p x
    label_done k cur e h = e ∙ labelled_cong l x (upto p k) p (λ b g. rw (lt-ltb b k (omega arith)))

  -- ---- the blocks of `range`, in a part of the list
  module _ (len : ℕ) (lo hi : Float) (a e : ℕ) (i : a ≡ first_from len lo) (j : e ≡ min (past_last len hi) (length l)) (r : ℕ → Bool) where
    abbrev those : ℕ → Bool
    those b = in_range len lo hi b && r b

    -- the test of `range`, at a place of the list
    before : (b : ℕ) → b < a → those b ≡ false
    unfolding in_range
    before b h = rw (← i, lt-leb a b h)

    within : (b : ℕ) → a ≤ b → b < e → those b ≡ r b
    unfolding in_range
    within b h g = rw (← i, le-leb a b h, lt-ltb b (past_last len hi) (omega arith))

    after : (b : ℕ) → b < length l → e ≤ b → those b ≡ false
    unfolding in_range
    after b h g = rw (le-ltb b (past_last len hi) (omega arith), and-false (leb (first_from len lo) b))

    -- nothing, where its start is not before its end
    pub range_none : e ≤ a → l ≡ labelled l those x
    range_none h = labelled_nowhere l x those (λ b g. go b g (dec_lt b a))
      where
        go : (b : ℕ) → b < length l → Dec (b < a) → those b ≡ false
        go b g (yes u) = before b u
        go b g (no u) = after b g (omega arith)

    -- the part, labelled, is back
    pub range_put : (q : ℕ → Bool) (ys : List Float) → a < e → ys ≡ labelled (mid_of a (e - a) l) q x → ((b : ℕ) → b < e - a → r (a + b) ≡ q b)
        → put_mid a (e - a) l ys ≡ labelled l those x
    range_put q ys h c t = labelled_is l x those (put_mid a (e - a) l ys) (same_len_mid a (e - a) l ys same) (λ b g. go b g (dec_lt b a) (dec_lt b e))
      where
        same : length ys ≡ length (mid_of a (e - a) l)
        same = ap length c ∙ length_labelled (mid_of a (e - a) l) x q

        long : length (mid_of a (e - a) l) ≡ e - a
        long = simp (length-take, length-drop) (omega arith)

        held : (b : ℕ) → b < e - a → get_or ys b nan ≡ cond (q b) x (get_or (mid_of a (e - a) l) b nan)
        held b g = ap (λ (k : List Float). get_or k b nan) c ∙ get_d_labelled (mid_of a (e - a) l) x q b (omega (arith, long))

        go : (b : ℕ) → b < length l → Dec (b < a) → Dec (b < e) → get_or (put_mid a (e - a) l ys) b nan ≡ cond (those b) x (get_or l b nan)
        go b g (yes u) v = rw (before b u) (put_below a (e - a) l nan ys (omega arith) b u)
        go b g (no u) (yes v) =
            let at : a + (b - a) ≡ b = omega arith in
            let few : b - a < e - a = omega arith in
            ap (λ n. get_or (put_mid a (e - a) l ys) n nan) (sym at)
            ∙ put_at a (e - a) l nan ys (omega arith) (b - a) (omega (arith, same, long))
            ∙ held (b - a) few
            ∙ rw (part_at a (e - a) l nan (b - a) few, ← t (b - a) few, at, within b (omega arith) v)
        go b g (no u) (no v) = rw (after b g (omega arith)) (put_past a (e - a) l nan ys (omega arith) (same ∙ long) b (omega arith))

  -- twice with the same number
  pub labelled_twice : (p q : ℕ → Bool) → labelled (labelled l p x) q x ≡ labelled l (λ b. p b || q b) x
  unfolding labelled
  labelled_twice p q =
      ap (firsts (λ b. cond (q b) x (get_or (labelled l p x) b nan))) (length_labelled l x p)
      ∙ firsts_cong _ _ (length l) (λ b h. ap (cond (q b) x) (get_d_labelled l x p b h) ∙ either (p b) (q b) (get_or l b nan))
    where
      either : (s t : Bool) (y : Float) → cond t x (cond s x y) ≡ cond (s || t) x y
      either true true y = refl
      either true false y = refl
      either false true y = refl
      either false false y = refl
