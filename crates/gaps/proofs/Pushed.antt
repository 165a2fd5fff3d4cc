-- The Rust's loop over `gap_idx.windows(2)` comes to the pairs of specs/Pairs.antt: the windows that pass are the
-- pairs, in order, so that it sums the same products (`rust_products`), and what it pushes are the blocks in pairs,
-- each once, in order (`rust_blocks`). Assumes nothing.
use Prim.Native.Nat.{ℕ, zero, suc, ◌+◌, ◌-◌, ◌≤◌, ◌<◌}
use native.Mathlib.Numerals.{add-one}
use native.Mathlib.Omega.{arith}
use mathlib.Core.Path.{◌≡◌, refl, ap, ◌∙◌}
use mathlib.Core.Bool.{Bool, true, false, ◌&&◌, ◌||◌, cond, and-false}
use mathlib.Core.List.{List, [], ◌∷◌, ◌++◌, map, map-append, append-nil, append_assoc}
use borrow.Author.Tests.{eq-eqb, ne_eqb, lt-ltb, le-ltb}
use lib.Dec.{eqb}
use lib.Ieee.{Float, lt}
use Rattle.lists.specs.Those.{those, picked}
use Rattle.lists.proofs.Those.{those_append, picked_cong}
use Rattle.complex.specs.declared.value.Complex.{Complex}
use Rattle.complex.specs.Value.{c_mul, c_conj}
use Rattle.prepared.specs.Powers.{block_power}
use Rattle.gaps.specs.Pairs.{above, preceded, followed, pair_at, products, in_pair, pair_blocks}
use Rattle.gaps.specs.Pushed.{Window, window, gap_idx, windows, passes, passing, last_is, push, pushed}

-- ---- one more at the end

-- the window that one more number makes, none at the first
ended : List ℕ → ℕ → List Window
ended [] y = []
ended (x ∷ []) y = window x y ∷ []
ended (x ∷ z ∷ l) y = ended (z ∷ l) y

windows_more : (l : List ℕ) (y : ℕ) → windows (l ++ (y ∷ [])) ≡ windows l ++ ended l y
unfolding windows ended
windows_more [] y = refl
windows_more (x ∷ []) y = refl
windows_more (x ∷ z ∷ l) y = ap (λ m. window x z ∷ m) (windows_more (z ∷ l) y)

ended_last : (l : List ℕ) (x y : ℕ) → ended (l ++ (x ∷ [])) y ≡ window x y ∷ []
unfolding ended
ended_last [] x y = refl
ended_last (z ∷ []) x y = refl
ended_last (z ∷ u ∷ l) x y = ended_last (u ∷ l) x y

last_more : (a x : ℕ) (l : List ℕ) → last_is a (l ++ (x ∷ [])) ≡ eqb x a
unfolding last_is
last_more a x [] = refl
last_more a x (z ∷ []) = refl
last_more a x (z ∷ u ∷ l) = last_more a x (u ∷ l)

pushed_more : (l : List ℕ) (ws : List Window) (w : Window) → pushed l (ws ++ (w ∷ [])) ≡ push (pushed l ws) w
unfolding pushed
pushed_more l [] w = refl
pushed_more l (v ∷ ws) w = pushed_more (push l v) ws w

-- ---- the windows that pass are the pairs

module _ (gap loud : ℕ → Bool) where
  abbrev strong : ℕ → Bool
  strong b = gap b && loud b

  -- a number further off ends no window that passes
  far : (n y : ℕ) → n < y → those (passes loud) (ended (gap_idx gap n) y) ≡ []
  unfolding those picked ended
  far zero y h = refl
  far (suc n) y h = go (gap n) (far n y (omega arith))
    where
      go : (t : Bool) → those (passes loud) (ended (gap_idx gap n) y) ≡ []
          → those (passes loud) (ended (gap_idx gap n ++ cond t (n ∷ []) []) y) ≡ []
      go true i = rw (ended_last (gap_idx gap n) n y, ne_eqb y (n + 1) (omega arith))
      go false i = rw (append-nil (gap_idx gap n)) i

  -- the window that block n ends, if it is a gap block
  next : (n : ℕ) → gap n ≡ true → those (passes loud) (ended (gap_idx gap n) n) ≡ cond (pair_at strong n) (window (n - 1) n ∷ []) []
  unfolding those picked pair_at preceded ended
  next zero e = refl
  next (suc k) e = go (gap k) refl
    where
      back : suc k - 1 ≡ k
      back = omega arith

      go : (t : Bool) → gap k ≡ t
          → those (passes loud) (ended (gap_idx gap k ++ cond t (k ∷ []) []) (suc k)) ≡ cond ((t && loud k) && (gap (suc k) && loud (suc k))) (window (suc k - 1) (suc k) ∷ []) []
      go true i = rw (ended_last (gap_idx gap k) k (suc k), eq-eqb (suc k) (k + 1) (omega arith), e, back)
      go false i = rw (append-nil (gap_idx gap k)) (far k (suc k) (omega arith))

  pub windows_are : (blocks : ℕ) → passing gap loud blocks ≡ picked (pair_at strong) (λ b. window (b - 1) b) blocks
  unfolding picked windows those pair_at
  windows_are zero = refl
  windows_are (suc n) = go (gap n) refl (windows_are n)
    where
      no : gap n ≡ false → pair_at strong n ≡ false
      no e = rw e (and-false (preceded strong n))

      go : (t : Bool) → gap n ≡ t → passing gap loud n ≡ picked (pair_at strong) (λ b. window (b - 1) b) n
          → those (passes loud) (windows (gap_idx gap n ++ cond t (n ∷ []) [])) ≡ picked (pair_at strong) (λ b. window (b - 1) b) n ++ cond (pair_at strong n) (window (n - 1) n ∷ []) []
      go true e i = rw (windows_more (gap_idx gap n) n, those_append (passes loud) (windows (gap_idx gap n)) (ended (gap_idx gap n) n), next n e, i)
      go false e i = rw (append-nil (gap_idx gap n), no e, append-nil (picked (pair_at strong) (λ b. window (b - 1) b) n)) i

-- ---- what is pushed are the blocks in pairs

last_far : (p : ℕ → Bool) (n a : ℕ) → n ≤ a → last_is a (picked p (λ k. k) n) ≡ false
unfolding picked last_is
last_far p zero a h = refl
last_far p (suc n) a h = go (p n) (last_far p n a (omega arith))
  where
    go : (t : Bool) → last_is a (picked p (λ k. k) n) ≡ false → last_is a (picked p (λ k. k) n ++ cond t (n ∷ []) []) ≡ false
    go true i = rw (last_more a n (picked p (λ k. k) n), ne_eqb n a (omega arith))
    go false i = rw (append-nil (picked p (λ k. k) n)) i

pushed_turn : (l : List ℕ) (ws : List Window) (t : Bool) (w : Window) → pushed l (ws ++ cond t (w ∷ []) []) ≡ cond t (push (pushed l ws) w) (pushed l ws)
pushed_turn l ws true w = pushed_more l ws w
pushed_turn l ws false w = ap (pushed l) (append-nil ws)

-- Of the blocks k and k + 1, where a and c say whether they are strong and d whether the block before them is: what the
-- window of the two adds to the blocks l before them.
turn : (l : List ℕ) (k : ℕ) (a c d : Bool) → last_is k l ≡ false
    → cond (a && c) (push (l ++ cond (a && (d || false)) (k ∷ []) []) (window k (suc k))) (l ++ cond (a && (d || false)) (k ∷ []) [])
    ≡ l ++ cond (a && (d || c)) (k ∷ []) [] ++ cond (c && (a || false)) (suc k ∷ []) []
unfolding push
turn l k false false d h = rw (append-nil l, append-nil l)
turn l k false true d h = rw (append-nil l, append-nil l)
turn l k true false d h = rw (append-nil (l ++ cond (d || false) (k ∷ []) []))
turn l k true true true h = rw (last_more k k l, eq-eqb k k refl)
turn l k true true false h = rw (append-nil l, h, append_assoc l (k ∷ []) (suc k ∷ []))

module _ (s : ℕ → Bool) where
  -- whether a block is in a pair is settled by the block after it
  settled : (n b : ℕ) → b + 1 < n → in_pair s (suc n) b ≡ in_pair s n b
  unfolding in_pair followed
  settled n b h = rw (lt-ltb (b + 1) n h, lt-ltb (b + 1) (suc n) (omega arith))

  -- the last block, and the one before it
  in_last : (k : ℕ) → in_pair s (suc k) k ≡ (s k && (preceded s k || false))
  unfolding in_pair followed
  in_last k = rw (le-ltb (k + 1) (suc k) (omega arith))

  in_next : (k : ℕ) → in_pair s (suc (suc k)) k ≡ (s k && (preceded s k || s (suc k)))
  unfolding in_pair followed
  in_next k = rw (lt-ltb (k + 1) (suc (suc k)) (omega arith), add-one k)

  ends : ℕ → List Window
  ends n = picked (pair_at s) (λ b. window (b - 1) b) n

  more : (k : ℕ) → pushed [] (ends (suc k)) ≡ pair_blocks s (suc k) → pushed [] (ends (suc (suc k))) ≡ pair_blocks s (suc (suc k))
  unfolding ends picked pair_at preceded
  more k i =
      let back : suc k - 1 ≡ k = omega arith in
      let same : picked (in_pair s (suc (suc k))) (λ b. b) k ≡ picked (in_pair s (suc k)) (λ b. b) k =
      picked_cong (in_pair s (suc (suc k))) (in_pair s (suc k)) (λ b. b) (λ b. b) k (λ b h. settled (suc k) b (omega arith)) (λ b h e. refl) in
      rw (pushed_turn [] (ends (suc k)) (s k && s (suc k)) (window (suc k - 1) (suc k)), i, in_last k, back, same, in_next k, in_last (suc k))
      (turn (picked (in_pair s (suc k)) (λ b. b) k) k (s k) (s (suc k)) (preceded s k) (last_far (in_pair s (suc k)) k k (omega arith)))

  pub pushed_are : (blocks : ℕ) → pushed [] (picked (pair_at s) (λ b. window (b - 1) b) blocks) ≡ pair_blocks s blocks
  unfolding ends picked pushed pair_at preceded in_pair followed
  pushed_are zero = refl
  pushed_are (suc zero) = rw (in_last 0, and-false (s 0))
  pushed_are (suc (suc k)) = more k (pushed_are (suc k))

-- ---- of the gap blocks above a level

map_picked : {A B : Type 0} (f : A → B) (p : ℕ → Bool) (g : ℕ → A) (n : ℕ) → map f (picked p g n) ≡ picked p (λ k. f (g k)) n
unfolding picked
map_picked f p g zero = refl
map_picked f p g (suc n) = map-append f (picked p g n) (cond (p n) (g n ∷ []) []) ∙ rw (map_picked f p g n) (go (p n))
  where
    go : (t : Bool) → picked p (λ k. f (g k)) n ++ map f (cond t (g n ∷ []) []) ≡ picked p (λ k. f (g k)) n ++ cond t (f (g n) ∷ []) []
    go true = refl
    go false = refl

module _ (gap : ℕ → Bool) (z : ℕ → Complex) (level : Float) (blocks : ℕ) where
  -- `p` of each window that passes
  pub rust_products : map (λ w. c_mul (z w.b) (c_conj (z w.a))) (passing gap (λ b. lt level (block_power z b)) blocks) ≡ products (above gap z level) z blocks
  unfolding above
  rust_products =
      ap (map _) (windows_are gap (λ b. lt level (block_power z b)) blocks) ∙ map_picked _ (pair_at (above gap z level)) (λ b. window (b - 1) b) blocks

  -- `pair_blocks`
  pub rust_blocks : pushed [] (passing gap (λ b. lt level (block_power z b)) blocks) ≡ pair_blocks (above gap z level) blocks
  unfolding above
  rust_blocks = ap (pushed []) (windows_are gap (λ b. lt level (block_power z b)) blocks) ∙ pushed_are (above gap z level) blocks
