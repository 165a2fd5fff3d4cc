-- The sorted list and the counts agree. What stands at a rank of the sorted list has at most so many of the list
-- before it, and more not after it (`sorted_counts`); and only one f64 has that property (`counts_unique`).
-- So counting finds the percentile (`percentile_counts`), and so does the ordinal that the counts of ordinals select
-- (`selected`). Assumes nothing.
use Rattle.std.proofs.Common.{Some, None}
use mathlib.Core.Path.{◌≡◌, refl, sym, ap, ◌∙◌, subst}
use mathlib.Core.Bool.{Bool, true, false, not, cond}
use mathlib.Core.List.{List, [], ◌∷◌}
use Prim.Native.Nat.{ℕ, zero, suc, ◌+◌, ◌/◌, ◌≤◌, ◌<◌}
use native.Mathlib.Nat.{le_of_lt, le_trans, le_of_suc-le-suc, div-one, zero-add}
use native.Mathlib.Decide.{dec_lt}
use native.Mathlib.Omega.{arith}
use borrow.Author.Tests.{lt-ltb, le-ltb, ltb-true, ltb-false, not-true}
use Rattle.std.proofs.lemmas.Bool.Decides.{nat_tests}
use lib.Dec.{T, ltb}
use lib.ListN.{length, get_or}
use lib.Ieee.{Float, nan, binary64, fits}
pub use Rattle.std.specs.List.{AllByRecursion as Every}
use Rattle.std.proofs.lemmas.List.Elements.{All-get_or, All-from_get_or, All-weaker, All-from_recursion, recursion_from_All}
use Rattle.rank.specs.Order.{precedes, insert, sorted, before, up_to}
use Rattle.lists.specs.Count.{count_to}
use Rattle.rank.specs.Select.{rank_of, percentile_of}
use Rattle.rank.specs.Inner.{ordinal_of, ordinal_at, below, RankIn, Selected, Ordinal, of_ordinal}
use Rattle.rank.proofs.Ordinals.{precedes_ordinal, ordinal_injective, value_ordinal, is_ordinal}
use Rattle.lists.proofs.Count.{bit, count_cong, count_le}
use Rattle.rank.proofs.Counted.{below_next, count_front}

-- every element is an f64, as every list that a slice holds is
abbrev pub Held : List Float → Type 0
Held l = Every (λ x. T (fits binary64 x)) l

pub held : (l : List Float) → ((i : ℕ) → T (fits binary64 (get_or l i nan))) → Held l
held l h = recursion_from_All (λ x. T (fits binary64 x)) l (All-from_get_or (λ x. T (fits binary64 x)) l nan (λ i _. h i))

module _ (P : Float → Type 0) where
  pub every_at : (l : List Float) → Every P l → (i : ℕ) → i < length l → P (get_or l i nan)
  every_at l h i b = All-get_or P l i nan b (All-from_recursion P l h)

  every_cond : (b : Bool) (l m : List Float) → Every P l → Every P m → Every P (cond b l m)
  every_cond true l m h k = h
  every_cond false l m h k = k

  insert_every : (x : Float) (l : List Float) → P x → Every P l → Every P (insert x l)
  unfolding insert
  insert_every x [] p h = (p, tt)
  insert_every x (y ∷ ys) p h = every_cond (precedes x y) (x ∷ y ∷ ys) (y ∷ insert x ys) (p, h) (h.0, insert_every x ys p h.1)

  pub sorted_every : (l : List Float) → Every P l → Every P (sorted l)
  unfolding sorted
  sorted_every [] h = tt
  sorted_every (x ∷ xs) h = insert_every x (sorted xs) h.0 (sorted_every xs h.1)

-- ---- sorting keeps what is counted
tallied : (Float → Bool) → List Float → ℕ
tallied p [] = 0
tallied p (x ∷ xs) = bit (p x) + tallied p xs

insert_tallied : (p : Float → Bool) (x : Float) (l : List Float) → tallied p (insert x l) ≡ bit (p x) + tallied p l
unfolding insert tallied
insert_tallied p x [] = refl
insert_tallied p x (y ∷ ys) = go (precedes x y) (insert_tallied p x ys)
  where
    go : (b : Bool) → tallied p (insert x ys) ≡ bit (p x) + tallied p ys → tallied p (cond b (x ∷ y ∷ ys) (y ∷ insert x ys)) ≡ bit (p x) + (bit (p y) + tallied p ys)
    go true e = refl
    go false e = omega (arith, e)

sorted_tallied : (p : Float → Bool) (l : List Float) → tallied p (sorted l) ≡ tallied p l
unfolding sorted tallied
sorted_tallied p [] = refl
sorted_tallied p (x ∷ xs) = insert_tallied p x (sorted xs) ∙ ap (λ (z : ℕ). bit (p x) + z) (sorted_tallied p xs)

insert_length : (x : Float) (l : List Float) → length (insert x l) ≡ suc (length l)
unfolding insert
insert_length x [] = refl
insert_length x (y ∷ ys) = go (precedes x y) (insert_length x ys)
  where
    go : (b : Bool) → length (insert x ys) ≡ suc (length ys) → length (cond b (x ∷ y ∷ ys) (y ∷ insert x ys)) ≡ suc (suc (length ys))
    go true e = refl
    go false e = ap suc e

pub sorted_length : (l : List Float) → length (sorted l) ≡ length l
unfolding sorted
sorted_length [] = refl
sorted_length (x ∷ xs) = insert_length x (sorted xs) ∙ ap suc (sorted_length xs)

tallied_count : (p : Float → Bool) (l : List Float) → tallied p l ≡ count_to (λ i. p (get_or l i nan)) (length l)
unfolding count_to tallied
tallied_count p [] = refl
tallied_count p (x ∷ xs) = ap (λ (z : ℕ). bit (p x) + z) (tallied_count p xs) ∙ sym (count_front (λ i. p (get_or (x ∷ xs) i nan)) (length xs))

-- ---- the sorted list's ordinals do not fall
abbrev From : ℕ → List Float → Type 0
From k l = Every (λ y. k ≤ ordinal_of y) l

abbrev Ascending : List Float → Type 0
Ascending [] = Unit {0}
Ascending (x ∷ xs) = From (ordinal_of x) xs × Ascending xs

from_less : (j k : ℕ) → j ≤ k → (l : List Float) → From k l → From j l
from_less j k h l f =
    recursion_from_All _ l (All-weaker (λ y. k ≤ ordinal_of y) (λ y. j ≤ ordinal_of y) (λ y. le_trans h) l (All-from_recursion _ l f))

insert_ascending : (x : Float) (l : List Float) → T (fits binary64 x) → Held l → Ascending l → Ascending (insert x l)
unfolding insert
insert_ascending x [] f h r = (tt, tt)
insert_ascending x (y ∷ ys) f h r = go (precedes x y) (precedes_ordinal x y f h.0) (insert_ascending x ys f h.1 r.1)
  where
    go : (b : Bool) → b ≡ ltb (ordinal_of x) (ordinal_of y) → Ascending (insert x ys) → Ascending (cond b (x ∷ y ∷ ys) (y ∷ insert x ys))
    go true e rest = let l : ordinal_of x ≤ ordinal_of y = le_of_lt (ltb-true (ordinal_of x) (ordinal_of y) (sym e)) in ((l, from_less (ordinal_of x) (ordinal_of y) l ys r.0), r)
    go false e rest = (insert_every (λ z. ordinal_of y ≤ ordinal_of z) x ys (ltb-false (ordinal_of x) (ordinal_of y) (sym e)) r.0, rest)

sorted_ascending : (l : List Float) → Held l → Ascending (sorted l)
unfolding sorted
sorted_ascending [] h = tt
sorted_ascending (x ∷ xs) h = insert_ascending x (sorted xs) h.0 (sorted_every (λ y. T (fits binary64 y)) xs h.1) (sorted_ascending xs h.1)

-- ---- what an ascending list has below and up to the ordinal at a place
none_below : (k : ℕ) (l : List Float) → From k l → tallied (λ y. ltb (ordinal_of y) k) l ≡ 0
unfolding tallied
none_below k [] f = refl
none_below k (x ∷ xs) f = rw (le-ltb (ordinal_of x) k f.0, zero-add) (none_below k xs f.1)

ascending_at : (l : List Float) → Ascending l → (r : ℕ) → r < length l →
    (tallied (λ y. ltb (ordinal_of y) (ordinal_of (get_or l r nan))) l ≤ r) × (r < tallied (λ y. not (ltb (ordinal_of (get_or l r nan)) (ordinal_of y))) l)
unfolding tallied
ascending_at [] h r b = absurd (omega arith)
ascending_at (x ∷ xs) h zero b =
    let s : ltb (ordinal_of x) (ordinal_of x) ≡ false = le-ltb (ordinal_of x) (ordinal_of x) (omega arith) in
    (rw (s, none_below (ordinal_of x) xs h.0) (omega arith), rw s (omega arith))
ascending_at (x ∷ xs) h (suc r) b =
    let k = ordinal_of (get_or xs r nan) in
    let i = ascending_at xs h.1 r (le_of_suc-le-suc b) in
    let s : ltb k (ordinal_of x) ≡ false = le-ltb k (ordinal_of x) (every_at (λ y. ordinal_of x ≤ ordinal_of y) xs h.0 r (le_of_suc-le-suc b)) in
    (step (ltb (ordinal_of x) k) i.0, rw s (omega (arith, i.1)))
  where
    step : (b : Bool) {t : ℕ} → t ≤ r → bit b + t ≤ suc r
    step b h = grind (arith, nat_tests)

-- ---- the ordinal at a rank, by counts of ordinals
abbrev Ranked : (ℕ → ℕ) → ℕ → ℕ → ℕ → Type 0
Ranked ordinal n r k = (count_to (λ i. ltb (ordinal i) k) n ≤ r) × (r < count_to (λ i. not (ltb k (ordinal i))) n)

ranked_unique : (ordinal : ℕ → ℕ) (n r j k : ℕ) → Ranked ordinal n r j → Ranked ordinal n r k → j ≡ k
ranked_unique ordinal n r j k g h = go (dec_lt j k) (dec_lt k j)
  where
    apart : (j k : ℕ) → j < k → Ranked ordinal n r j → Ranked ordinal n r k → ⊥
    apart j k l g h =
        let m : count_to (λ i. not (ltb j (ordinal i))) n ≤ count_to (λ i. ltb (ordinal i) k) n =
        count_le (λ i. not (ltb j (ordinal i))) (λ i. ltb (ordinal i) k) n (λ (i : ℕ) (_ : i < n) (e : not (ltb j (ordinal i)) ≡ true). let b : ordinal i ≤ j = ltb-false j (ordinal i) (not-true (ltb j (ordinal i)) e) in lt-ltb (ordinal i) k (omega arith)) in
        omega (arith, g.1, h.0)

    go : Dec (j < k) → Dec (k < j) → j ≡ k
    go (yes l) _ = absurd (apart j k l g h)
    go (no _) (yes l) = absurd (apart k j l h g)
    go (no a) (no b) = omega arith

sorted_ranked : (l : List Float) → Held l → (r : ℕ) → r < length l → Ranked (ordinal_at l) (length l) r (ordinal_of (get_or (sorted l) r nan))
sorted_ranked l h r b =
    let k = ordinal_of (get_or (sorted l) r nan) in
    let i = ascending_at (sorted l) (sorted_ascending l h) r (subst (λ (n : ℕ). r < n) (sym (sorted_length l)) b) in (
      subst (λ (n : ℕ). n ≤ r) (sorted_tallied (λ y. ltb (ordinal_of y) k) l ∙ tallied_count (λ y. ltb (ordinal_of y) k) l) i.0,
      subst (λ (n : ℕ). r < n) (sorted_tallied (λ y. not (ltb k (ordinal_of y))) l ∙ tallied_count (λ y. not (ltb k (ordinal_of y))) l) i.1,
    )

-- ---- in terms of the order
module _ (l : List Float) (h : Held l) (x : Float) (f : T (fits binary64 x)) where
  before_ordinals : before l x ≡ count_to (λ i. ltb (ordinal_at l i) (ordinal_of x)) (length l)
  unfolding before
  before_ordinals = count_cong (λ i. precedes (get_or l i nan) x) (λ i. ltb (ordinal_at l i) (ordinal_of x)) (length l) (λ (i : ℕ) (b : i < length l). precedes_ordinal (get_or l i nan) x (every_at (λ y. T (fits binary64 y)) l h i b) f)

  up_to_ordinals : up_to l x ≡ count_to (λ i. not (ltb (ordinal_of x) (ordinal_at l i))) (length l)
  unfolding up_to
  up_to_ordinals = count_cong (λ i. not (precedes x (get_or l i nan))) (λ i. not (ltb (ordinal_of x) (ordinal_at l i))) (length l) (λ (i : ℕ) (b : i < length l). ap not (precedes_ordinal x (get_or l i nan) f (every_at (λ y. T (fits binary64 y)) l h i b)))

  ranked : (r : ℕ) → before l x ≤ r → r < up_to l x → Ranked (ordinal_at l) (length l) r (ordinal_of x)
  ranked r a b = (subst (λ (n : ℕ). n ≤ r) before_ordinals a, subst (λ (n : ℕ). r < n) up_to_ordinals b)

pub sorted_held : (l : List Float) → Held l → (r : ℕ) → r < length l → T (fits binary64 (get_or (sorted l) r nan))
sorted_held l h r b = every_at (λ y. T (fits binary64 y)) (sorted l) (sorted_every (λ y. T (fits binary64 y)) l h) r (subst (λ (n : ℕ). r < n) (sym (sorted_length l)) b)

pub sorted_counts : (l : List Float) → Held l → (r : ℕ) → r < length l → (before l (get_or (sorted l) r nan) ≤ r) × (r < up_to l (get_or (sorted l) r nan))
sorted_counts l h r b =
    let x = get_or (sorted l) r nan in
    let f = sorted_held l h r b in
    let i = sorted_ranked l h r b in
    (subst (λ (n : ℕ). n ≤ r) (sym (before_ordinals l h x f)) i.0, subst (λ (n : ℕ). r < n) (sym (up_to_ordinals l h x f)) i.1)

pub counts_unique : (l : List Float) → Held l → (r : ℕ) (x y : Float) → T (fits binary64 x) → T (fits binary64 y) →
    before l x ≤ r → r < up_to l x → before l y ≤ r → r < up_to l y → x ≡ y
counts_unique l h r x y f g a b c d = ordinal_injective x y f g (ranked_unique (ordinal_at l) (length l) r (ordinal_of x) (ordinal_of y) (ranked l h x f r a b) (ranked l h y g r c d))

-- ---- the percentile
pub rank_lt : (n : ℕ) (p : Float) → 0 < n → rank_of n p < n
unfolding rank_of
rank_lt n p h = omega arith

pub percentile_none : (l : List Float) (p : Float) → length l ≡ 0 → None ≡ percentile_of l p
unfolding percentile_of
percentile_none [] p e = refl
percentile_none (x ∷ xs) p e = absurd (omega arith)

pub percentile_some : (l : List Float) (p : Float) → 0 < length l → Some (get_or (sorted l) (rank_of (length l) p) nan) ≡ percentile_of l p
unfolding percentile_of
percentile_some [] p h = absurd (omega arith)
percentile_some (x ∷ xs) p h = refl

pub percentile_counts : (l : List Float) (p x : Float) → Held l → T (fits binary64 x) → 0 < length l → before l x ≤ rank_of (length l) p → rank_of (length l) p < up_to l x → percentile_of l p ≡ Some x
percentile_counts l p x h f b i j =
    let r = rank_of (length l) p in
    let s : r < length l = rank_lt (length l) p b in
    let c = sorted_counts l h r s in
    sym (percentile_some l p b) ∙ ap Some (counts_unique l h r (get_or (sorted l) r nan) x (sorted_held l h r s) f c.0 c.1 i j)

-- ---- from the cell of one ordinal
up_to_lem : (x k : ℕ) → ltb x (k + 1) ≡ not (ltb k x)
up_to_lem x k = grind (arith, nat_tests)

within_ranked : (l : List Float) (r k left : ℕ) → RankIn l 1 r k left → Ranked (ordinal_at l) (length l) r k
unfolding below
within_ranked l r k left w =
    let a = count_cong (λ i. ltb (ordinal_at l i / 1) k) (λ i. ltb (ordinal_at l i) k) (length l) (λ (i : ℕ) (_ : i < length l). ap (λ (x : ℕ). ltb x k) (div-one (ordinal_at l i))) in
    let b = count_cong (λ i. ltb (ordinal_at l i / 1) (k + 1)) (λ i. not (ltb k (ordinal_at l i))) (length l) (λ (i : ℕ) (_ : i < length l). ap (λ (x : ℕ). ltb x (k + 1)) (div-one (ordinal_at l i)) ∙ up_to_lem (ordinal_at l i) k) in
    (omega (arith, a, w.under), omega (arith, b, w.under, w.inside, below_next (ordinal_at l) (length l) 1 k))

pub selected : (l : List Float) → ((i : ℕ) → T (fits binary64 (get_or l i nan))) → {r k left : ℕ} → r < length l → RankIn l 1 r k left → Selected l r k
selected l f {r} {k} {left} b w = let h = held l f in record { same = ranked_unique (ordinal_at l) (length l) r k (ordinal_of (get_or (sorted l) r nan)) (within_ranked l r k left w) (sorted_ranked l h r b); held = sorted_held l h r b }

pub selected_ordinal : {l : List Float} {r k : ℕ} → Selected l r k → Ordinal k
selected_ordinal {l} {r} s = subst Ordinal (sym s.same) (is_ordinal (get_or (sorted l) r nan) s.held)

pub percentile_selected : (l : List Float) (p : Float) (r k : ℕ) (v : Float) → 0 < length l → r ≡ rank_of (length l) p → Selected l r k → v ≡ of_ordinal k → Some v ≡ percentile_of l p
percentile_selected l p r k v h e s i =
    ap Some (i ∙ ap of_ordinal s.same ∙ value_ordinal (get_or (sorted l) r nan) s.held ∙ ap (λ (j : ℕ). get_or (sorted l) j nan) e) ∙ percentile_some l p h
