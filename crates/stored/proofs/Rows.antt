-- A list's items by their places: whether each passes a test, how many do, and the rows that are compared by such
-- tests.
use Rattle.std.proofs.Common.{◌≡◌, ℕ, zero, suc, ◌+◌, ◌-◌, ◌*◌, ◌/◌, ◌<◌, ◌≤◌, min, Bool, cond, not, ◌&&◌, List, [], ◌∷◌, length, get_or, take, drop, filter, map, zip, Float, refl, ap, ◌∙◌, arith, add-one, length-take, length-drop, take-suc, get_or-drop, le-leb, eq-eqb, lt-ltb, lit<, add-zero}
use Rattle.std.specs.List.{list_all, count_by}
use mathlib.Core.List.{map-id}
use Rattle.std.proofs.lemmas.List.{take_all, length-map}
use Rattle.std.proofs.lemmas.List.Recursion.{and_push}
use Rattle.std.proofs.lemmas.List.Sums.{sum_by_more, length-filter}
use Rattle.std.proofs.lemmas.Slice.Zip.{length-zip, get_or-zip}
use Rattle.std.specs.Float.{nan}
use Rattle.std.specs.Float.Ieee.{eq}
use Rattle.lists.specs.Every.{every}
use Rattle.lists.specs.Count.{count_to}
use Rattle.stored.specs.Same.{same_number, same_to, row, same_firsts, same_figures, stored_row, same_sample, changed_to, changed_in, LENT, lent_to, lent_from}
use Rattle.stored.specs.Units.{unit_in, long_at, double_at}
use Rattle.stored.proofs.Chunks.{pieces, length-pieces, get_or-pieces, get_or-piece}

module _ {A : Type 0} (p : A → Bool) (q : ℕ → Bool) (d : A) (zs : List A) where
  all_of_first : (n : ℕ) → n ≤ length zs → ((k : ℕ) → k < n → p (get_or zs k d) ≡ q k) → list_all p (take n zs) ≡ every q n
  all_of_first zero l h = refl
  all_of_first (suc n) l h =
      rw (take-suc zs n d (omega arith), and_push (list_all p) p refl (λ _ _. refl) (take n zs) (get_or zs n d), all_of_first n (omega arith) (λ k b. h k (omega arith)), h n (omega arith))

  count_of_first : (n : ℕ) → n ≤ length zs → ((k : ℕ) → k < n → p (get_or zs k d) ≡ q k) → count_by p (take n zs) ≡ count_to q n
  unfolding count_to
  count_of_first zero l h = refl
  count_of_first (suc n) l h =
      rw (← add-one n) (sum_by_more (λ x. cond (p x) 1 0) zs n d (omega arith) ∙ rw (count_of_first n (omega arith) (λ k b. h k (omega arith)), h n (omega arith)))

  pub all_by_place : (n : ℕ) → length zs ≡ n → ((k : ℕ) → k < n → p (get_or zs k d) ≡ q k) → list_all p zs ≡ every q n
  all_by_place n e h = rw (take_all n zs (omega arith)) at (all_of_first n (omega arith) h)

  pub count_by_place : (n : ℕ) → length zs ≡ n → ((k : ℕ) → k < n → p (get_or zs k d) ≡ q k) → length (filter p zs) ≡ count_to q n
  count_by_place n e h = length-filter p zs ∙ (rw (take_all n zs (omega arith)) at (count_of_first n (omega arith) h))

-- ---- pairs of numbers, one of each row
abbrev pub same_pair : Float × Float → Bool
same_pair z = same_number z.0 z.1

-- ---- a figure, and the bytes that are stored of it
abbrev pub same_stored : Float × List ℕ → Bool
same_stored z = same_number z.0 (double_at z.1 0)

-- ---- the floats of a sample in two rows
abbrev pub differ : List Float × List Float → Bool
differ z = not (same_firsts z.0 z.1 (length z.0))

module _ (a b : List Float) where
  pair_at : (k : ℕ) → k < length a → k < length b → same_pair (get_or (zip a b) k (nan, nan)) ≡ same_number (row a k) (row b k)
  pair_at k h g = rw (get_or-zip a b k (nan, nan) h g)

  firsts_by_pairs : (n : ℕ) → n ≤ length a → n ≤ length b → list_all same_pair (take n (zip a b)) ≡ same_firsts a b n
  unfolding same_firsts same_to
  firsts_by_pairs n p q =
      rw (le-leb n (length a) p, le-leb n (length b) q) (all_of_first same_pair (λ k. same_number (row a k) (row b k)) (nan, nan) (zip a b) n (omega (arith, length-zip a b)) (λ k h. pair_at k (omega arith) (omega arith)))

-- ---- rows of whatever has a value
module _ {A : Type 0} (value : A → Float) where
  abbrev pub same_values : A × A → Bool
  same_values z = same_number (value z.0) (value z.1)

  of_values : (a b : List A) (n : ℕ) → list_all same_values (take n (zip a b)) ≡ list_all same_pair (take n (zip (map value a) (map value b)))
  of_values a b zero = refl
  of_values [] b (suc n) = refl
  of_values (x ∷ a) [] (suc n) = refl
  of_values (x ∷ a) (y ∷ b) (suc n) = ap (λ t. same_number (value x) (value y) && t) (of_values a b n)

  pub firsts_by_values : (a b : List A) (n : ℕ) → n ≤ length a → n ≤ length b → list_all same_values (take n (zip a b)) ≡ same_firsts (map value a) (map value b) n
  firsts_by_values a b n p q =
      of_values a b n ∙ firsts_by_pairs (map value a) (map value b) n (rw (length-map a value) p) (rw (length-map b value) q)

-- numbers, each of which is its own value
pub own_values : (a b : List Float) (n : ℕ) → same_firsts (map (λ x. x) a) (map (λ x. x) b) n ≡ same_firsts a b n
own_values a b n = rw (map-id a, map-id b) refl

-- ---- what is left of a row from one place on
pub lent_by_items : (l : List Float) (from : ℕ) → list_all (λ x. eq x LENT) (drop from l) ≡ lent_from l from
unfolding lent_to
lent_by_items l from =
    all_by_place (λ x. eq x LENT) (λ k. eq (row l (from + k)) LENT) nan (drop from l) (length l - from) (length-drop from l) (λ k h. rw get_or-drop refl)

-- ---- figures, and the pieces of eight bytes that are stored of them
module _ (bytes : List ℕ) (k : ℕ) (h : k < length bytes / 8) where
  unit_of_piece : (j : ℕ) → j < 2 → unit_in (take 8 (drop (k * 8) bytes)) j ≡ unit_in bytes (2 * k + j)
  unfolding unit_in
  unit_of_piece j g =
      let long : length (take 8 (drop (k * 8) bytes)) ≡ 8 = simp (length-take, length-drop) (omega arith) in
      rw (lt-ltb j (length (take 8 (drop (k * 8) bytes)) / 4) (omega arith), lt-ltb (2 * k + j) (length bytes / 4) (omega arith), get_or-piece 8 k (4 * j) (4 * (2 * k + j)) bytes 0 (omega arith) (omega arith), get_or-piece 8 k (4 * j + 1) (4 * (2 * k + j) + 1) bytes 0 (omega arith) (omega arith), get_or-piece 8 k (4 * j + 2) (4 * (2 * k + j) + 2) bytes 0 (omega arith) (omega arith), get_or-piece 8 k (4 * j + 3) (4 * (2 * k + j) + 3) bytes 0 (omega arith) (omega arith)) refl

  double_of_piece : double_at (take 8 (drop (k * 8) bytes)) 0 ≡ double_at bytes (2 * k)
  unfolding double_at long_at
  double_of_piece = rw (unit_of_piece 0 (lit< tt), unit_of_piece 1 (lit< tt), add-zero (2 * k)) refl

module _ (figures : List Float) (stored : List ℕ) (e : length stored ≡ 8 * length figures) where
  figure_at : (k : ℕ) → k < length figures → same_stored (get_or (zip figures (pieces 8 (length stored / 8) stored)) k (nan, [])) ≡ same_number (row figures k) (stored_row stored k)
  figure_at k h =
      let many = length-pieces 8 (length stored / 8) stored in
      rw (get_or-zip figures (pieces 8 (length stored / 8) stored) k (nan, []) h (omega arith), get_or-pieces 8 (length stored / 8) k stored [] (omega arith), double_of_piece stored k (omega arith)) refl

  pub figures_by_pairs : list_all same_stored (zip figures (pieces 8 (length stored / 8) stored)) ≡ same_figures figures stored
  unfolding same_figures same_to
  figures_by_pairs =
      rw (eq-eqb (length stored) (8 * length figures) e) (all_by_place same_stored (λ k. same_number (row figures k) (stored_row stored k)) (nan, []) (zip figures (pieces 8 (length stored / 8) stored)) (length figures) (omega (arith, length-zip figures (pieces 8 (length stored / 8) stored), length-pieces 8 (length stored / 8) stored)) figure_at)

-- ---- samples, two floats each
module _ (a b : List Float) where
  sample_of_pieces : (k : ℕ) → k < length a / 2 → k < length b / 2 → differ (take 2 (drop (k * 2) a), take 2 (drop (k * 2) b)) ≡ not (same_sample a b k)
  unfolding same_firsts same_to same_sample
  sample_of_pieces k h g =
      let long : length (take 2 (drop (k * 2) a)) ≡ 2 = simp (length-take, length-drop) (omega arith) in
      let as_long : length (take 2 (drop (k * 2) b)) ≡ 2 = simp (length-take, length-drop) (omega arith) in
      rw (long, as_long, get_or-piece 2 k 0 (2 * k) a nan (lit< tt) (omega arith), get_or-piece 2 k 0 (2 * k) b nan (lit< tt) (omega arith), get_or-piece 2 k 1 (2 * k + 1) a nan (lit< tt) (omega arith), get_or-piece 2 k 1 (2 * k + 1) b nan (lit< tt) (omega arith)) refl

  pub changed_by_pairs : length (filter differ (zip (pieces 2 (length a / 2) a) (pieces 2 (length b / 2) b))) ≡ changed_in a b
  unfolding changed_to
  changed_by_pairs =
      let many = length-pieces 2 (length a / 2) a in
      let as_many = length-pieces 2 (length b / 2) b in
      count_by_place differ (λ k. not (same_sample a b k)) ([], []) (zip (pieces 2 (length a / 2) a) (pieces 2 (length b / 2) b)) (min (length a / 2) (length b / 2)) (omega (arith, length-zip (pieces 2 (length a / 2) a) (pieces 2 (length b / 2) b))) (λ k h. rw (get_or-zip (pieces 2 (length a / 2) a) (pieces 2 (length b / 2) b) k ([], []) (omega arith) (omega arith), get_or-pieces 2 (length a / 2) k a [] (omega arith), get_or-pieces 2 (length b / 2) k b [] (omega arith)) (sample_of_pieces k (omega arith) (omega arith)))
