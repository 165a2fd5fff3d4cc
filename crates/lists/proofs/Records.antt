-- Records of so many numbers in a list: stored one after the other, read back, and what a list then hands out. Said
-- once, of a kind of record with its width and the functions that read and store one from a number on. Assumes nothing.
use Prim.Native.Nat.{ℕ, zero, suc, ◌+◌, ◌*◌, ◌/◌, ◌≤◌, ◌<◌}
use native.Mathlib.Nat.{not-suc-le-zero, le_of_suc-le-suc, mul-le-mul_left, mul-suc, mul_comm, le-div_iff_mul-le}
use native.Mathlib.Omega.{arith}
use mathlib.Core.Path.{◌≡◌, refl, ap, ◌∙◌}
use mathlib.Core.List.{List, [], ◌∷◌, ◌++◌}
use lib.ListN.{length, get_or, take, drop, drop_of_length-le}
use lib.Ieee.{Float, nan}
use Rattle.lists.specs.Fill.{fill}
use Rattle.lists.specs.Firsts.{firsts}
use Rattle.lists.specs.Records.{beyond_places, Handed, handed, handed_numbers, keeping, stored_by}
use Rattle.lists.proofs.Fill.{length_fill, part_fill}
use Rattle.lists.proofs.Firsts.{firsts_all}

-- ---- one record: what the two functions have to do with its width
pub record Kind (N A : Type 0) (width : ℕ) (get : List N → ℕ → A) (put : List N → ℕ → A → List N) : Type 0 where
  pub some : 1 ≤ width
  pub length_put : (l : List N) (at : ℕ) (x : A) → length (put l at x) ≡ length l
  pub get_put : (l : List N) (at : ℕ) (x : A) → at + width ≤ length l → get (put l at x) at ≡ x
  pub get_before : (l : List N) (at : ℕ) (x : A) (from : ℕ) → from + width ≤ at → get (put l at x) from ≡ get l from
  pub drop_put : (l : List N) (at : ℕ) (x : A) (n : ℕ) → at + width ≤ n → drop n (put l at x) ≡ drop n l

-- ---- many of them
module _ {N A : Type 0} (width : ℕ) (get : List N → ℕ → A) (put : List N → ℕ → A → List N) (kind : Kind N A width get put) where
  pub length_stored : (l : List N) (p : ℕ) (xs : List A) → length (stored_by width put l p xs) ≡ length l
  unfolding stored_by
  length_stored l p [] = refl
  length_stored l p (x ∷ xs) = length_stored (put l (width * p) x) (suc p) xs ∙ kind.length_put l (width * p) x

  pub stored_append : (l : List N) (p : ℕ) (a b : List A) → stored_by width put l p (a ++ b) ≡ stored_by width put (stored_by width put l p a) (p + length a) b
  unfolding stored_by
  stored_append l p [] b = let here : p + 0 ≡ p = omega arith in rw here
  stored_append l p (x ∷ a) b =
      let there : p + suc (length a) ≡ suc p + length a = omega arith in
      rw there (stored_append (put l (width * p) x) (suc p) a b)

  -- a place before the first is as it was
  stored_before : (l : List N) (p : ℕ) (xs : List A) (q : ℕ) → q < p → get (stored_by width put l p xs) (width * q) ≡ get l (width * q)
  unfolding stored_by
  stored_before l p [] q h = refl
  stored_before l p (x ∷ xs) q h =
      let ends = mul-le-mul_left width h in
      let next = mul-suc width q in
      stored_before (put l (width * p) x) (suc p) xs q (omega arith) ∙ kind.get_before l (width * p) x (width * q) (omega arith)

  stored_read : (l : List N) (p : ℕ) (xs : List A) (a : ℕ) (d : A) → a < length xs → width * (p + length xs) ≤ length l
      → get (stored_by width put l p xs) (width * (p + a)) ≡ get_or xs a d
  unfolding stored_by
  stored_read l p [] a d h room = absurd (not-suc-le-zero h)
  stored_read l p (x ∷ xs) zero d h room =
      let here : p + 0 ≡ p = omega arith in
      let ends : width * suc p ≤ width * (p + suc (length xs)) = mul-le-mul_left width (omega arith) in
      let next = mul-suc width p in
      rw here (stored_before (put l (width * p) x) (suc p) xs p (omega arith) ∙ kind.get_put l (width * p) x (omega arith))
  stored_read l p (x ∷ xs) (suc a) d h room =
      let there : p + suc a ≡ suc p + a = omega arith in
      let all : p + suc (length xs) ≡ suc p + length xs = omega arith in
      rw there (stored_read (put l (width * p) x) (suc p) xs a d (le_of_suc-le-suc h) (rw (kind.length_put l (width * p) x, ← all) room))

  -- what lies after the last place is as it was
  stored_after : (l : List N) (p : ℕ) (xs : List A) (n : ℕ) → width * (p + length xs) ≤ n → drop n (stored_by width put l p xs) ≡ drop n l
  unfolding stored_by
  stored_after l p [] n h = refl
  stored_after l p (x ∷ xs) n h =
      let all : p + suc (length xs) ≡ suc p + length xs = omega arith in
      let ends : width * suc p ≤ width * (p + suc (length xs)) = mul-le-mul_left width (omega arith) in
      let next = mul-suc width p in
      stored_after (put l (width * p) x) (suc p) xs n (rw (← all) h) ∙ kind.drop_put l (width * p) x n (omega arith)

  -- A list in which records are stored from its start on has these records there ..
  stored_firsts : (l : List N) (xs : List A) → width * length xs ≤ length l → firsts (λ p. get (stored_by width put l 0 xs) (width * p)) (length xs) ≡ xs
  stored_firsts l xs room =
      let from : 0 + length xs ≡ length xs = omega arith in
      firsts_all (λ p. get (stored_by width put l 0 xs) (width * p)) xs (get l 0)
      (λ k b. let here : 0 + k ≡ k = omega arith in rw here at (stored_read l 0 xs k (get l 0) b (rw from room)))

  -- .. and keeps all that lies after them.
  pub stored_keeping : (l : List N) (xs : List A) → width * length xs ≤ length l
      → keeping width (firsts (λ p. get (stored_by width put l 0 xs) (width * p)) (length xs)) (stored_by width put l 0 xs) ≡ keeping width xs l
  unfolding keeping
  stored_keeping l xs room = rw (stored_firsts l xs room, stored_after l 0 xs (width * length xs) (omega arith))

-- So it hands out these records, and its rest and its length are as they were.
pub stored_handed : {A : Type 0} (width : ℕ) (get : List Float → ℕ → A) (put : List Float → ℕ → A → List Float) (kind : Kind Float A width get put)
    (l : List Float) (xs : List A) → width * length xs ≤ length l
    → handed width (firsts (λ p. get (stored_by width put l 0 xs) (width * p)) (length xs)) (stored_by width put l 0 xs) ≡ handed width xs l
unfolding handed
stored_handed width get put kind l xs room =
    let cur = stored_by width put l 0 xs in
    let from : 0 + length xs ≡ length xs = omega arith in
    let few : length xs ≤ length l / width = (le-div_iff_mul-le kind.some).1 (rw (mul_comm (length xs) width) room) in
    let size = length_stored width get put kind l 0 xs in
    let rest : drop (width * (length l / width)) cur ≡ drop (width * (length l / width)) l =
    stored_after width get put kind l 0 xs (width * (length l / width)) (rw from (mul-le-mul_left width few)) in
    rw (size, rest, stored_firsts width get put kind l xs room)

-- a list that two calls fill one after the other hands out the records of the second
pub handed_again : {A : Type 0} (width : ℕ) (h : Handed A) (xs ys zs : List A) (mid l : List Float)
    → h ≡ handed width xs mid → handed width ys mid ≡ handed width zs l → h ≡ handed width xs l
unfolding handed
handed_again {A} width h xs ys zs mid l e f =
    let rest : beyond_places width mid ≡ beyond_places width l = ap (λ (g : Handed A). g.rest) f in
    let size : length mid ≡ length l = ap (λ (g : Handed A). g.size) f in
    e ∙ rw (rest, size)

-- ---- a list whose places are one number each

-- a list that keeps its length and has these numbers at its first places
pub numbers_handed : (l cur xs : List Float) (n : ℕ) → length cur ≡ length l → take n cur ≡ xs → handed_numbers cur n ≡ handed 1 xs l
unfolding handed handed_numbers
numbers_handed l cur xs n size first =
    let rest : (m : List Float) → drop (1 * (length m / 1)) m ≡ [] = λ m. drop_of_length-le m {i = 1 * (length m / 1)} (omega arith) in
    rw (first, rest cur, rest l, size)

pub numbers_read : (cur l : List Float) (n : ℕ) (xs : List Float) → handed_numbers cur n ≡ handed 1 xs l → take n cur ≡ xs
unfolding handed handed_numbers
numbers_read cur l n xs e = ap (λ h. h.records) e

-- a list to whose start another is copied
pub copied_handed : (l xs : List Float) → length xs ≤ length l → handed_numbers (fill l 0 (λ k. get_or xs k nan) (length xs)) (length xs) ≡ handed 1 xs l
copied_handed l xs room =
    let at : ℕ → Float = λ k. get_or xs k nan in
    numbers_handed l (fill l 0 at (length xs)) xs (length xs) (length_fill l 0 at (length xs))
    (part_fill l 0 at (length xs) nan (omega arith) ∙ firsts_all at xs nan (λ k b. refl))
