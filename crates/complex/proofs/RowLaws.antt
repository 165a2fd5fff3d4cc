-- Rows of complex numbers in flat lists: loops that sum and store them, and what is read back.
use Prim.Native.Nat.{ℕ, zero, suc, ◌+◌, ◌-◌, ◌*◌, ◌/◌, ◌<◌, ◌≤◌}
use native.Mathlib.Numerals.{add-one}
use native.Mathlib.Omega.{arith}
use native.Mathlib.Nat.{add-zero, not-suc-le-zero, eq-or-lt_of_le, le_of_suc-le-suc}
use mathlib.Core.Path.{◌≡◌, refl, ap, ◌∙◌}
use mathlib.Core.List.{List, []}
use mathlib.Core.Logic.{◌≢◌, ⊎_elim}
use lib.Dec.{lit<}
use lib.ListN.{length, get_or, set, take, drop, length-set, length-drop}
use lib.Seq.{get_or-set_same, get_or-set_other, get_or-take, get_or-drop, length-take-le}
use lib.Ieee.{Float, nan}
use Rattle.std.specs.Simd.{first_chunks}
use Rattle.lists.specs.Fill.{fill}
use Rattle.lists.proofs.Fill.{get_d_fill_below}
use Rattle.lists.proofs.Chunks.{chunk_read}
use Rattle.complex.specs.declared.value.Complex.{Complex}
use Rattle.complex.specs.Value.{c_new, c_zero, c_add}
use Rattle.complex.specs.Rows.{z_at, z_set, c_sum, z_fill}

-- A loop that sums the numbers from a, at k: before it, a turn of it, and after it. The premises are what the code's
-- facts say.
module _ (f : ℕ → Complex) (a : ℕ) where
  pub c_sum_none : c_zero ≡ c_sum f a (a - a)
  unfolding c_sum
  c_sum_none = let none : a - a ≡ 0 = omega arith in rw none

  pub c_sum_turn : (k : ℕ) (acc x r : Complex) → a ≤ k → acc ≡ c_sum f a (k - a) → x ≡ f k → r ≡ c_add acc x → r ≡ c_sum f a (k + 1 - a)
  unfolding c_sum
  c_sum_turn k acc x r h p q e =
      let more : k + 1 - a ≡ suc (k - a) = omega arith in
      let here : a + (k - a) ≡ k = omega arith in
      rw (more, here, e, p, q)

  pub c_sum_done : (n k : ℕ) (acc : Complex) → acc ≡ c_sum f a (k - a) → k ≤ a + n → a + n ≤ k → acc ≡ c_sum f a n
  c_sum_done n k acc p h g = let all : k - a ≡ n = omega arith in rw all at p

-- the same of a loop that counts its terms from 0
pub c_sum_none0 : (f : ℕ → Complex) (a : ℕ) → c_zero ≡ c_sum f a 0
unfolding c_sum
c_sum_none0 f a = refl

pub c_sum_turn0 : (f : ℕ → Complex) (a n : ℕ) (acc x r : Complex) → acc ≡ c_sum f a n → x ≡ f (a + n) → r ≡ c_add acc x → r ≡ c_sum f a (n + 1)
unfolding c_sum
c_sum_turn0 f a n acc x r p q e = rw (add-one, e, p, q)

pub c_sum_done0 : (f : ℕ → Complex) (a n k : ℕ) (acc : Complex) → acc ≡ c_sum f a k → k ≤ n → n ≤ k → acc ≡ c_sum f a n
c_sum_done0 f a n k acc p h g = let all : k ≡ n = omega arith in rw all at p

-- a loop over the n numbers from a, two floats each
module _ (l : List Float) (a n : ℕ) (room : 2 * (a + n) ≤ length l) where
  abbrev part : List Float
  part = take (2 * (a + n) - 2 * a) (drop (2 * a) l)

  length_part : length part ≡ 2 * n
  length_part =
      let long : 2 * (a + n) - 2 * a ≤ length (drop (2 * a) l) = rw (length-drop (2 * a) l) (omega arith) in
      length-take-le (2 * (a + n) - 2 * a) (drop (2 * a) l) long ∙ omega arith

  read_part : (pairs : List (List Float)) (k i : ℕ) → pairs ≡ first_chunks 2 (length part / 2) part → k < n → i < 2
      → get_or (get_or pairs k []) i nan ≡ get_or l (2 * (a + k) + i) nan
  read_part pairs k i e h g =
      let there : 2 * a + (2 * k + i) ≡ 2 * (a + k) + i = omega arith in
      rw e (
      chunk_read 2 (length part / 2) part k i [] nan (rw length_part (omega arith)) g
      ∙ get_or-take (2 * (a + n) - 2 * a) (drop (2 * a) l) (2 * k + i) nan (omega arith)
      ∙ get_or-drop (2 * a) l (2 * k + i) nan
      ∙ ap (λ j. get_or l j nan) there)

  pub pair_read : (pairs : List (List Float)) (k : ℕ) → pairs ≡ first_chunks 2 (length part / 2) part → k < n
      → c_new (get_or (get_or pairs k []) 0 nan) (get_or (get_or pairs k []) 1 nan) ≡ z_at l (a + k)
  pair_read pairs k e h =
      rw (read_part pairs k 0 e h (lit< tt), read_part pairs k 1 e h (lit< tt), add-zero (2 * (a + k))) refl

  pub pairs_number : (pairs : List (List Float)) → length pairs ≡ length part / 2 → length pairs ≡ n
  pairs_number pairs e = e ∙ rw length_part (omega arith)

pub z_fill_none : (l : List Float) (at : ℕ) (f : ℕ → Complex) → l ≡ z_fill l at f 0
unfolding z_fill
z_fill_none l at f = refl

-- A loop that stores f n at number n.
pub z_fill_turn0 : (l : List Float) (f : ℕ → Complex) (n : ℕ) (cur new : List Float) (z : Complex)
    → cur ≡ z_fill l 0 f n → z ≡ f n → new ≡ z_set cur n z → new ≡ z_fill l 0 f (n + 1)
unfolding z_fill
z_fill_turn0 l f n cur new z p e h = let here : 0 + n ≡ n = omega arith in rw (add-one, here, h, p, e)

pub z_fill_done : (l : List Float) (at : ℕ) (f : ℕ → Complex) (n k : ℕ) (cur : List Float) → cur ≡ z_fill l at f k → k ≤ n → n ≤ k → cur ≡ z_fill l at f n
z_fill_done l at f n k cur p h g = let all : k ≡ n = omega arith in rw all at p

pub length_z_fill : (l : List Float) (at : ℕ) (f : ℕ → Complex) (n : ℕ) → length (z_fill l at f n) ≡ length l
unfolding z_fill
length_z_fill l at f zero = refl
length_z_fill l at f (suc n) = simp length-set (length_z_fill l at f n)

-- ---- reading back what was stored

pub z_at_z_set_same : (l : List Float) (k : ℕ) (z : Complex) → 2 * k + 1 < length l → z_at (z_set l k z) k ≡ z
z_at_z_set_same l k z h =
    let re-in : 2 * k < length l = omega arith in
    let im-in : 2 * k + 1 < length (set l (2 * k) z.re) = simp length-set h in
    rw (
      get_or-set_other (set l (2 * k) z.re) (2 * k + 1) (2 * k) z.im nan (omega arith),
      get_or-set_same l (2 * k) z.re nan re-in,
      get_or-set_same (set l (2 * k) z.re) (2 * k + 1) z.im nan im-in,
    )

pub z_at_z_set_other : (l : List Float) (k j : ℕ) (z : Complex) → j ≢ k → z_at (z_set l k z) j ≡ z_at l j
z_at_z_set_other l k j z h =
    rw (
      get_or-set_other (set l (2 * k) z.re) (2 * k + 1) (2 * j) z.im nan (omega arith),
      get_or-set_other l (2 * k) (2 * j) z.re nan (omega arith),
      get_or-set_other (set l (2 * k) z.re) (2 * k + 1) (2 * j + 1) z.im nan (omega arith),
      get_or-set_other l (2 * k) (2 * j + 1) z.re nan (omega arith),
    )

pub z_at_z_fill : (l : List Float) (f : ℕ → Complex) (n k : ℕ) → k < n → 2 * n ≤ length l → z_at (z_fill l 0 f n) k ≡ f k
unfolding z_fill
z_at_z_fill l f zero k h g = absurd (not-suc-le-zero h)
z_at_z_fill l f (suc n) k h g =
    let here : 0 + n ≡ n = omega arith in
    let room : 2 * n + 1 < length (z_fill l 0 f n) = rw (length_z_fill l 0 f n) (omega arith) in
    rw here
    (⊎_elim (λ e. rw e (z_at_z_set_same (z_fill l 0 f n) n (f n) room))
    (λ b. z_at_z_set_other (z_fill l 0 f n) n k (f n) (omega arith) ∙ z_at_z_fill l f n k b (omega arith))
    (eq-or-lt_of_le (le_of_suc-le-suc h)))

-- sums of the same terms, wherever these stand in their rows
pub c_sum_moved : (f g : ℕ → Complex) (a b n : ℕ) → ((i : ℕ) → i < n → f (a + i) ≡ g (b + i)) → c_sum f a n ≡ c_sum g b n
unfolding c_sum
c_sum_moved f g a b zero h = refl
c_sum_moved f g a b (suc n) h = rw (c_sum_moved f g a b n (λ i l. h i (omega arith)), h n (omega arith))

pub c_sum_cong : (f g : ℕ → Complex) (a n : ℕ) → ((k : ℕ) → k < a + n → f k ≡ g k) → c_sum f a n ≡ c_sum g a n
c_sum_cong f g a n h = c_sum_moved f g a a n (λ i l. h (a + i) (omega arith))

pub z_fill_cong : (l : List Float) (at : ℕ) (f g : ℕ → Complex) (n : ℕ) → ((k : ℕ) → k < n → f k ≡ g k) → z_fill l at f n ≡ z_fill l at g n
unfolding z_fill
z_fill_cong l at f g zero h = refl
z_fill_cong l at f g (suc n) h = rw (z_fill_cong l at f g n (λ k b. h k (omega arith)), h n (omega arith))

-- what lies below a row of floats is as it was
pub z_at_fill_below : (l : List Float) (at : ℕ) (f : ℕ → Float) (n k : ℕ) → 2 * k + 1 < at → z_at (fill l at f n) k ≡ z_at l k
z_at_fill_below l at f n k h =
    rw (get_d_fill_below l at f n (2 * k) nan (omega arith), get_d_fill_below l at f n (2 * k + 1) nan h)
