-- Samples that are replaced in a list: what stands there then, and a part of a list that is lent and comes back.
use Prim.Native.Nat.{ℕ, zero, suc, ◌+◌, ◌-◌, ◌*◌, ◌<◌, ◌≤◌}
use native.Mathlib.Nat.{not-suc-le-zero, eq-or-lt_of_le, le_of_suc-le-suc}
use native.Mathlib.Omega.{arith}
use mathlib.Core.Path.{◌≡◌, refl, ap, ◌∙◌}
use mathlib.Core.List.{List, ◌++◌}
use mathlib.Core.Logic.{⊎_elim}
use lib.ListN.{length, set, take, drop, length-set}
use lib.Seq.{length-take-le, get_or-take, get_or-drop}
use Rattle.std.proofs.lemmas.List.{set-append_left, set-append_right}
use lib.Ieee.{Float, nan}
use borrow.Rule.Slice.PartMut.{mid_of, post_of, put_mid, put_same, mid_len}
use Rattle.complex.specs.declared.value.Complex.{Complex}
use Rattle.complex.specs.Rows.{z_at, z_fill}
use Rattle.complex.proofs.RowLaws.{length_z_fill, z_at_z_set_same, z_at_z_set_other}

-- ---- what stands where samples were replaced

-- below them and above them what was there
pub z_at_z_fill_below : (l : List Float) (at : ℕ) (f : ℕ → Complex) (n k : ℕ) → k < at → z_at (z_fill l at f n) k ≡ z_at l k
unfolding z_fill
z_at_z_fill_below l at f zero k h = refl
z_at_z_fill_below l at f (suc n) k h = z_at_z_set_other (z_fill l at f n) (at + n) k (f n) (omega arith) ∙ z_at_z_fill_below l at f n k h

pub z_at_z_fill_above : (l : List Float) (at : ℕ) (f : ℕ → Complex) (n k : ℕ) → at + n ≤ k → z_at (z_fill l at f n) k ≡ z_at l k
unfolding z_fill
z_at_z_fill_above l at f zero k h = refl
z_at_z_fill_above l at f (suc n) k h =
    z_at_z_set_other (z_fill l at f n) (at + n) k (f n) (omega arith) ∙ z_at_z_fill_above l at f n k (omega arith)

-- and there what was stored
pub z_at_z_fill_from : (l : List Float) (at : ℕ) (f : ℕ → Complex) (n k : ℕ) → k < n → 2 * (at + n) ≤ length l → z_at (z_fill l at f n) (at + k) ≡ f k
unfolding z_fill
z_at_z_fill_from l at f zero k h g = absurd (not-suc-le-zero h)
z_at_z_fill_from l at f (suc n) k h g =
    let room : 2 * (at + n) + 1 < length (z_fill l at f n) = rw (length_z_fill l at f n) (omega arith) in
    ⊎_elim (λ e. rw e (z_at_z_set_same (z_fill l at f n) (at + n) (f n) room))
    (λ b. z_at_z_set_other (z_fill l at f n) (at + n) (at + k) (f n) (omega arith) ∙ z_at_z_fill_from l at f n k b (omega arith))
    (eq-or-lt_of_le (le_of_suc-le-suc h))

-- ---- a part that is lent: the k numbers from number a on

module _ {A : Type 0} where
  -- a number stored in the part is stored a further in the whole
  put_set : (a k : ℕ) (xs ys : List A) (j : ℕ) (v : A) → a ≤ length xs → j < length ys → put_mid a k xs (set ys j v) ≡ set (put_mid a k xs ys) (a + j) v
  put_set a k xs ys j v h g =
      let before : length (take a xs) ≡ a = length-take-le a xs h in
      let here : a + j - a ≡ j = omega arith in
      rw (set-append_right (take a xs) (ys ++ post_of a k xs) a (a + j) v before (omega arith), here, set-append_left ys (post_of a k xs) j v g)

-- samples stored from the start of the part are stored from its place on in the whole
put_filled : (lo k : ℕ) (xs ys : List Float) (g : ℕ → Complex) (n : ℕ) → 2 * lo ≤ length xs → 2 * n ≤ length ys
    → put_mid (2 * lo) k xs (z_fill ys 0 g n) ≡ z_fill (put_mid (2 * lo) k xs ys) lo g n
unfolding z_fill
put_filled lo k xs ys g zero h b = refl
put_filled lo k xs ys g (suc n) h b =
    let zs = z_fill ys 0 g n in
    let here : 0 + n ≡ n = omega arith in
    let re-at : 2 * lo + 2 * n ≡ 2 * (lo + n) = omega arith in
    let im-at : 2 * lo + (2 * n + 1) ≡ 2 * (lo + n) + 1 = omega arith in
    let long : length zs ≡ length ys = length_z_fill ys 0 g n in
    rw here
    (put_set (2 * lo) k xs (set zs (2 * n) (g n).re) (2 * n + 1) (g n).im h (simp length-set (omega arith))
    ∙ rw (put_set (2 * lo) k xs zs (2 * n) (g n).re h (omega arith), re-at, im-at, put_filled lo k xs ys g n h (omega arith)))

module _ (l : List Float) (lo hi : ℕ) (ordered : lo ≤ hi) (inside : 2 * hi ≤ length l) where
  pub part_length : length (mid_of (2 * lo) (2 * hi - 2 * lo) l) ≡ 2 * hi - 2 * lo
  part_length = mid_len (2 * lo) (2 * hi) l inside

  -- sample j of the part is sample lo + j of the whole
  pub part_sample : (j : ℕ) → j < hi - lo → z_at (mid_of (2 * lo) (2 * hi - 2 * lo) l) j ≡ z_at l (lo + j)
  part_sample j h =
      let re-at : 2 * lo + 2 * j ≡ 2 * (lo + j) = omega arith in
      let im-at : 2 * lo + (2 * j + 1) ≡ 2 * (lo + j) + 1 = omega arith in
      rw (
        get_or-take (2 * hi - 2 * lo) (drop (2 * lo) l) (2 * j) nan (omega arith),
        get_or-take (2 * hi - 2 * lo) (drop (2 * lo) l) (2 * j + 1) nan (omega arith),
        get_or-drop (2 * lo) l (2 * j) nan,
        get_or-drop (2 * lo) l (2 * j + 1) nan,
        re-at,
        im-at,
      )

  -- the part comes back with its samples replaced
  pub part_filled : (g : ℕ → Complex) → put_mid (2 * lo) (2 * hi - 2 * lo) l (z_fill (mid_of (2 * lo) (2 * hi - 2 * lo) l) 0 g (hi - lo)) ≡ z_fill l lo g (hi - lo)
  part_filled g =
      let part = mid_of (2 * lo) (2 * hi - 2 * lo) l in
      let room : 2 * (hi - lo) ≤ length part = rw part_length (omega arith) in
      put_filled lo (2 * hi - 2 * lo) l part g (hi - lo) (omega arith) room
      ∙ ap (λ x. z_fill x lo g (hi - lo)) (put_same (2 * lo) (2 * hi - 2 * lo) l)
