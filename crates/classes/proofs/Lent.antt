-- What a list holds after a part of it was lent: ys stands where the k members from member a on stood.
use Prim.Native.Nat.{ℕ, ◌+◌, ◌-◌, ◌≤◌, ◌<◌}
use native.Mathlib.Omega.{arith}
use mathlib.Core.Path.{◌≡◌, sym, ap, ◌∙◌}
use mathlib.Core.List.{List, ◌++◌}
use lib.ListN.{length, get_or, take, drop, get_or-append}
use lib.Seq.{length-take-le, get_or-take, get_or-drop, get_or-append-add}
use borrow.Rule.Slice.PartMut.{mid_of, post_of, put_mid, take_put}
use Rattle.std.proofs.lemmas.Slice.{drop-put_mid}

module _ {A : Type 0} (a k : ℕ) (w : List A) (d : A) where
  -- the part while it is lent
  pub part_at : (j : ℕ) → j < k → get_or (mid_of a k w) j d ≡ get_or w (a + j) d
  part_at j h = get_or-take k (drop a w) j d h ∙ get_or-drop a w j d

  module _ (ys : List A) (room : a ≤ length w) where
    -- before the part, in it and after it
    pub put_below : (i : ℕ) → i < a → get_or (put_mid a k w ys) i d ≡ get_or w i d
    put_below i h = sym (get_or-take a (put_mid a k w ys) i d h) ∙ ap (λ l. get_or l i d) (take_put a k w ys room) ∙ get_or-take a w i d h

    pub put_at : (j : ℕ) → j < length ys → get_or (put_mid a k w ys) (a + j) d ≡ get_or ys j d
    put_at j g =
        let from : length (take a w) + j ≡ a + j = ap (λ n. n + j) (length-take-le a w room) in
        ap (λ i. get_or (put_mid a k w ys) i d) (sym from) ∙ get_or-append-add (take a w) (ys ++ post_of a k w) j d ∙ get_or-append ys (post_of a k w) d j g

    pub put_past : length ys ≡ k → (i : ℕ) → a + k ≤ i → get_or (put_mid a k w ys) i d ≡ get_or w i d
    put_past size i h =
        let at : a + k + (i - (a + k)) ≡ i = omega arith in
        let rest = drop-put_mid a k w ys (a + k) (omega arith) room size in
        ap (λ n. get_or (put_mid a k w ys) n d) (sym at)
        ∙ sym (get_or-drop (a + k) (put_mid a k w ys) (i - (a + k)) d)
        ∙ ap (λ l. get_or l (i - (a + k)) d) rest
        ∙ get_or-drop (a + k) w (i - (a + k)) d
        ∙ ap (λ n. get_or w n d) at
