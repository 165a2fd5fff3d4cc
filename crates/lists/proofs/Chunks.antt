-- A list cut into chunks of one size: what is read of them.
use Rattle.std.proofs.Common.{◌≡◌, ℕ, zero, suc, ◌+◌, ◌*◌, ◌<◌, ◌≤◌, List, ◌∷◌, get_or, take, drop, arith, refl, ◌∙◌, ap, get_or-take, get_or-drop}
use Rattle.std.specs.Simd.{first_chunks}

-- number i of chunk k of w numbers stands at w k + i
pub chunk_read : {A : Type 0} (w n : ℕ) (l : List A) (k i : ℕ) (e : List A) (d : A) → k < n → i < w → get_or (get_or (first_chunks w n l) k e) i d ≡ get_or l (w * k + i) d
chunk_read w zero l k i e d h g = absurd (omega arith)
chunk_read w (suc n) l zero i e d h g =
    let here : i ≡ w * 0 + i = omega arith in
    get_or-take w l i d g ∙ ap (λ j. get_or l j d) here
chunk_read w (suc n) l (suc k) i e d h g =
    let here : w + (w * k + i) ≡ w * suc k + i = omega arith in
    chunk_read w n (drop w l) k i e d (omega arith) g ∙ get_or-drop w l (w * k + i) d ∙ ap (λ j. get_or l j d) here

-- the first ones
pub chunks_take : {A : Type 0} (w n : ℕ) (l : List A) (k : ℕ) → k ≤ n → take k (first_chunks w n l) ≡ first_chunks w k l
chunks_take w n l zero h = refl
chunks_take w zero l (suc k) h = absurd (omega arith)
chunks_take w (suc n) l (suc k) h = ap (λ r. take w l ∷ r) (chunks_take w n (drop w l) k (omega arith))
