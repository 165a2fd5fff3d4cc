-- What `chunks_exact` of a slice gives: the pieces of one size that its elements make.
use Rattle.std.proofs.Common.{◌≡◌, ℕ, zero, suc, ◌+◌, ◌*◌, ◌/◌, ◌<◌, List, [], ◌∷◌, ◌++◌, length, get_or, take, drop, refl, sym, ◌∙◌, ap, arith, add-one, length-append, get_or-take, get_or-drop, drop-drop, zero-mul, le_of_suc-le-suc, not-suc-le-zero}
use Rattle.std.proofs.Math.Nat.{add-div_left, div-eq_of_lt}
use Rattle.std.proofs.Math.Seq.{take-append_seam, drop-append_seam}
use Rattle.std.proofs.lemmas.Iterator.{YieldsList}
use Rattle.std.proofs.lemmas.Iterator.Splits.{YieldsList-from_shown_while}
use Rattle.std.specs.Slice.Iter.{chunks_exact_steps, chunks_exact_rest, chunks_exact_size}

-- n pieces of a list
abbrev pub pieces : {A : Type 0} → ℕ → ℕ → List A → List (List A)
pieces size zero xs = []
pieces size (suc n) xs = take size xs ∷ pieces size n (drop size xs)

module _ {A : Type 0} where
  pub length-pieces : (size n : ℕ) (xs : List A) → length (pieces size n xs) ≡ n
  length-pieces size zero xs = refl
  length-pieces size (suc n) xs = ap suc (length-pieces size n (drop size xs))

  pub get_or-pieces : (size n k : ℕ) (xs d : List A) → k < n → get_or (pieces size n xs) k d ≡ take size (drop (k * size) xs)
  get_or-pieces size zero k xs d h = absurd (not-suc-le-zero h)
  get_or-pieces size (suc n) zero xs d h = rw (zero-mul size) refl
  get_or-pieces size (suc n) (suc k) xs d h =
      get_or-pieces size n k (drop size xs) d (le_of_suc-le-suc h) ∙ ap (take size) (drop-drop (k * size) size xs ∙ ap (λ m. drop m xs) (omega arith))

  -- an element of a piece is one of the list
  pub get_or-piece : (size k i m : ℕ) (xs : List A) (d : A) → i < size → k * size + i ≡ m → get_or (take size (drop (k * size) xs)) i d ≡ get_or xs m d
  get_or-piece size k i m xs d h e =
      get_or-take size (drop (k * size) xs) i d h ∙ get_or-drop (k * size) xs i d ∙ ap (λ n. get_or xs n d) e

  pieces_more : (xs ys : List A) → 0 < length xs → pieces (length xs) (length (xs ++ ys) / length xs) (xs ++ ys) ≡ xs ∷ pieces (length xs) (length ys / length xs) ys
  pieces_more xs ys h = rw (length-append xs ys, add-div_left (length ys) h, add-one, take-append_seam xs ys, drop-append_seam xs ys) refl

  pub YieldsList-from_chunks_exact : {s : _} (size : ℕ) (xs : List A) → 0 < size → chunks_exact_rest s ≡ xs → chunks_exact_size s ≡ size → YieldsList chunks_exact_steps (λ x. x.now) s (pieces size (length xs / size) xs)
  YieldsList-from_chunks_exact {s} size xs h e f =
      rw (← e) (YieldsList-from_shown_while chunks_exact_steps (λ x. x.now) (λ t. pieces size (length (chunks_exact_rest t) / size) (chunks_exact_rest t)) (λ t. chunks_exact_size t ≡ size) (λ s t p q. length-pieces _ _ _ ∙ div-eq_of_lt (rw p at q.1.0)) (λ s x t p q. (q.0 ∙ p, let long : size ≡ length x.now = sym (q.1.1 ∙ p) in rw (q.1.0, long) (pieces_more x.now (chunks_exact_rest t) (rw long at h)))) s f)
