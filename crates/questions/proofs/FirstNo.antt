-- The first no of a list of questions. Assumes nothing.
use Prim.Native.Nat.{ℕ, zero, suc}
use native.Mathlib.Omega.{arith}
use mathlib.Core.Path.{◌≡◌, refl}
use mathlib.Core.Logic.{◌⊎◌, inl, inr, ⊎_elim}
use mathlib.Core.Bool.{Bool, true, false, ◌&&◌, false≢true}
use mathlib.Core.List.{List, [], ◌∷◌, Memᴰ}
use lib.Dec.{ltb}
use Rattle.lists.proofs.Every.{and_right}
use Rattle.questions.specs.Questions.{Asked, ask, first_no}

-- ---- every number is above 0, so that a result of 0 means yes throughout

abbrev pub numbered : List Asked → Bool
numbered [] = true
numbered (ask n b ∷ qs) = ltb 0 n && numbered qs

-- where the result is 0 each answer is yes: the one at place k, from 0 on
abbrev pub answer : List Asked → ℕ → Bool
answer [] k = true
answer (ask n b ∷ qs) zero = b
answer (ask n b ∷ qs) (suc k) = answer qs k

pub yes_at : (qs : List Asked) → numbered qs ≡ true → first_no qs ≡ 0 → (k : ℕ) → answer qs k ≡ true
unfolding first_no
yes_at [] p e k = refl
yes_at (ask n true ∷ qs) p e zero = refl
yes_at (ask n true ∷ qs) p e (suc k) = yes_at qs (and_right (ltb 0 n) (numbered qs) p) e k
yes_at (ask zero false ∷ qs) p e k = absurd (false≢true p)
yes_at (ask (suc n) false ∷ qs) p e k = let never : ⊥ = omega arith in absurd never

-- ---- what the result can be: 0 where each answer is yes, and else the number of a question answered no

-- a yes to each question, in their order
abbrev pub AllYes : List Asked → Type 0
AllYes [] = Unit {0}
AllYes (ask n b ∷ qs) = (b ≡ true) × AllYes qs

pub all_yes : (qs : List Asked) → AllYes qs → first_no qs ≡ 0
unfolding first_no
all_yes [] each = refl
all_yes (ask n true ∷ qs) each = all_yes qs each.1
all_yes (ask n false ∷ qs) each = absurd (false≢true each.0)

pub first_asked : (qs : List Asked) → (first_no qs ≡ 0) ⊎ Memᴰ (ask (first_no qs) false) qs
unfolding first_no
first_asked [] = inl refl
first_asked (ask n true ∷ qs) = ⊎_elim (λ e. inl e) (λ m. inr (Memᴰ.tail m)) (first_asked qs)
first_asked (ask n false ∷ qs) = inr (Memᴰ.head refl)
