-- Sums of f64: a loop that adds.
use Prim.Native.Nat.{ℕ, zero, suc, ◌+◌, ◌<◌, ◌≤◌}
use native.Mathlib.Numerals.{add-one}
use native.Mathlib.Omega.{arith}
use mathlib.Core.Path.{◌≡◌, refl}
use mathlib.Core.List.{List, [], ◌∷◌, ◌++◌}
use lib.Ieee.{Float}
use Rattle.float.specs.Ops.{◌⊕◌}
use Rattle.lists.specs.Sums.{f_sum, sum_over}

pub f_sum_none : (start : Float) (f : ℕ → Float) → start ≡ f_sum start f 0
unfolding f_sum
f_sum_none start f = refl

pub f_sum_turn : (start : Float) (f : ℕ → Float) (n : ℕ) (acc x r : Float) → acc ≡ f_sum start f n → x ≡ f n → r ≡ acc ⊕ x → r ≡ f_sum start f (n + 1)
unfolding f_sum
f_sum_turn start f n acc x r p q e = rw (add-one, e, p, q)

pub f_sum_done : (start : Float) (f : ℕ → Float) (n k : ℕ) (acc : Float) → acc ≡ f_sum start f k → k ≤ n → n ≤ k → acc ≡ f_sum start f n
f_sum_done start f n k acc p h g = let all : k ≡ n = omega arith in rw all at p

pub f_sum_cong : (start : Float) (f g : ℕ → Float) (n : ℕ) → ((k : ℕ) → k < n → f k ≡ g k) → f_sum start f n ≡ f_sum start g n
unfolding f_sum
f_sum_cong start f g zero h = refl
f_sum_cong start f g (suc n) h = rw (f_sum_cong start f g n (λ k b. h k (omega arith)), h n (omega arith))

-- one more at the end of a list
pub over_more : {A : Type 0} (figure : A → Float) (start : Float) (xs : List A) (x : A) → sum_over figure start (xs ++ (x ∷ [])) ≡ sum_over figure start xs ⊕ figure x
unfolding sum_over
over_more figure start [] x = refl
over_more figure start (y ∷ xs) x = over_more figure (start ⊕ figure y) xs x
