-- Counting the indices that pass a test.
use Prim.Native.Nat.{ℕ, zero, suc, ◌+◌, ◌≤◌, ◌<◌, zero-le}
use native.Mathlib.Omega.{arith}
use mathlib.Core.Path.{◌≡◌, refl}
use mathlib.Core.Bool.{Bool, true, false, cond}
use Rattle.lists.specs.Count.{count_to}

abbrev pub bit : Bool → ℕ
bit b = cond b 1 0

pub count_cong : (f g : ℕ → Bool) (n : ℕ) → ((i : ℕ) → i < n → f i ≡ g i) → count_to f n ≡ count_to g n
unfolding count_to
count_cong f g zero e = refl
count_cong f g (suc n) e = rw (count_cong f g n (λ (i : ℕ) (h : i < n). e i (omega arith)), e n (omega arith))

pub count_le : (f g : ℕ → Bool) (n : ℕ) → ((i : ℕ) → i < n → f i ≡ true → g i ≡ true) → count_to f n ≤ count_to g n
unfolding count_to
count_le f g zero e = zero-le
count_le f g (suc n) e = step (f n) (g n) (e n (omega arith)) (count_le f g n (λ (i : ℕ) (h : i < n). e i (omega arith)))
  where
    step : (a b : Bool) → (a ≡ true → b ≡ true) → count_to f n ≤ count_to g n → count_to f n + bit a ≤ count_to g n + bit b
    step false b k h = omega arith
    step true b k h = rw (k refl) (omega arith)

pub count_most : (f : ℕ → Bool) (n : ℕ) → count_to f n ≤ n
unfolding count_to
count_most f zero = zero-le
count_most f (suc n) = step (f n) (count_most f n)
  where
    step : (a : Bool) → count_to f n ≤ n → count_to f n + bit a ≤ suc n
    step false h = omega arith
    step true h = omega arith

-- two tests that never both hold, and one that holds where either does
pub count_apart : (f g h : ℕ → Bool) (n : ℕ) → ((i : ℕ) → bit (h i) ≡ bit (f i) + bit (g i)) → count_to h n ≡ count_to f n + count_to g n
unfolding count_to
count_apart f g h zero e = refl
count_apart f g h (suc n) e = omega (arith, e n, count_apart f g h n e)

-- one that is counted is there
pub count_some : (f : ℕ → Bool) (n : ℕ) → 0 < count_to f n → (i : ℕ) × (i < n) × (f i ≡ true)
unfolding count_to
count_some f zero h = absurd (omega (arith, h))
count_some f (suc n) h = go (f n) refl (count_some f n) h
  where
    go : (a : Bool) → f n ≡ a → (0 < count_to f n → (i : ℕ) × (i < n) × (f i ≡ true)) → 0 < count_to f n + bit a → (i : ℕ) × (i < suc n) × (f i ≡ true)
    go true e less h = (n, omega arith, e)
    go false e less h = let w = less (omega arith) in (w.0, omega (arith, w.1), w.2)
