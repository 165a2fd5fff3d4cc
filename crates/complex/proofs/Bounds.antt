-- How large a complex result can be: `CBounded k a z` says that both parts of z are finite and of size at most a * 2
-- ^ k. Each operation has its law, and so have sums of a row. The norm is finite and not negative (`norm_amount`).
-- Assumes nothing.
use mathlib.Core.Path.{◌≡◌, subst, sym}
use Prim.Native.Nat.{ℕ, zero, suc, ◌+◌, ◌*◌, ◌^◌, ◌≤◌, ◌<◌, zero-le}
use native.Mathlib.Nat.{le_refl, le_trans, le_of_eq, one-mul, mul-le-mul_right, suc-mul}
use native.Mathlib.Omega.{arith}
use lib.Ieee.{Float}
use Rattle.float.specs.Ops.{of}
use Rattle.float.proofs.Bounds.{Bounded, bounded_zero, bounded_more, bounded_neg, bounded_add, bounded_sub, bounded_mul, Beyond, bounded_div, bounded_mean}
use Rattle.float.proofs.Amounts.{Amount, amount_root, amount_squares}
use Rattle.complex.specs.declared.value.Complex.{Complex}
use Rattle.complex.specs.Value.{c_zero, c_add, c_sub, c_mul, c_conj, c_div, c_norm_sqr, c_norm}
use Rattle.complex.specs.Rows.{c_sum}

pub record CBounded (k a : ℕ) (z : Complex) : Type 0 where
  pub re_part : Bounded k a z.re
  pub im_part : Bounded k a z.im

pub cbounded_more : {k a j b : ℕ} {z : Complex} → CBounded k a z → a ≤ b → k ≤ j → CBounded j b z
cbounded_more p h g = record { re_part = bounded_more p.re_part h g; im_part = bounded_more p.im_part h g }

pub cbounded_zero : {k a : ℕ} → CBounded k a c_zero
cbounded_zero = record { re_part = bounded_more bounded_zero zero-le zero-le; im_part = bounded_more bounded_zero zero-le zero-le }

pub cbounded_add : {k a b : ℕ} {z w : Complex} → CBounded k a z → CBounded k b w → a + b ≤ 2 ^ 53 → k ≤ 970 → CBounded k (a + b) (c_add z w)
cbounded_add p q h g = record { re_part = bounded_add p.re_part q.re_part h g; im_part = bounded_add p.im_part q.im_part h g }

pub cbounded_sub : {k a b : ℕ} {z w : Complex} → CBounded k a z → CBounded k b w → a + b ≤ 2 ^ 53 → k ≤ 970 → CBounded k (a + b) (c_sub z w)
cbounded_sub p q h g = record { re_part = bounded_sub p.re_part q.re_part h g; im_part = bounded_sub p.im_part q.im_part h g }

pub cbounded_conj : {k a : ℕ} {z : Complex} → CBounded k a z → CBounded k a (c_conj z)
cbounded_conj p = record { re_part = p.re_part; im_part = bounded_neg p.im_part }

pub cbounded_mul : {k a j b : ℕ} {z w : Complex} → CBounded k a z → CBounded j b w → a * b + a * b ≤ 2 ^ 53 → k + j ≤ 970 → CBounded (k + j) (a * b + a * b) (c_mul z w)
cbounded_mul {k} {a} {j} {b} p q h g =
    let one : a * b ≤ 2 ^ 53 = omega arith in
    record {
      re_part = bounded_sub (bounded_mul p.re_part q.re_part one g) (bounded_mul p.im_part q.im_part one g) h g;
      im_part = bounded_add (bounded_mul p.re_part q.im_part one g) (bounded_mul p.im_part q.re_part one g) h g;
    }

pub cbounded_div : {k a : ℕ} {z : Complex} {d : Float} → CBounded k a z → Beyond d → a ≤ 2 ^ 53 → k ≤ 970 → CBounded k a (c_div z d)
cbounded_div p q h g = record { re_part = bounded_div p.re_part q h g; im_part = bounded_div p.im_part q h g }

-- a sum of n terms
pub cbounded_sum : {k b : ℕ} (f : ℕ → Complex) (a n : ℕ) → ((i : ℕ) → i < n → CBounded k b (f (a + i))) → n * b ≤ 2 ^ 53 → k ≤ 970 → CBounded k (n * b) (c_sum f a n)
unfolding c_sum
cbounded_sum f a zero each h g = cbounded_zero
cbounded_sum {k} {b} f a (suc n) each h g =
    let more : suc n * b ≡ n * b + b = suc-mul n b in
    subst (λ (x : ℕ). CBounded k x (c_add (c_sum f a n) (f (a + n)))) (sym more)
    (cbounded_add (cbounded_sum f a n (λ i l. each i (omega arith)) (omega arith) g) (each n (le_refl (suc n))) (omega arith) g)

-- their mean is no larger than they are
pub cbounded_mean : {k b : ℕ} (f : ℕ → Complex) (a n : ℕ) → ((i : ℕ) → i < n → CBounded k b (f (a + i))) → 0 < n → n ≤ 2 ^ 53 → n * b ≤ 2 ^ 53 → k ≤ 970 → CBounded k b (c_div (c_sum f a n) (of n))
cbounded_mean {k} {b} f a n each N M h g =
    let all : CBounded k (n * b) (c_sum f a n) = cbounded_sum f a n each h g in
    let one : b ≤ 2 ^ 53 = le_trans (le_trans (le_of_eq (sym (one-mul b))) (mul-le-mul_right b N)) h in
    record { re_part = bounded_mean n all.re_part N M one g; im_part = bounded_mean n all.im_part N M one g }

pub norm_amount : {k a : ℕ} {z : Complex} → CBounded k a z → a * a + a * a ≤ 2 ^ 53 → k + k ≤ 970 → Amount (c_norm z)
norm_amount {z = z} p h g = amount_root (c_norm_sqr z) (amount_squares p.re_part p.im_part h g)
