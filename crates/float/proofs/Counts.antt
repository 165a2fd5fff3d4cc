-- Whole numbers as floats, up to 2 ^ prec, where a format has no gap. `whole_value` (the float has that value),
-- `whole_back` (`as usize` gives it back), `whole_le` (the test is the numbers' own), `whole_add`, `whole_sub`,
-- `whole_mul` (single operations on them are rounded once: exact as long as the result is such a number too). `of n` of
-- `specs/Ops.antt` is `of_int binary64 (pos n)`. Over any format but for the casts. Assumes nothing.
use Rattle.std.proofs.Common.{◌≡◌, ℕ, ◌+◌, ◌-◌, ◌*◌, ◌^◌, ◌<◌, ◌≤◌, false, T, leb, pos, refl, ◌∙◌, le_trans, arith, lit<, le→leb, leb→le}
use lib.Ieee.{Format, prec, round, add, sub, mul, le, of_int, in_float, to_unsigned}
use lib.Ieee.Exact.{HasValue}
use lib.Ieee.Order.{le_of_values}
use lib.Ieee.Back.{round_whole, unsigned_back}
use Rattle.float.proofs.Compared.{same_truth, le→value}
use Rattle.float.proofs.Sums.{add_over, sub_over, mul_over, sum_plus, sum_less}

pub whole_is : (f : Format) (n : ℕ) → round f false n 1 ≡ of_int f (pos n)
unfolding of_int
whole_is f n = refl

pub whole_value : (f : Format) (n : ℕ) → n ≤ 2 ^ prec f → HasValue (of_int f (pos n)) false n 1
unfolding of_int
whole_value f n h = round_whole f false n h

pub whole_in : (f : Format) (n : ℕ) → n ≤ 2 ^ prec f → T (in_float f (pos n))
unfolding in_float
whole_in f n h = le→leb n (2 ^ prec f) h

pub whole_back : (f : Format) (w n : ℕ) → n ≤ 2 ^ prec f → n < 2 ^ w → to_unsigned w (of_int f (pos n)) ≡ n
whole_back f w n h k = (unsigned_back f w n (whole_in f n h) k).1

-- ---- the order
pub whole_le : (f : Format) (a b : ℕ) → a ≤ 2 ^ prec f → b ≤ 2 ^ prec f → le (of_int f (pos a)) (of_int f (pos b)) ≡ leb a b
whole_le f a b h k =
    same_truth (le (of_int f (pos a)) (of_int f (pos b))) (leb a b)
    (λ t. le→leb a b (omega (arith, le→value (of_int f (pos a)) (of_int f (pos b)) a 1 b 1 (lit< tt) (lit< tt) (whole_value f a h) (whole_value f b k) t)))
    (λ t. le_of_values (of_int f (pos a)) (of_int f (pos b)) a 1 b 1 (lit< tt) (lit< tt) (whole_value f a h) (whole_value f b k) (omega (arith, leb→le a b t)))

-- ---- single operations
pub whole_add : (f : Format) (a b : ℕ) → a ≤ 2 ^ prec f → b ≤ 2 ^ prec f → add f (of_int f (pos a)) (of_int f (pos b)) ≡ of_int f (pos (a + b))
whole_add f a b h k =
    add_over f (of_int f (pos a)) (of_int f (pos b)) false false a b 1 (lit< tt) (whole_value f a h) (whole_value f b k) ∙ sum_plus f false a b 1 ∙ whole_is f (a + b)

pub whole_sub : (f : Format) (a b : ℕ) → a ≤ 2 ^ prec f → b ≤ a → sub f (of_int f (pos a)) (of_int f (pos b)) ≡ of_int f (pos (a - b))
whole_sub f a b h k =
    sub_over f (of_int f (pos a)) (of_int f (pos b)) false false a b 1 (lit< tt) (whole_value f a h) (whole_value f b (le_trans k h)) ∙ sum_less f a b 1 k ∙ whole_is f (a - b)

pub whole_mul : (f : Format) (a b : ℕ) → a ≤ 2 ^ prec f → b ≤ 2 ^ prec f → mul f (of_int f (pos a)) (of_int f (pos b)) ≡ of_int f (pos (a * b))
whole_mul f a b h k = mul_over f (of_int f (pos a)) (of_int f (pos b)) false false a 1 b 1 (lit< tt) (lit< tt) (whole_value f a h) (whole_value f b k) ∙ whole_is f (a * b)
