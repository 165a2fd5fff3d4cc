-- Numbers in base ten: the digits that the code makes are `decimal`'s, reading them back gives the number, and there
-- are few of them. Assumes nothing.
use Prim.Native.Nat.{ℕ, zero, suc, ◌+◌, ◌-◌, ◌*◌, ◌/◌, ◌%◌, ◌^◌, ◌≤◌, ◌<◌}
use native.Mathlib.Omega.{arith}
use native.Mathlib.Nat.{pow-zero, pow-suc, one-le-pow, pow-le-pow_right, le_of_suc-le-suc, lt_of_not-le}
use mathlib.Core.Path.{◌≡◌, refl, subst, ◌∙◌}
use mathlib.Core.Bool.{Bool, true, false, cond}
use mathlib.Core.List.{List, [], ◌∷◌, ◌++◌}
use lib.Dec.{ltb}
use lib.ListN.{length, take, length-append}
use borrow.Author.Tests.{lt-ltb, le-ltb, ltb-true, ltb-false}
use Rattle.io.specs.Digits.{hex_digit_ascii, last_digits, IsDigitCount}
use Rattle.format.specs.Text.{digit_byte, digits_in, decimal, read_on, read_back}

-- ---- the code's digits

last_glyph : (n : ℕ) → hex_digit_ascii (n % 10) ≡ digit_byte (n % 10)
last_glyph n = let small : n % 10 < 10 = omega arith in rw (lt-ltb (n % 10) 10 small)

spelled : (k most n : ℕ) → IsDigitCount 10 1 n k → k ≤ most → last_digits 10 k n ≡ digits_in most n
unfolding digits_in
spelled zero most n few h = absurd (omega (arith, few.0))
spelled (suc k) zero n few h = absurd (omega arith)
spelled (suc zero) (suc most) n few h =
    let ten = pow-suc 10 0 in
    let one = pow-zero 10 in
    let small : n < 10 = omega (arith, few.1) in
    rw (lt-ltb n 10 small, last_glyph n)
spelled (suc (suc k)) (suc most) n few h =
    let ten = pow-suc 10 (suc k) in
    let tens = pow-suc 10 k in
    let some : 1 ≤ 10 ^ k = one-le-pow k 10 (omega arith) in
    let less : n < 10 ^ suc (suc k) = few.1 in
    let one_less : suc (suc k) - 1 ≡ suc k = omega arith in
    let more : 10 ^ suc k ≤ n = subst (λ (j : ℕ). 10 ^ j ≤ n) one_less (few.2 (omega arith)) in
    let large : 10 ≤ n = omega arith in
    let less_one : suc k - 1 ≡ k = omega arith in
    let before : last_digits 10 (suc k) (n / 10) ≡ digits_in most (n / 10) = spelled (suc k) most (n / 10) (omega arith, omega arith, λ j. rw less_one (omega arith)) (omega arith) in
    rw (le-ltb n 10 large, last_glyph n, before)

-- a number of 64 bits wants no more than 20
not_more : (k n : ℕ) → IsDigitCount 10 1 n k → n < 2 ^ 64 → 20 < k → ⊥
not_more k n few h over =
    let most : 10 ^ 20 ≤ 10 ^ (k - 1) = let long : 20 ≤ k - 1 = omega arith in pow-le-pow_right {n = 10} (omega arith) long in
    let more : 10 ^ (k - 1) ≤ n = few.2 (omega arith) in
    omega arith

spelled_whole : (k n : ℕ) → IsDigitCount 10 1 n k → n < 2 ^ 64 → last_digits 10 k n ≡ decimal n
unfolding decimal
spelled_whole k n few h = spelled k 20 n few (le_of_suc-le-suc (lt_of_not-le (not_more k n few h)))

-- what `io::decimal` puts into an array
pub decimal_made : (k n : ℕ) (digits : List ℕ) → IsDigitCount 10 1 n k → take k digits ≡ last_digits 10 k n → n < 2 ^ 64 → take k digits ≡ decimal n
decimal_made k n digits few told h = told ∙ spelled_whole k n few h

-- ---- reading back

read_last : (m : ℕ) (bs : List ℕ) (d : ℕ) → read_on m (bs ++ (digit_byte d ∷ [])) ≡ 10 * read_on m bs + d
read_last m [] d = omega arith
read_last m (b ∷ bs) d = read_last (10 * m + (b - digit_byte 0)) bs d

-- by whether n is below 10
read_step : (n : ℕ) (before : List ℕ) (t : Bool) → ltb n 10 ≡ t → read_back before ≡ n / 10 → read_back (cond t [] before ++ (digit_byte (n % 10) ∷ [])) ≡ n
read_step n before true e h = let small = ltb-true n 10 e in omega arith
read_step n before false e h = let last = read_last 0 before (n % 10) in omega arith

read_digits : (most n : ℕ) → n < 10 ^ most → read_back (digits_in most n) ≡ n
unfolding digits_in
read_digits zero n h = let one = pow-zero 10 in omega arith
read_digits (suc most) n h =
    let ten = pow-suc 10 most in
    read_step n (digits_in most (n / 10)) (ltb n 10) refl (read_digits most (n / 10) (omega arith))

-- Reading a number's digits back gives the number, for every number of 64 bits.
pub decimal_back : (n : ℕ) → n < 2 ^ 64 → read_back (decimal n) ≡ n
unfolding decimal
decimal_back n h = read_digits 20 n (omega arith)

-- ---- how many there are

few_step : (n k : ℕ) (before : List ℕ) (t : Bool) → ltb n 10 ≡ t → n < 10 ^ suc k → ((j : ℕ) → k ≡ suc j → length before ≤ k) → length (cond t [] before ++ (digit_byte (n % 10) ∷ [])) ≤ suc k
few_step n k before true e h few = omega arith
few_step n zero before false e h few =
    let ten = pow-suc 10 0 in
    let one = pow-zero 10 in
    let large = ltb-false n 10 e in
    absurd (omega arith)
few_step n (suc k) before false e h few =
    let some = few k refl in
    let both = length-append before (digit_byte (n % 10) ∷ []) in
    omega arith

digits_few : (most k n : ℕ) → n < 10 ^ suc k → length (digits_in most n) ≤ suc k
unfolding digits_in
digits_few zero k n h = omega arith
digits_few (suc most) zero n h = few_step n zero (digits_in most (n / 10)) (ltb n 10) refl h (λ j e. absurd (omega arith))
digits_few (suc most) (suc k) n h =
    let ten = pow-suc 10 (suc k) in
    few_step n (suc k) (digits_in most (n / 10)) (ltb n 10) refl h (λ j e. digits_few most k (n / 10) (omega arith))

pub decimal_few : (k n : ℕ) → n < 10 ^ suc k → length (decimal n) ≤ suc k
unfolding decimal
decimal_few k n h = digits_few 20 k n h

most_step : (before : List ℕ) (t : Bool) (d k : ℕ) → length before ≤ k → length (cond t [] before ++ (d ∷ [])) ≤ suc k
most_step before true d k h = omega arith
most_step before false d k h = let both = length-append before (d ∷ []) in omega arith

digits_most : (most n : ℕ) → length (digits_in most n) ≤ most
unfolding digits_in
digits_most zero n = omega arith
digits_most (suc most) n = most_step (digits_in most (n / 10)) (ltb n 10) (digit_byte (n % 10)) most (digits_most most (n / 10))

pub decimal_most : (n : ℕ) → length (decimal n) ≤ 20
unfolding decimal
decimal_most n = digits_most 20 n
