-- The table of a quarter serves the whole turn: where the code looks, and with which sign, is the quarter symmetry of
-- `sine_at`, and 1,024 places further within a turn is i + 1024. Assumes nothing.
use Rattle.std.proofs.Common.{◌≡◌, ℕ, suc, ◌+◌, ◌-◌, ◌*◌, ◌%◌, ◌<◌, ◌≤◌, Bool, true, false, cond, not, ◌&&◌, ◌||◌, T, eqb, ltb, leb, ℤ, pos, negsuc, ◌+ℤ◌, sym, refl, ap, arith, eqb→eq, ltb→lt, leb→le, nltb→le, lt-ltb}
use lib.Dec.{nleb→lt}
use lib.Ieee.{Float, nan, inf, fin, up, down, neg, lt, le, eq}
use lib.Ieee.Fits.{down_pos, eq→eqb}
use Rattle.std.proofs.Math.Bool.{and-true}
use Rattle.float.specs.Compare.{abs_of}
use Rattle.float.proofs.Compared.{same_truth}
use Rattle.trig.specs.Circle.{entry_of, sine_at, within}
use Rattle.trig.specs.Inner.{folded}

-- ---- the place in the first quarter
either : (b : Bool) (x y z : ℕ) → (T b → x ≡ z) → (T (not b) → y ≡ z) → cond b x y ≡ z
either true x y z f g = f tt
either false x y z f g = g tt

folded_is : (p z : ℕ) → (p % 2048 ≤ 1024 → p % 2048 ≡ z) → (1024 < p % 2048 → 2048 - p % 2048 ≡ z) → folded p ≡ z
folded_is p z f g = either (leb (p % 2048) 1024) (p % 2048) (2048 - p % 2048) z (λ t. f (leb→le (p % 2048) 1024 t)) (λ t. g (nleb→lt (p % 2048) 1024 t))

first : (p : ℕ) → p ≤ 1024 → folded p ≡ p
first p h = folded_is p p (λ k. omega arith) (λ k. omega arith)

second : (p : ℕ) → 1024 < p → p ≤ 2048 → folded p ≡ 2048 - p
second p h l = folded_is p (2048 - p) (λ k. omega arith) (λ k. omega arith)

third : (p : ℕ) → 2048 < p → p ≤ 3072 → folded p ≡ p - 2048
third p h l = folded_is p (p - 2048) (λ k. omega arith) (λ k. omega arith)

fourth : (p : ℕ) → 3072 < p → p < 4096 → folded p ≡ 4096 - p
fourth p h l = folded_is p (4096 - p) (λ k. omega arith) (λ k. omega arith)

pub quarters : (p : ℕ) → p < 4096 → cond (leb p 2048) (entry_of (folded p)) (neg (entry_of (folded p))) ≡ sine_at p
unfolding sine_at
quarters p h = go (leb p 1024) (leb p 2048) (leb p 3072) (leb→le p 1024) (nleb→lt p 1024) (leb→le p 2048) (nleb→lt p 2048) (leb→le p 3072) (nleb→lt p 3072)
  where
    go : (a b c : Bool) → (T a → p ≤ 1024) → (T (not a) → 1024 < p) → (T b → p ≤ 2048) → (T (not b) → 2048 < p) → (T c → p ≤ 3072) → (T (not c) → 3072 < p) →
        cond b (entry_of (folded p)) (neg (entry_of (folded p))) ≡ cond a (entry_of p) (cond b (entry_of (2048 - p)) (cond c (neg (entry_of (p - 2048))) (neg (entry_of (4096 - p)))))
    go true true c i j k l m n = ap entry_of (first p (i tt))
    go true false c i j k l m n = absurd (omega (arith, i tt, l tt))
    go false true c i j k l m n = ap entry_of (second p (j tt) (k tt))
    go false false true i j k l m n = ap (λ (z : ℕ). neg (entry_of z)) (third p (l tt) (m tt))
    go false false false i j k l m n = ap (λ (z : ℕ). neg (entry_of z)) (fourth p (n tt) h)

-- ---- a quarter of a turn further
pub mirrored : (p : ℕ) → p < 4096 → 1024 - folded p ≡ folded ((p + 1024) % 4096)
mirrored p h = go (leb p 1024) (leb p 2048) (leb p 3072) (leb→le p 1024) (nleb→lt p 1024) (leb→le p 2048) (nleb→lt p 2048) (leb→le p 3072) (nleb→lt p 3072)
  where
    to : (y z : ℕ) → folded p ≡ y → (let q = (p + 1024) % 4096 in q % 2048 ≤ 1024 → q % 2048 ≡ z) → (let q = (p + 1024) % 4096 in 1024 < q % 2048 → 2048 - q % 2048 ≡ z) → 1024 - y ≡ z → 1024 - folded p ≡ folded ((p + 1024) % 4096)
    to y z e f g d = rw (e, folded_is ((p + 1024) % 4096) z f g) d

    go : (a b c : Bool) → (T a → p ≤ 1024) → (T (not a) → 1024 < p) → (T b → p ≤ 2048) → (T (not b) → 2048 < p) → (T c → p ≤ 3072) → (T (not c) → 3072 < p) →
        1024 - folded p ≡ folded ((p + 1024) % 4096)
    go true b c i j k l m n = let x = i tt in to p (1024 - p) (first p x) (λ g. omega arith) (λ g. omega arith) refl
    go false true c i j k l m n = let x = j tt in let y = k tt in to (2048 - p) (p - 1024) (second p x y) (λ g. omega arith) (λ g. omega arith) (omega arith)
    go false false true i j k l m n = let x = l tt in let y = m tt in to (p - 2048) (3072 - p) (third p x y) (λ g. omega arith) (λ g. omega arith) (omega arith)
    go false false false i j k l m n = let x = n tt in to (4096 - p) (p - 3072) (fourth p x h) (λ g. omega arith) (λ g. omega arith) (omega arith)

pub further : (i : ℤ) → within (i +ℤ pos 1024) ≡ (within i + 1024) % 4096
unfolding within
further (pos n) = omega arith
further (negsuc n) = go (ltb 1024 (suc n)) (ltb→lt 1024 (suc n)) (nltb→le 1024 (suc n))
  where
    go : (b : Bool) → (T b → 1024 < suc n) → (T (not b) → suc n ≤ 1024) → within (cond b (negsuc (suc n - suc 1024)) (pos (1024 - suc n))) ≡ (4095 - n % 4096 + 1024) % 4096
    go true h k = omega (arith, h tt)
    go false h k = omega (arith, k tt)

-- ---- |x| ≤ 7 by two tests
flip : (a b : ℕ) → eqb a b ≡ eqb b a
flip a b = same_truth (eqb a b) (eqb b a) (λ t. eq→eqb (sym (eqb→eq a b t))) (λ t. eq→eqb (sym (eqb→eq b a t)))

mirror : (m : ℕ) (e : ℤ) → le (fin true 7 (pos 0)) (fin true m e) ≡ le (fin false m e) (fin false 7 (pos 0))
unfolding le lt eq
mirror m e = ap (λ (b : Bool). ltb (m * up e * 1) (7 * 1 * down e) || (b && true)) (flip (7 * 1 * down e) (m * up e * 1))

passes : (m : ℕ) (e : ℤ) → (le (fin true 7 (pos 0)) (fin false m e) ≡ true) × (le (fin true m e) (fin false 7 (pos 0)) ≡ true)
unfolding le lt eq
passes m e = (
  ap (λ (b : Bool). b || (eqb (7 * 1 * down e) (m * up e * 1) && eqb (7 * 1 * down e) 0)) (lt-ltb 0 (7 * 1 * down e + m * up e * 1) (omega (arith, down_pos e))),
  ap (λ (b : Bool). b || (eqb (m * up e * 1) (7 * 1 * down e) && eqb (m * up e * 1) 0)) (lt-ltb 0 (m * up e * 1 + 7 * 1 * down e) (omega (arith, down_pos e))),
)

pub two_tests : (x : Float) → le (abs_of x) (fin false 7 (pos 0)) ≡ le x (fin false 7 (pos 0)) && le (fin true 7 (pos 0)) x
unfolding abs_of le
two_tests nan = refl
two_tests (inf true) = refl
two_tests (inf false) = refl
two_tests (fin true m e) = rw ((passes m e).1, mirror m e) refl
two_tests (fin false m e) = rw (passes m e).0 (sym (and-true (le (fin false m e) (fin false 7 (pos 0)))))
