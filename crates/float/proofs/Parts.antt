-- Parts of a whole number b: f64 values that are finite and lie from 0 to b, where a zero has either sign. A fraction
-- from 0 to b is rounded to one (`round_part`), and a part of 1, times b, is one (`part_mul`). Assumes nothing.
use Rattle.std.proofs.Common.{◌≡◌, ℕ, ◌*◌, ◌^◌, ◌<◌, ◌≤◌, Bool, true, false, refl, ap, ◌∙◌, mul-le-mul_right, zero-mul, arith, lit<, lit≤}
use lib.Ieee.{Float, nan, inf, fin, binary64, unlike, up, down, round}
use lib.Ieee.Fits.{down_pos}
use lib.Ieee.Exact.{HasValue}
use Rattle.float.specs.Ops.{◌⊗◌, of}
use Rattle.float.proofs.Sums.{mul_over}
use Rattle.float.proofs.Counts.{whole_value}
use Rattle.float.proofs.Signs.{Signed, round_signed}
use Rattle.float.proofs.Bounds.{Bounded, round_bounded}

-- x is n / d in size, at most b, and not below zero: with the sign minus it is a zero
pub record Part (b : ℕ) (x : Float) : Type 0 where
  pub sign : Bool
  pub n : ℕ
  pub d : ℕ
  pub some : 0 < d
  pub value : HasValue x sign n d
  pub most : n ≤ b * d
  pub clear : sign ≡ true → n ≡ 0

part_of : (b : ℕ) (s : Bool) (x : Float) → Signed s x → Bounded 0 b x → (s ≡ true → Bounded 0 0 x) → Part b x
part_of b s nan p h g = absurd p
part_of b s (inf t) p h g = absurd h.bound
part_of b s (fin t m e) p h g =
    let l = h.bound in
    record { sign = s; n = m * up e; d = down e; some = down_pos e; value = (p, refl); most = omega arith; clear = λ q. let z = (g q).bound in omega arith }

-- no number of parts, rounded
pub round_none : (s : Bool) (n d : ℕ) → 0 < d → n ≡ 0 → Bounded 0 0 (round binary64 s n d)
round_none s n d D e = round_bounded 0 0 s n d D (lit≤ tt) (lit≤ tt) (omega arith)

pub round_part : (b : ℕ) (s : Bool) (n d : ℕ) → 0 < d → b ≤ 2 ^ 53 → n ≤ b * d → (s ≡ true → n ≡ 0) → Part b (round binary64 s n d)
round_part b s n d D h l z =
    part_of b s (round binary64 s n d) (round_signed binary64 s n d) (round_bounded 0 b s n d D h (lit≤ tt) (omega arith)) (λ e. round_none s n d D (z e))

-- a part of 1, times b
pub part_mul : (b : ℕ) (x : Float) → b ≤ 2 ^ 53 → Part 1 x → Part b (x ⊗ of b)
part_mul b x h p =
    let some = p.some in
    let most = mul-le-mul_right b p.most in
    rw (mul_over binary64 x (of b) p.sign false p.n p.d b 1 some (lit< tt) p.value (whole_value binary64 b h))
    (round_part b (unlike p.sign false) (p.n * b) (p.d * 1) (omega arith) h (omega arith) (λ e. ap (λ (z : ℕ). z * b) (p.clear (same p.sign e)) ∙ zero-mul b))
  where
    same : (s : Bool) → unlike s false ≡ true → s ≡ true
    same true e = refl
    same false e = e
