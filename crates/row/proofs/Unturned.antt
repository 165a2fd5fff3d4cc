-- At carrier 0 nothing is turned: the rotor is (1, 0) at every sample (`rotor_unturned`), and at −0 too
-- (`rotor_still`), so that a mean needs no sine and no cosine (`mean_still`, `means_still`). Assumes nothing.
use Prim.Native.Nat.{ℕ, ◌+◌, ◌*◌, ◌^◌, ◌≤◌}
use native.Mathlib.Nat.{zero-mul, mul-one}
use native.Mathlib.Omega.{arith}
use mathlib.Core.Path.{◌≡◌, refl, sym, ap, ◌∙◌}
use mathlib.Core.Bool.{Bool, true, false, false≢true, ◌||◌, beq}
use mathlib.Core.List.{List}
use borrow.Author.Tests.{eqb-true}
use lib.Dec.{eqb, lit<}
use lib.ListN.{length}
use lib.Ieee.{Float, nan, inf, fin, binary64, add, sub, mul, div, rem, neg, lt, le, eq, of_int, of_bits, to_signed, round, up, down, unlike}
use lib.IntN.{pos}
use lib.Ieee.Exact.{HasValue}
use Rattle.float.specs.Ops.{◌⊗◌, of, one, plus_zero, fraction}
use Rattle.float.specs.Compare.{abs_of}
use Rattle.float.specs.Whole.{round_of}
use Rattle.float.specs.Remainder.{rem_euclid_of}
use Rattle.float.proofs.Counts.{whole_mul, whole_value}
use Rattle.float.proofs.Sums.{mul_over}
use Rattle.lists.proofs.Every.{and_left}
use Rattle.trig.specs.Consts.{PI, TAU}
use Rattle.trig.specs.Sine.{sine_table}
use Rattle.trig.specs.Circle.{sine_at, within, sin_of, cos_of}
use Rattle.trig.proofs.Edges.{sin_zero, cos_zero}
use Rattle.complex.specs.declared.value.Complex.{Complex}
use Rattle.complex.specs.Value.{c_new, c_mul, c_conj, c_div}
use Rattle.complex.specs.Rows.{z_at, z_fill}
use Rattle.complex.proofs.RowLaws.{c_sum_cong, z_fill_cong}
use Rattle.row.specs.Window.{blocks}
use Rattle.row.specs.Samples.{Iq}
use Rattle.row.specs.Blocks.{rotor_of, derot, mean_from, block_mean}
use Rattle.row.specs.Inner.{still_turn, times, mean_times}
use Rattle.row.proofs.Means.{block_fits}

phase_zero : rem_euclid_of (of 0) one ⊗ TAU ≡ of 0
unfolding rem_euclid_of rem lt add mul abs_of TAU fraction round of_int of_bits
phase_zero = refl

pub rotor_unturned : (k : ℕ) → k ≤ 2 ^ 53 → rotor_of (of 0) k ≡ c_new (of 1) (of 0)
unfolding rotor_of
rotor_unturned k h = rw (whole_mul binary64 0 k (omega arith) h, zero-mul k, phase_zero, cos_zero, sin_zero)

-- ---- the same rotor for all samples
-- 0 and −0 are 0 in size
zero_value : (x : Float) → eq x plus_zero ≡ true → (s : Bool) × HasValue x s 0 1
unfolding eq of_bits
zero_value nan h = absurd (false≢true h)
zero_value (inf s) h = absurd (false≢true h)
zero_value (fin s m e) h =
    let a = m * up e * down (pos 0) in
    let q : a ≡ 0 * up (pos 0) * down e = eqb-true a (0 * up (pos 0) * down e) (and_left (eqb a (0 * up (pos 0) * down e)) (beq s false || eqb a 0) h) in
    (s, (refl, omega (arith, q, zero-mul (up (pos 0)), zero-mul (down e), mul-one (m * up e))))

-- the rotor where cyc × k is 0 or −0
still : (s : Bool) →
    let ph = rem_euclid_of (round binary64 (unlike s false) 0 1) one ⊗ TAU in
    c_new (cos_of ph) (sin_of ph) ≡ c_new (of 1) (of 0)
unfolding rem_euclid_of rem lt add sub mul div neg le abs_of round_of TAU PI fraction round of_int of_bits to_signed sin_of cos_of sine_at within sine_table
still false = refl
still true = refl

pub rotor_still : (cyc : Float) → eq cyc plus_zero ≡ true → (k : ℕ) → k ≤ 2 ^ 53 → rotor_of cyc k ≡ c_new (of 1) (of 0)
unfolding rotor_of
rotor_still cyc h k K = let z = zero_value cyc h in rw (turn z k K) (still z.0)
  where
    turn : (z : (s : Bool) × HasValue cyc s 0 1) (k : ℕ) → k ≤ 2 ^ 53 → cyc ⊗ of k ≡ round binary64 (unlike z.0 false) 0 1
    turn z k K = mul_over binary64 cyc (of k) z.0 false 0 1 k 1 (lit< tt) (lit< tt) z.1 (whole_value binary64 k K) ∙ rw (zero-mul k)

pub mean_still : (iq : List Float) (cyc : Float) (a len : ℕ) → eq cyc plus_zero ≡ true → a + len ≤ 2 ^ 53 → mean_times iq still_turn a len ≡ mean_from iq cyc a len
unfolding mean_times mean_from derot
mean_still iq cyc a len h f =
    ap (λ (z : Complex). c_div z (of len))
    (c_sum_cong (times iq still_turn) (derot iq cyc) a len (λ k b. ap (λ (z : Complex). c_mul (z_at iq k) (c_conj z)) (sym (rotor_still cyc h k (omega arith)))))

pub means_still : (iq out : List Float) (cyc : Float) (len : ℕ) → eq cyc plus_zero ≡ true → Iq iq →
    z_fill out 0 (λ b. mean_times iq still_turn (b * len) len) (blocks iq len) ≡ z_fill out 0 (block_mean iq cyc len) (blocks iq len)
unfolding block_mean
means_still iq out cyc len h q =
    z_fill_cong out 0 (λ b. mean_times iq still_turn (b * len) len) (block_mean iq cyc len) (blocks iq len)
    (λ b g. mean_still iq cyc (b * len) len h (omega (arith, block_fits (length iq) len b g, q.short)))
