-- The sign of an entry of the sine table, set in its bit pattern. Assumes nothing.
use Rattle.std.proofs.Common.{◌≡◌, ℕ, ◌+◌, ◌*◌, ◌^◌, ◌<◌, Bool, true, false, cond, not, T, get_or, ℤ, sym, refl, ap, ◌∙◌, inl, inr, add-zero, arith, lit<, lit≤}
use lib.Ieee.{inf, fin, binary64, round, neg, is_nan, of_bits, to_bits, nan_bits}
use lib.Ieee.Bits.{of_bits-to_bits, to_bits-lt, nan_bits_is}
use lib.Ieee.Fits.{round-fits}
use Rattle.float.proofs.Intervals.{round_number}
use Rattle.float.proofs.Exactly.{neg_round}
use Rattle.float.proofs.Counts.{whole_value}
use Rattle.float.proofs.Sums.{div_over}
use Rattle.trig.specs.Sine.{sine_table}
use Rattle.trig.specs.Circle.{entry_of}
use Rattle.trig.proofs.Fractions.{shape}
use Rattle.trig.proofs.Rules.{sine_small}

-- ---- a fraction rounded with either sign: the patterns differ in the sign's bit
set_fin : (m : ℕ) (e : ℤ) → to_bits binary64 (fin true m e) ≡ to_bits binary64 (fin false m e) + 2 ^ 63
unfolding to_bits
set_fin m e = omega arith

set_inf : to_bits binary64 (inf true) ≡ to_bits binary64 (inf false) + 2 ^ 63
unfolding to_bits
set_inf = refl

set_bit : (a c : ℕ) → to_bits binary64 (round binary64 true a c) ≡ to_bits binary64 (round binary64 false a c) + 2 ^ 63
set_bit a c =
    elim (shape binary64 a c) [
      | inl w ↦ rw (w.2 true, w.2 false) (set_fin w.0 w.1)
      | inr w ↦ rw (w true, w false) set_inf
    ]

low_bits : (a c : ℕ) → to_bits binary64 (round binary64 false a c) < 2 ^ 63
low_bits a c = let h : to_bits binary64 (round binary64 true a c) < 2 ^ 64 = to_bits-lt binary64 (round binary64 true a c) (round-fits binary64 true a c) in omega (arith, set_bit a c)

signed : (a c : ℕ) (b : Bool) → of_bits binary64 (to_bits binary64 (round binary64 false a c) + cond b 0 (2 ^ 63)) ≡ cond b (round binary64 false a c) (neg (round binary64 false a c))
signed a c true = ap (of_bits binary64) (add-zero (to_bits binary64 (round binary64 false a c))) ∙ of_bits-to_bits binary64 (round binary64 false a c) (round-fits binary64 false a c)
signed a c false = ap (of_bits binary64) (sym (set_bit a c)) ∙ of_bits-to_bits binary64 (round binary64 true a c) (round-fits binary64 true a c) ∙ sym (neg_round binary64 false a c)

signed_no_nan : (a c : ℕ) (b : Bool) → T (not (is_nan (cond b (round binary64 false a c) (neg (round binary64 false a c)))))
signed_no_nan a c true = round_number false a c
signed_no_nan a c false = rw (neg_round binary64 false a c) (round_number true a c)

low_room : {n : ℕ} → n < 2 ^ 63 → (b : Bool) → n + cond b 0 (2 ^ 63) < 2 ^ 64
low_room h true = omega arith
low_room h false = omega arith

-- ---- an entry is one
entry_round : (k : ℕ) → k < 1025 → entry_of k ≡ round binary64 false (get_or sine_table k 0 * 1) (2 ^ 52 * 1)
entry_round k h =
    div_over binary64 _ _ false false (get_or sine_table k 0) 1 (2 ^ 52) 1 (lit< tt) (lit< tt) (lit< tt) (whole_value binary64 (get_or sine_table k 0) (sine_small k h)) (whole_value binary64 (2 ^ 52) (lit≤ tt))

module _ (k : ℕ) (h : k < 1025) where
  pub entry_number : T (not (is_nan (entry_of k)))
  entry_number = rw (entry_round k h) (round_number false (get_or sine_table k 0 * 1) (2 ^ 52 * 1))

  pub entry_room : (b : Bool) → to_bits binary64 (entry_of k) + cond b 0 (2 ^ 63) < 2 ^ 64
  entry_room b = rw (entry_round k h) (low_room (low_bits (get_or sine_table k 0 * 1) (2 ^ 52 * 1)) b)

  pub entry_signed : (b : Bool) → of_bits binary64 (to_bits binary64 (entry_of k) + cond b 0 (2 ^ 63)) ≡ cond b (entry_of k) (neg (entry_of k))
  entry_signed b = rw (entry_round k h) (signed (get_or sine_table k 0 * 1) (2 ^ 52 * 1) b)

  pub entry_pattern : (b : Bool) → T (not (nan_bits binary64 (to_bits binary64 (entry_of k) + cond b 0 (2 ^ 63))))
  entry_pattern b = rw (nan_bits_is, entry_signed b, entry_round k h) (signed_no_nan (get_or sine_table k 0 * 1) (2 ^ 52 * 1) b)
