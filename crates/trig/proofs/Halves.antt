-- y to the nearest whole number, a half away from zero, by the size of y: what `marked` adds to the mark where y may
-- lie half-way between two. Assumes nothing.
use Rattle.std.proofs.Common.{◌≡◌, ℕ, ◌+◌, ◌*◌, ◌^◌, ◌<◌, ◌≤◌, Bool, true, false, cond, not, T, ℤ, pos, sym, refl, ap, ◌∙◌, zero-le, arith, nltb→le, T_not}
use native.Mathlib.Nat.{div-eq_of_lt}
use lib.Ieee.{Float, nan, inf, fin, binary64, up, down, round, neg, lt, le, of_int, fits}
use lib.Ieee.Fits.{down_pos}
use Rattle.float.specs.Ops.{of, ◌⊕◌}
use Rattle.float.specs.Compare.{abs_of}
use Rattle.float.specs.Whole.{half_up, round_of, whole_by}
use Rattle.float.proofs.Divided.{plus_fits}
use Rattle.float.proofs.Exactly.{neg_round}
use Rattle.float.proofs.Compared.{nought, yes}
use Rattle.float.proofs.Sums.{not_under}
use Rattle.float.proofs.Cuts.{bounced, gap}
use Rattle.float.proofs.Wholes.{half, small_fin}
use Rattle.trig.proofs.Marks.{mark, top_bound, whole_plus}

chosen : (b : Bool) (x y z : Float) → (T b → x ≡ z) → (T (not b) → y ≡ z) → cond b x y ≡ z
chosen true x y z f g = f tt
chosen false x y z f g = g tt

-- ---- the size
pub nearest_is : (y : Float) → T (fits binary64 y) → le (abs_of y) (of 8191) ≡ true → cond (le half (gap (abs_of y))) (bounced (abs_of y) ⊕ fin false 1 (pos 0)) (bounced (abs_of y)) ≡ round_of (abs_of y)
unfolding abs_of le of_int round_of
nearest_is nan t h = absurd (yes h)
nearest_is (inf s) t h = absurd (yes h)
nearest_is (fin s m e) t h =
    let below : m * up e < 2 ^ 52 * down e = omega (arith, top_bound m e (yes h), down_pos e) in
    let w = small_fin m e (plus_fits s m e t) below in
    chosen (le half (gap (fin false m e))) _ _ _ w.near_more w.near_same

-- ---- with the sign of y; the sum with the mark is one for either zero
either_zero : (n : ℕ) → n ≡ 0 → round binary64 false n 1 ⊕ mark ≡ round binary64 true n 1 ⊕ mark
either_zero n e = rw e ((whole_plus false 0 zero-le).0 ∙ sym (whole_plus true 0 zero-le).0)

none : (m : ℕ) (e : ℤ) → T (not (lt (fin true m e) nought)) → half_up (m * up e) (down e) ≡ 0
unfolding lt
none m e h = go (m * up e) (down e) (down_pos e) (nltb→le 0 (m * up e * 1 + 0 * 1 * down e) h)
  where
    go : (a c : ℕ) → 0 < c → a * 1 + 0 * 1 * c ≤ 0 → half_up a c ≡ 0
    go a c C k = div-eq_of_lt (omega arith)

pub halves : (y : Float) → le (abs_of y) (of 8191) ≡ true → cond (lt y nought) (neg (round_of (abs_of y))) (round_of (abs_of y)) ⊕ mark ≡ round_of y ⊕ mark
unfolding abs_of le of_int round_of whole_by
halves nan h = absurd (yes h)
halves (inf s) h = absurd (yes h)
halves (fin false m e) h =
    ap (λ (z : Float). z ⊕ mark)
    (chosen (lt (fin false m e) nought) _ _ _ (λ t. absurd (T_not (lt (fin false m e) nought) (not_under (fin false m e) (m * up e) (down e) (refl, refl)) t)) (λ t. refl))
halves (fin true m e) h = go (lt (fin true m e) nought) (none m e)
  where
    go : (b : Bool) → (T (not b) → half_up (m * up e) (down e) ≡ 0) →
        cond b (neg (round binary64 false (half_up (m * up e) (down e)) 1)) (round binary64 false (half_up (m * up e) (down e)) 1) ⊕ mark ≡ round binary64 true (half_up (m * up e) (down e)) 1 ⊕ mark
    go true z = ap (λ (x : Float). x ⊕ mark) (neg_round binary64 false (half_up (m * up e) (down e)) 1)
    go false z = either_zero (half_up (m * up e) (down e)) (z tt)
