-- Floor, ceil and round lose nothing to the format: of a value that the format holds, the whole number is held too.
use Rattle.std.proofs.Common.{◌≡◌, ℕ, suc, ◌*◌, ◌^◌, ◌<◌, ◌≤◌, Bool, T, ℤ, pos, negsuc, sym, refl, subst, le_trans, le_of_eq, lt_of_le_of_lt, le_antisymm, arith, lit<, lit≤, pow_pos}
use lib.Ieee.{Float, nan, inf, fin, binary64, up, down, round, fits}
use lib.Ieee.Fits.{down_pos}
use lib.Ieee.Exact.{HasValue}
use Rattle.float.proofs.Exactly.{fits_parts, few_exact, round_self}
use Rattle.float.specs.Whole.{half_up, floor_of, ceil_of, round_of}
use Rattle.float.proofs.Picks.{Steps, stays, wholly, floor_pick, ceil_pick, round_pick, floor_steps, ceil_steps, round_steps, floor_is, ceil_is, round_is}

pub whole_exact : (pick : ℕ → ℕ → ℕ) → Steps pick → (s : Bool) (m : ℕ) (e : ℤ) → T (fits binary64 (fin s m e)) → HasValue (round binary64 s (pick (m * up e) (down e)) 1) s (pick (m * up e) (down e)) 1
whole_exact pick i s m (pos l) t =
    let p : pick (m * 2 ^ l) 1 ≡ m * 2 ^ l = stays pick i (m * 2 ^ l) in
    subst (λ (n : ℕ). HasValue (round binary64 s n 1) s n 1) (sym p)
    (subst (λ (x : Float). HasValue x s (m * 2 ^ l) 1) (sym (round_self binary64 s m (pos l) t)) (refl, refl))
whole_exact pick i s m (negsuc l) t =
    let few = (fits_parts binary64 s m (negsuc l) t).0 in
    let top : pick (m * 1) (2 ^ suc l) ≤ 0x1f_ffff_ffff_ffff =
    le_trans (i.mono (m * 1) (2 ^ suc l) 0x1f_ffff_ffff_ffff 1 (pow_pos (suc l)) (lit< tt) (omega (arith, few, pow_pos (suc l)))) (le_of_eq (stays pick i 0x1f_ffff_ffff_ffff)) in
    few_exact binary64 s (pick (m * 1) (2 ^ suc l)) (pos 0) (lit≤ tt) (lt_of_le_of_lt top (lit< tt))

-- ---- floor, ceil and round of a value x = ± a / c: exactly the whole number that each picks, with the sign of x

exactly : (pick : Bool → ℕ → ℕ → ℕ) → ((s : Bool) → Steps (pick s)) → (x : Float) (s : Bool) (a c : ℕ) → 0 < c → T (fits binary64 x) → HasValue x s a c → HasValue (wholly pick x) s (pick s a c) 1
unfolding wholly
exactly pick i nan s a c C t v = absurd v
exactly pick i (inf u) s a c C t v = absurd v
exactly pick i (fin u m e) s a c C t v =
    let same : pick s (m * up e) (down e) ≡ pick s a c =
    le_antisymm ((i s).mono (m * up e) (down e) a c (down_pos e) C (le_of_eq v.1)) ((i s).mono a c (m * up e) (down e) C (down_pos e) (le_of_eq (sym v.1))) in
    subst (λ (n : ℕ). HasValue (round binary64 u (pick u (m * up e) (down e)) 1) s n 1) same
    (subst (λ (z : Bool). HasValue (round binary64 u (pick u (m * up e) (down e)) 1) z (pick z (m * up e) (down e)) 1) v.0 (whole_exact (pick u) (i u) u m e t))

pub floor_exact : (x : Float) (s : Bool) (a c : ℕ) → 0 < c → T (fits binary64 x) → HasValue x s a c → HasValue (floor_of x) s (floor_pick s a c) 1
floor_exact x s a c C t v = subst (λ (y : Float). HasValue y s (floor_pick s a c) 1) (sym (floor_is x)) (exactly floor_pick floor_steps x s a c C t v)

pub ceil_exact : (x : Float) (s : Bool) (a c : ℕ) → 0 < c → T (fits binary64 x) → HasValue x s a c → HasValue (ceil_of x) s (ceil_pick s a c) 1
ceil_exact x s a c C t v = subst (λ (y : Float). HasValue y s (ceil_pick s a c) 1) (sym (ceil_is x)) (exactly ceil_pick ceil_steps x s a c C t v)

pub nearest_exact : (x : Float) (s : Bool) (a c : ℕ) → 0 < c → T (fits binary64 x) → HasValue x s a c → HasValue (round_of x) s (half_up a c) 1
nearest_exact x s a c C t v = subst (λ (y : Float). HasValue y s (half_up a c) 1) (sym (round_is x)) (exactly round_pick round_steps x s a c C t v)
