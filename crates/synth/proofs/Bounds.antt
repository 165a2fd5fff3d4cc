-- How large a synthesis can be, so that it is finite: the envelope at most 2 ^ 52 at any time, a NaN and the infinities
-- included (`envelope_bounded`), and each part of the synthesis at most 2 ^ 103 times the gain (`synth_bounded`).
use Prim.Native.Nat.{ℕ, ◌+◌, ◌*◌, ◌^◌, ◌≤◌}
use native.Mathlib.Nat.{le_trans, le_of_eq, one-mul}
use mathlib.Core.Path.{sym, ap}
use mathlib.Core.Bool.{Bool, true, false, cond}
use lib.Dec.{T, lit≤}
use lib.Ieee.{Float, nan, inf, fin, le, eq, neg, down, of_bits}
use Rattle.float.specs.Ops.{◌⊘◌, half, two, plus_zero}
use Rattle.float.specs.Size.{sized}
use Rattle.float.proofs.Within.{Within, le_within}
use Rattle.float.proofs.Bounds.{Bounded, bounded_zero, bounded_one, bounded_more, bounded_cond, bounded_add, bounded_sub, bounded_mul}
use Rattle.trig.proofs.Bounds.{sine_bounded, cosine_bounded}
use Rattle.constants.specs.Constants.{RISE_S}
use Rattle.complex.specs.Value.{c_zero, c_mul, c_polar}
use Rattle.complex.proofs.Bounds.{CBounded, cbounded_zero, cbounded_mul}
use Rattle.elements.specs.declared.element.KeyedElement.{KeyedElement}
use Rattle.fits.specs.declared.fit.ElementFit.{ElementFit}
use Rattle.synth.specs.Rise.{rc_of}
use Rattle.synth.specs.Baseband.{envelope_of, tilt_at, synth_at}

bounded_half : Bounded 0 1 half
unfolding of_bits
bounded_half = record { bound = lit≤ tt }

pub rise_bounded : (t : Float) → Bounded 50 2 (rc_of t)
unfolding rc_of
rise_bounded t =
    bounded_cond (le t (neg RISE_S ⊘ two)) (bounded_more bounded_zero (lit≤ tt) (lit≤ tt))
    (bounded_cond (le (RISE_S ⊘ two) t) (bounded_more bounded_one (lit≤ tt) (lit≤ tt))
    (bounded_add {a = 1} (bounded_more bounded_half (lit≤ tt) (lit≤ tt)) (bounded_mul bounded_half (sine_bounded _) (lit≤ tt) (lit≤ tt)) (lit≤ tt) (lit≤ tt)))

pub envelope_bounded : (fs : Float) (e : KeyedElement) (k : ℕ) → Bounded 50 4 (envelope_of fs e k)
unfolding envelope_of
envelope_bounded fs e k = bounded_sub (rise_bounded _) (rise_bounded _) (lit≤ tt) (lit≤ tt)

polar_bounded : (w t : Float) → Bounded 50 4 w → CBounded 100 4 (c_polar w t)
polar_bounded w t h =
    record { re_part = bounded_mul h (cosine_bounded t) (lit≤ tt) (lit≤ tt); im_part = bounded_mul h (sine_bounded t) (lit≤ tt) (lit≤ tt) }

pub synth_bounded : (fs : Float) (f : ElementFit) (k : ℕ) {j a : ℕ} → CBounded j a f.gain → a * 4 + a * 4 ≤ 2 ^ 53 → j + 100 ≤ 970
    → CBounded (j + 100) (a * 4 + a * 4) (synth_at fs f k)
unfolding synth_at
synth_bounded fs f k {j} {a} gain few small = go (eq (envelope_of fs f.element k) plus_zero)
  where
    go : (t : Bool) → CBounded (j + 100) (a * 4 + a * 4) (cond t c_zero (c_mul f.gain (c_polar (envelope_of fs f.element k) (tilt_at f k))))
    go true = cbounded_zero
    go false = cbounded_mul gain (polar_bounded _ _ (envelope_bounded fs f.element k)) few small

-- a gain that question 7 lets pass: of size at most 2 ^ 200
pub sized_bounded : (x : Float) → T (sized x) → Bounded 200 1 x
unfolding sized
sized_bounded x h = go x (le_within 200 x h)
  where
    go : (x : Float) → Within 200 x → Bounded 200 1 x
    go nan w = absurd w
    go (inf s) w = absurd w
    go (fin s m e) w = record { bound = le_trans w (le_of_eq (ap (λ b. b * down e) (sym (one-mul (2 ^ 200))))) }
