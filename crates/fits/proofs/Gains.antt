-- How large a gain can be: of a recording of finite f32, the gain of every element found is at most 2 ^ 355
-- (`found_gain`). The sum of the terms is bounded by laws on sines and samples; the sum of the weights, by which it is
-- divided, is above zero where there is a fit, and then at least 2 ^ -54, since each weight is 0.5 − z for some z.
-- Assumes nothing.
use Rattle.std.proofs.Common.{Some, None}
use Rattle.std.specs.declared.option.Option.{Option}
use Prim.Native.Nat.{ℕ, zero, suc, ◌+◌, ◌-◌, ◌*◌, ◌^◌, ◌≤◌, ◌<◌}
use native.Mathlib.Nat.{suc-mul}
use native.Mathlib.Omega.{arith}
use mathlib.Core.Path.{◌≡◌, refl, sym, subst}
use mathlib.Core.Logic.{⊎_elim}
use mathlib.Core.Bool.{Bool, true, false, cond}
use mathlib.Core.List.Memᴰ
use mathlib.Core.List.{List, [], ◌∷◌, Memᴰ}
use lib.Dec.{lit≤}
use lib.ListN.{length}
use lib.Ieee.{Float, binary64, le, of_bits}
use lib.Ieee.Fits.{mul-fits}
use Rattle.float.specs.Ops.{◌⊕◌, ◌⊘◌, half, plus_zero}
use Rattle.float.proofs.Bounds.{Bounded, bounded_zero, bounded_more, bounded_shift, bounded_add, bounded_sub, bounded_mul, bounded_finite}
use Rattle.trig.specs.Circle.{cos_of}
use Rattle.trig.proofs.Bounds.{sine_bounded, cosine_bounded}
use Rattle.complex.specs.Value.{c_div, c_polar}
use Rattle.complex.specs.Rows.{c_sum}
use Rattle.complex.proofs.Bounds.{CBounded, cbounded_more, cbounded_mul, cbounded_sum}
use Rattle.lists.specs.Sums.{f_sum}
use Rattle.row.specs.Samples.{Singles, Iq}
use Rattle.row.specs.Window.{Rate, samples}
use Rattle.row.proofs.Bounds.{derot_bounded}
use Rattle.elements.specs.declared.element.KeyedElement.{KeyedElement}
use Rattle.elements.specs.Find.{elements_found}
use Rattle.elements.proofs.Bounds.{found_bounded}
use Rattle.row.specs.declared.span.Span.{Span}
use Rattle.fits.specs.declared.fit.ElementFit.{ElementFit}
use Rattle.interiors.specs.Interior.{interior_of, slope_block}
use Rattle.interiors.specs.Gain.{hann, leveled, gain_sum, hann_sum}
use Rattle.fits.specs.Fit.{fit_inside, fit_within, fit_of}
use Rattle.fits.specs.List.{if_fitted, fits_of}
use Rattle.fits.specs.Estimate.{fits_found}
use Rattle.fits.specs.Inner.{Timed}
use Rattle.interiors.proofs.Interiors.{interior_within}
use Rattle.fits.proofs.Passes.{bounded_sized}
use Rattle.fits.proofs.Grains.{Grain, grain_add, half_less, grain_least, bounded_quotient}

-- ---- the weights

bounded_half : Bounded 0 1 half
unfolding of_bits
bounded_half = record { bound = lit≤ tt }

part_bounded : (len j : ℕ) → Bounded 50 2 (hann len j)
unfolding hann
part_bounded len j = bounded_sub {a = 1} {b = 1} (bounded_more bounded_half (lit≤ tt) (lit≤ tt)) (bounded_mul bounded_half (cosine_bounded _) (lit≤ tt) (lit≤ tt)) (lit≤ tt) (lit≤ tt)

part_grain : (len j : ℕ) → Grain binary64 1020 (hann len j)
unfolding hann
part_grain len j =
    half_less _ (mul-fits binary64 half (cos_of _)) (bounded_finite (bounded_mul bounded_half (cosine_bounded _) (lit≤ tt) (lit≤ tt)))
    (bounded_finite (bounded_sub {a = 1} {b = 1} (bounded_more bounded_half (lit≤ tt) (lit≤ tt)) (bounded_mul bounded_half (cosine_bounded _) (lit≤ tt) (lit≤ tt)) (lit≤ tt) (lit≤ tt)))

zero_grain : Grain binary64 1020 plus_zero
unfolding of_bits
zero_grain = record { sign = false; count = 0; value = (refl, refl) }

record Weights (n : ℕ) (x : Float) : Type 0 where
  size : Bounded 50 (n * 2) x
  grain : Grain binary64 1020 x

weights_to : (len n : ℕ) → n ≤ 2 ^ 20 → Weights n (f_sum plus_zero (hann len) n)
unfolding f_sum
weights_to len zero h = record { size = bounded_more bounded_zero (omega arith) (lit≤ tt); grain = zero_grain }
weights_to len (suc n) h =
    let so = weights_to len n (omega arith) in
    let more : suc n * 2 ≡ n * 2 + 2 = suc-mul n 2 in
    let all : Bounded 50 (n * 2 + 2) (f_sum plus_zero (hann len) n ⊕ hann len n) = bounded_add so.size (part_bounded len n) (omega arith) (lit≤ tt) in
    record {
      size = bounded_more all (omega arith) (lit≤ tt);
      grain = grain_add binary64 1020 (f_sum plus_zero (hann len) n) (hann len n) (lit≤ tt) so.grain (part_grain len n) (bounded_finite all);
    }

-- ---- the terms

polar_bounded : (w t : Float) → Bounded 50 2 w → CBounded 100 2 (c_polar w t)
polar_bounded w t h =
    record { re_part = bounded_mul h (cosine_bounded t) (lit≤ tt) (lit≤ tt); im_part = bounded_mul h (sine_bounded t) (lit≤ tt) (lit≤ tt) }

module _ (iq : List Float) (cyc : Float) (s : Singles iq) (q : Iq iq) where
  term_bounded : (i0 len : ℕ) (slope ref : Float) (j : ℕ) → 2 * (i0 + j) + 1 < length iq → CBounded 278 8 (leveled iq cyc i0 len slope ref j)
  term_bounded i0 len slope ref j h = cbounded_mul (derot_bounded iq cyc (i0 + j) s q h) (polar_bounded _ _ (part_bounded len j)) (lit≤ tt) (lit≤ tt)

  terms_bounded : (i0 len : ℕ) (slope ref : Float) → len ≤ 2 ^ 20 → 2 * (i0 + len) ≤ length iq → CBounded 301 1 (gain_sum iq cyc i0 len slope ref)
  unfolding gain_sum
  terms_bounded i0 len slope ref few h =
      let all : CBounded 278 (len * 8) (c_sum (leveled iq cyc i0 len slope ref) 0 len) =
      cbounded_sum (leveled iq cyc i0 len slope ref) 0 len (λ i l. term_bounded i0 len slope ref (0 + i) (omega arith)) (omega arith) (lit≤ tt) in
      let most : CBounded 278 (1 * 2 ^ 23) (c_sum (leveled iq cyc i0 len slope ref) 0 len) = cbounded_more all (omega arith) (lit≤ tt) in
      record { re_part = bounded_shift 23 {k = 278} {a = 1} most.re_part; im_part = bounded_shift 23 {k = 278} {a = 1} most.im_part }

  gain_bounded : (i0 len : ℕ) (slope ref : Float) → len ≤ 2 ^ 20 → 2 * (i0 + len) ≤ length iq → le (hann_sum len) plus_zero ≡ false
      → CBounded 355 1 (c_div (gain_sum iq cyc i0 len slope ref) (hann_sum len))
  unfolding hann_sum
  gain_bounded i0 len slope ref few h p =
      let terms = terms_bounded i0 len slope ref few h in
      let least = grain_least (f_sum plus_zero (hann len) len) (weights_to len len few).grain p in
      record {
        re_part = bounded_quotient 54 (f_sum plus_zero (hann len) len) terms.re_part least (lit≤ tt) (lit≤ tt);
        im_part = bounded_quotient 54 (f_sum plus_zero (hann len) len) terms.im_part least (lit≤ tt) (lit≤ tt);
      }

  -- ---- a fit's
  inside_gain : (block : ℕ) (e : KeyedElement) (i0 i1 : ℕ) (f : ElementFit) → i0 ≤ i1 → 2 * i1 ≤ length iq → fit_inside iq cyc block e i0 i1 ≡ Some f → CBounded 355 1 f.gain
  unfolding fit_inside
  inside_gain block e i0 i1 f ordered h = go (le (hann_sum (i1 - i0)) plus_zero) refl _ refl
    where
      go : (b : Bool) → le (hann_sum (i1 - i0)) plus_zero ≡ b → (g : ElementFit) → g.gain ≡ c_div (gain_sum iq cyc i0 (i1 - i0) g.slope_rad_per_sample g.ref_sample) (hann_sum (i1 - i0))
          → cond b None (Some g) ≡ Some f → CBounded 355 1 f.gain
      go true p g is e = absurd (cc)
      go false p g is e =
          let same : g ≡ f = cc in
          subst (λ (x : ElementFit). CBounded 355 1 x.gain) same
          (subst (CBounded 355 1) (sym is) (gain_bounded i0 (i1 - i0) g.slope_rad_per_sample g.ref_sample (omega (arith, q.short)) (omega arith) p))

  fit_gain : (fs : Float) → Rate fs → (e : KeyedElement) → Timed e → (f : ElementFit) → fit_of iq fs cyc e ≡ Some f → CBounded 355 1 f.gain
  unfolding fit_of fit_within
  fit_gain fs r e timed f p = go (interior_of (samples iq) fs e.start e.end) refl p
    where
      go : (i : Option Span) → i ≡ interior_of (samples iq) fs e.start e.end → fit_within iq cyc (slope_block fs) e i ≡ Some f → CBounded 355 1 f.gain
      go (Some i) h p =
          let few : samples iq ≤ 2 ^ 20 = omega (arith, q.short) in
          let w = interior_within fs r (samples iq) few e.start e.end timed.first timed.last i.lo i.hi h in
          inside_gain (slope_block fs) e i.lo i.hi f (omega (arith, w.0)) (omega (arith, w.1)) p
      go None h p = absurd (cc)

-- ---- of every element found
module _ (iq : List Float) (fs carrier : Float) (s : Singles iq) (q : Iq iq) (r : Rate fs) where
  fits_gain : (es : List KeyedElement) → ((e : KeyedElement) → Memᴰ e es → Timed e) → (f : ElementFit) → Memᴰ f (fits_of iq fs carrier es) → CBounded 355 1 f.gain
  unfolding fits_of
  fits_gain [] timed f m = absurd (Memᴰ.not-nil m)
  fits_gain (e ∷ es) timed f m =
      ⊎_elim (one (fit_of iq fs (carrier ⊘ fs) e) refl) (fits_gain es (λ d w. timed d (Memᴰ.tail w)) f)
      (Memᴰ.append_cases (if_fitted (fit_of iq fs (carrier ⊘ fs) e)) m)
    where
      one : (d : Option ElementFit) → fit_of iq fs (carrier ⊘ fs) e ≡ d → Memᴰ f (if_fitted d) → CBounded 355 1 f.gain
      one (Some g) p w =
          let same : f ≡ g = Memᴰ.eq_of_singleton w in
          subst (λ (x : ElementFit). CBounded 355 1 x.gain) (sym same) (fit_gain iq (carrier ⊘ fs) s q fs r e (timed e (Memᴰ.head refl)) g p)
      one None p w = absurd (Memᴰ.not-nil w)

  pub found_gain : (f : ElementFit) → Memᴰ f (fits_found iq fs carrier) → CBounded 355 1 f.gain
  unfolding fits_found
  found_gain =
      fits_gain (elements_found iq fs carrier)
      (λ e m. let b = found_bounded iq fs carrier s q r e m in record { first = bounded_sized _ b.start_bounded; last = bounded_sized _ b.end_bounded })
