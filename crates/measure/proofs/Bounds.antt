-- The powers that the residual check ranks are amounts: finite and with the sign plus, so that no list of them holds a
-- −0.0 or a NaN, and `total_cmp` order is the order of the values (`left_amount`, `left_ranked`, `amount_plain`). Gains
-- of size at most 2 ^ 355 and at most 2 ^ 40 fits are asked for, and nothing of times, slopes and references. A given
-- gain that question 7 lets pass has this size (`gain_sized`), and so has every gain of an estimate of its own
-- (`found_gain` of fits). Assumes nothing.
use Rattle.std.proofs.Common.{Some}
use Prim.Native.Nat.{ℕ, zero, suc, ◌+◌, ◌-◌, ◌*◌, ◌^◌, ◌≤◌, ◌<◌, min, max}
use native.Mathlib.Decide.{dec_lt}
use native.Mathlib.Omega.{arith}
use mathlib.Core.Path.{◌≡◌, refl, sym, subst}
use mathlib.Core.Bool.{Bool, true, false, cond}
use mathlib.Core.List.{List, [], ◌∷◌, ◌++◌, Memᴰ}
use lib.Dec.{T, lit≤}
use lib.ListN.{length, get_or, length-append, get_or-append}
use lib.Seq.{get_or_at}
use lib.Ieee.Bits.{is_true}
use lib.Ieee.{Float, nan, inf, fin, le}
use Rattle.float.specs.Ops.{of, plus_zero}
use Rattle.float.specs.Size.{finite_f, sized}
use Rattle.float.proofs.Bounds.{beyond_whole, bounded_shift}
use Rattle.float.proofs.Amounts.{Amount, amount_squares, amount_above}
use Rattle.lists.specs.Those.{picked}
use Rattle.lists.specs.Firsts.{firsts}
use Rattle.complex.specs.declared.value.Complex.{Complex}
use Rattle.complex.specs.Value.{c_sub, c_div}
use Rattle.complex.proofs.Bounds.{CBounded, cbounded_more, cbounded_sub, cbounded_div}
use Rattle.row.specs.Samples.{Singles, Iq}
use Rattle.row.specs.Window.{Rate, window_of, blocks}
use Rattle.row.specs.Blocks.{block_mean}
use Rattle.row.proofs.Steps.{step_low, step_high}
use Rattle.row.proofs.Bounds.{block_bounded}
use Rattle.rank.specs.Select.{percentile_of}
use Rattle.rank.specs.Order.{is_minus_zero}
use Rattle.rank.proofs.Among.{percentile_keeps}
use Rattle.fits.specs.declared.fit.ElementFit.{ElementFit}
use Rattle.fits.specs.List.{fit_at, fits_in}
use Rattle.synth.specs.Span.{span_of}
use Rattle.synth.specs.Baseband.{synth_at}
use Rattle.synth.proofs.Bounds.{sized_bounded, synth_bounded}
use Rattle.classes.specs.declared.class.BlockClass.{BlockClass}
use Rattle.classes.specs.Class.{is_class}
use Rattle.prepared.specs.Powers.{block_power, powers_of}
use Rattle.prepared.specs.Left.{less_from, less_fit, less_fits, residual_mean}

-- a bound with its power of two taken apart
cbounded_shift : (j : ℕ) {k a : ℕ} {z : Complex} → CBounded k (a * 2 ^ j) z → CBounded (k + j) a z
cbounded_shift j p = record { re_part = bounded_shift j p.re_part; im_part = bounded_shift j p.im_part }

-- ---- gains

pub record Gain (f : ElementFit) : Type 0 where
  pub bound : CBounded 355 1 f.gain

-- that question 7 lets pass
pub gain_sized : (f : ElementFit) → T (sized f.gain.re) → T (sized f.gain.im) → Gain f
gain_sized f r i = record { bound = cbounded_more {k = 200} {a = 1} (record { re_part = sized_bounded _ r; im_part = sized_bounded _ i }) (lit≤ tt) (lit≤ tt) }

pub data Gains : List ElementFit → Type 0 where
  none : Gains []
  more : {f : ElementFit} {fits : List ElementFit} → Gain f → Gains fits → Gains (f ∷ fits)

gains_end : (fits : List ElementFit) (f : ElementFit) → Gains fits → Gain f → Gains (fits ++ (f ∷ []))
gains_end [] f none g = more g none
gains_end (x ∷ fits) f (more h r) g = more h (gains_end fits f r g)

-- of each fit of a list
pub gains_all : (fits : List ElementFit) → ((f : ElementFit) → Memᴰ f fits → Gain f) → Gains fits
gains_all [] h = none
gains_all (f ∷ fits) h = more (h f (Memᴰ.head refl)) (gains_all fits (λ g m. h g (Memᴰ.tail m)))

-- of the first n of a lent list
pub gains_of : (l : List Float) (n : ℕ) → ((k : ℕ) → k < n → Gain (fit_at l k)) → Gains (fits_in l n)
unfolding fits_in firsts
gains_of l zero h = none
gains_of l (suc n) h = gains_end (firsts (fit_at l) n) (fit_at l n) (gains_of l n (λ k b. h k (omega arith))) (h n (omega arith))

-- ---- what is left of a mean

module _ (fs : Float) (len blocks : ℕ) (some : 1 ≤ len) (short : len ≤ 512) where
  term_bounded : (f : ElementFit) (k : ℕ) → Gain f → CBounded 458 1 (c_div (synth_at fs f k) (of len))
  term_bounded f k g =
      cbounded_shift 3 {k = 455} {a = 1} (cbounded_div (synth_bounded fs f k {j = 355} {a = 1} g.bound (lit≤ tt) (lit≤ tt)) (beyond_whole len some (omega arith)) (lit≤ tt) (lit≤ tt))

  less_from_bounded : (f : ElementFit) (z : Complex) (p n : ℕ) {a : ℕ} → Gain f → CBounded 458 a z → a + n ≤ 2 ^ 53 → CBounded 458 (a + n) (less_from fs len f z p n)
  unfolding less_from
  less_from_bounded f z p zero {a} g c h = cbounded_more c (omega arith) (lit≤ tt)
  less_from_bounded f z p (suc n) {a} g c h =
      let next : a + suc n ≡ a + n + 1 = omega arith in
      subst (λ m. CBounded 458 m (c_sub (less_from fs len f z p n) (c_div (synth_at fs f (p + n)) (of len)))) (sym next)
      (cbounded_sub (less_from_bounded f z p n g c (omega arith)) (term_bounded f (p + n) g) (omega arith) (lit≤ tt))

  less_bounded : (f : ElementFit) (b : ℕ) (z : Complex) {a : ℕ} → Gain f → CBounded 458 a z → a + 512 ≤ 2 ^ 53 → CBounded 458 (a + 512) (less_fit fs len blocks f b z)
  unfolding less_fit
  less_bounded f b z {a} g c h =
      let s = span_of fs (blocks * len) f in
      let n = min s.hi (b * len + len) - max s.lo (b * len) in
      let fewer : n ≤ 512 = omega arith in
      cbounded_more (less_from_bounded f z (max s.lo (b * len)) n g c (omega arith)) (omega arith) (lit≤ tt)

  pub left_bounded : (fits : List ElementFit) (b : ℕ) (z : Complex) {a : ℕ} → Gains fits → CBounded 458 a z → a + length fits * 512 ≤ 2 ^ 53
      → CBounded 458 (a + length fits * 512) (less_fits fs len blocks fits b z)
  unfolding less_fits
  left_bounded [] b z {a} g c h = cbounded_more c (omega arith) (lit≤ tt)
  left_bounded (f ∷ fits) b z {a} (more g r) c h =
      let next : a + suc (length fits) * 512 ≡ a + 512 + length fits * 512 = omega arith in
      subst (λ m. CBounded 458 m (less_fits fs len blocks fits b (less_fit fs len blocks f b z))) (sym next)
      (left_bounded fits b (less_fit fs len blocks f b z) r (less_bounded f b z g c (omega arith)) (omega arith))

-- ---- the powers

-- finite, from 0, no −0.0
abbrev pub Plain : Float → Type 0
Plain x = (finite_f x ≡ true) × (le plus_zero x ≡ true) × (is_minus_zero x ≡ false)

-- an amount is so
pub amount_plain : (x : Float) → Amount x → Plain x
unfolding finite_f is_minus_zero
amount_plain nan a = absurd a.plus
amount_plain (inf s) a = absurd a.plus
amount_plain (fin true m e) a = absurd a.plus
amount_plain (fin false zero e) a = (refl, is_true (le plus_zero (fin false zero e)) (amount_above a), refl)
amount_plain (fin false (suc m) e) a = (refl, is_true (le plus_zero (fin false (suc m) e)) (amount_above a), refl)

-- what holds of each value of a row holds of those that are picked
picked_holds : (P : Float → Type 0) (p : ℕ → Bool) (f : ℕ → Float) (n : ℕ) → ((k : ℕ) → k < n → P (f k)) → (i : ℕ) → i < length (picked p f n) → P (get_or (picked p f n) i nan)
unfolding picked
picked_holds P p f zero h i l = absurd (never l)
  where
    never : i < 0 → ⊥
    never q = omega arith
picked_holds P p f (suc n) h i l = go (p n) (picked_holds P p f n (λ k b. h k (omega arith))) l
  where
    before : List Float
    before = picked p f n

    last : Dec (i < length before) → (i < length before → P (get_or before i nan)) → i < length before + 1 → P (get_or (before ++ (f n ∷ [])) i nan)
    last (yes b) less q = subst P (sym (get_or-append before (f n ∷ []) nan i b)) (less b)
    last (no b) less q = let here : i ≡ length before = omega arith in subst P (sym (get_or_at before (f n) [] nan i (sym here))) (h n (omega arith))

    go : (t : Bool) → ((j : ℕ) → j < length before → P (get_or before j nan)) → i < length (before ++ cond t (f n ∷ []) []) → P (get_or (before ++ cond t (f n ∷ []) []) i nan)
    go true less q = last (dec_lt i (length before)) (less i) (rw length-append at q)
    go false less q = let b : i < length before = omega (arith, length-append before []) in subst P (sym (get_or-append before [] nan i b)) (less i b)

module _ (iq : List Float) (fs cyc : Float) (fits : List ElementFit) (s : Singles iq) (q : Iq iq) (r : Rate fs) (g : Gains fits) (few : length fits ≤ 2 ^ 40) where
  abbrev left : ℕ → Complex
  left = residual_mean fs (blocks iq (window_of fs)) fits (block_mean iq cyc (window_of fs))

  pub left_amount : (b : ℕ) → b < blocks iq (window_of fs) → Amount (block_power left b)
  left_amount b h =
      let low = step_low fs in
      let high = step_high fs r in
      let mean : CBounded 458 2 (block_mean iq cyc (window_of fs) b) = cbounded_more (block_bounded iq cyc (window_of fs) b s q (omega arith) h) (lit≤ tt) (lit≤ tt) in
      let all : CBounded 458 (2 + length fits * 512) (left b) = left_bounded fs (window_of fs) (blocks iq (window_of fs)) (omega arith) (omega arith) fits b (block_mean iq cyc (window_of fs) b) g mean (omega arith) in
      let small : CBounded 482 (2 ^ 26) (left b) = cbounded_shift 24 {k = 458} {a = 2 ^ 26} (cbounded_more all (omega arith) (lit≤ tt)) in
      amount_squares small.re_part small.im_part (lit≤ tt) (lit≤ tt)

  -- each list of them, and what is ranked in it
  pub left_powers : (class : ℕ → BlockClass) (c : BlockClass) (i : ℕ) → i < length (powers_of c class left (blocks iq (window_of fs)))
      → Amount (get_or (powers_of c class left (blocks iq (window_of fs))) i nan)
  left_powers class c = picked_holds Amount (λ b. is_class c (class b)) (block_power left) (blocks iq (window_of fs)) left_amount

  pub left_ranked : (class : ℕ → BlockClass) (c : BlockClass) (p v : Float) → percentile_of (powers_of c class left (blocks iq (window_of fs))) p ≡ Some v → Amount v
  left_ranked class c p v e = percentile_keeps Amount (powers_of c class left (blocks iq (window_of fs))) p v (left_powers class c) e
