-- Fits in a list: stored from a number on and read back. `fit_kind` gives the laws on records of any kind (lists
-- Records) for fits; `fits_handed` says what a list of fits hands out.
use Prim.Native.Nat.{ℕ, ◌+◌, ◌*◌, ◌≤◌, ◌<◌}
use native.Mathlib.Nat.{add-zero}
use native.Mathlib.Omega.{arith}
use mathlib.Core.Path.{◌≡◌, ap}
use mathlib.Core.List.{List, []}
use lib.Dec.{lit<}
use lib.ListN.{length, get_or, drop, length-set}
use lib.Ieee.{Float, nan}
use Rattle.std.specs.Simd.{first_chunks}
use Rattle.std.proofs.lemmas.Grind.{common_steps}
use Rattle.lists.specs.Records.{Handed, handed}
use Rattle.lists.proofs.Chunks.{chunk_read}
use Rattle.elements.specs.Element.{ELEMENT}
use Rattle.lists.proofs.Records.{Kind, stored_handed, handed_again}
use Rattle.fits.specs.declared.fit.ElementFit.{ElementFit}
use Rattle.fits.specs.List.{FIT, fit_from, fit_at, fits_in, handed_fits}
use Rattle.fits.specs.Inner.{put_fit_from, fits_stored}

module _ (l : List Float) (at : ℕ) (f : ElementFit) where
  before_fit : (x : ℕ) → x < at → get_or (put_fit_from l at f) x nan ≡ get_or l x nan
  before_fit x h = grind (arith, common_steps)

  fit_before : (from : ℕ) → from + FIT ≤ at → fit_from (put_fit_from l at f) from ≡ fit_from l from
  fit_before from h =
      rw (
        before_fit from (omega arith),
        before_fit (from + 1) (omega arith),
        before_fit (from + 2) (omega arith),
        before_fit (from + 3) (omega arith),
        before_fit (from + ELEMENT) (omega arith),
        before_fit (from + ELEMENT + 1) (omega arith),
        before_fit (from + ELEMENT + 2) (omega arith),
        before_fit (from + ELEMENT + 3) (omega arith),
      )

  fit_after : (n : ℕ) → at + FIT ≤ n → drop n (put_fit_from l at f) ≡ drop n l
  fit_after n h = grind (arith, common_steps)

  fit_put : at + FIT ≤ length l → fit_from (put_fit_from l at f) at ≡ f
  fit_put room =
      let new = put_fit_from l at f in
      let start : get_or new at nan ≡ f.element.start = grind (arith, common_steps) in
      let end : get_or new (at + 1) nan ≡ f.element.end = grind (arith, common_steps) in
      let up : get_or new (at + 2) nan ≡ f.element.up = grind (arith, common_steps) in
      let down : get_or new (at + 3) nan ≡ f.element.down = grind (arith, common_steps) in
      let re : get_or new (at + ELEMENT) nan ≡ f.gain.re = grind (arith, common_steps) in
      let im : get_or new (at + ELEMENT + 1) nan ≡ f.gain.im = grind (arith, common_steps) in
      let slope : get_or new (at + ELEMENT + 2) nan ≡ f.slope_rad_per_sample = grind (arith, common_steps) in
      let reference : get_or new (at + ELEMENT + 3) nan ≡ f.ref_sample = grind (arith, common_steps) in
      rw (start, end, up, down, re, im, slope, reference)

pub fit_kind : Kind Float ElementFit FIT fit_from put_fit_from
fit_kind =
    record {
      some = omega arith;
      length_put = λ l at f. simp length-set;
      get_put = fit_put;
      get_before = fit_before;
      drop_put = fit_after;
    }

-- the fits that a list hands out: stored in it, read back from it, and stored in it a second time
pub fits_handed : (l : List Float) (fs : List ElementFit) → FIT * length fs ≤ length l → handed_fits (fits_stored l fs) (length fs) ≡ handed FIT fs l
unfolding fits_in handed_fits
fits_handed = stored_handed FIT fit_from put_fit_from fit_kind

pub fits_read : (cur l : List Float) (n : ℕ) (fs : List ElementFit) → handed_fits cur n ≡ handed FIT fs l → fits_in cur n ≡ fs
unfolding handed handed_fits
fits_read cur l n fs e = ap (λ h. h.records) e

pub fits_again : (h : Handed ElementFit) (fs gs : List ElementFit) (mid l : List Float) (n : ℕ)
    → h ≡ handed FIT fs mid → handed_fits mid n ≡ handed FIT gs l → h ≡ handed FIT fs l
unfolding handed_fits
fits_again h fs gs mid l n e f = handed_again FIT h fs (fits_in mid n) gs mid l e f

-- a fit read from its place alone
pub fit_read : (places : List (List Float)) (n : ℕ) (l : List Float) (k : ℕ) (f : ElementFit)
    → places ≡ first_chunks FIT n l → k < n → f ≡ fit_at (get_or places k []) 0 → f ≡ fit_at l k
fit_read places n l k f all h read =
    let five : FIT * k + ELEMENT + 1 ≡ FIT * k + 5 = omega arith in
    let six : FIT * k + ELEMENT + 2 ≡ FIT * k + 6 = omega arith in
    let seven : FIT * k + ELEMENT + 3 ≡ FIT * k + 7 = omega arith in
    rw (
      read,
      all,
      chunk_read FIT n l k 0 [] nan h (lit< tt),
      chunk_read FIT n l k 1 [] nan h (lit< tt),
      chunk_read FIT n l k 2 [] nan h (lit< tt),
      chunk_read FIT n l k 3 [] nan h (lit< tt),
      chunk_read FIT n l k 4 [] nan h (lit< tt),
      chunk_read FIT n l k 5 [] nan h (lit< tt),
      chunk_read FIT n l k 6 [] nan h (lit< tt),
      chunk_read FIT n l k 7 [] nan h (lit< tt),
      add-zero (FIT * k),
      five,
      six,
      seven,
    )
