-- What the residual check depends on: two recordings of one length that agree in every sample of the edge, interior and
-- gap blocks have the same figures, at one rate and for one estimate in the Rust's own fields: the positions `up` and
-- `down`, which 01 adds, may differ (`residual_reach`). Assumes nothing.
use Prim.Native.Nat.{ℕ, zero, suc, ◌+◌, ◌*◌, ◌≤◌, ◌<◌}
use native.Mathlib.Omega.{arith}
use mathlib.Core.Path.{◌≡◌, refl, sym, ap, ◌∙◌}
use mathlib.Core.Logic.{◌≢◌}
use mathlib.Core.Bool.{true, false, false≢true}
use mathlib.Core.List.{List, [], ◌∷◌, map}
use lib.ListN.{length}
use lib.Ieee.{Float}
use Rattle.float.specs.Ops.{◌⊘◌, of}
use Rattle.lists.proofs.Those.{picked_cong}
use Rattle.complex.specs.declared.value.Complex.{Complex}
use Rattle.complex.specs.Value.{c_mul, c_conj, c_div, c_norm_sqr}
use Rattle.complex.specs.Rows.{c_sum}
use Rattle.row.specs.Window.{window_of, samples}
use Rattle.row.specs.Window as window
use Rattle.row.specs.Blocks.{rotor_of, derot, mean_from, block_mean}
use Rattle.elements.specs.declared.element.KeyedElement.{KeyedElement}
use Rattle.fits.specs.declared.fit.ElementFit.{ElementFit}
use Rattle.synth.specs.RustFields.{rust_of}
use Rattle.synth.proofs.RustFields.{span_alike, synth_alike}
use Rattle.classes.specs.declared.class.BlockClass.{BlockClass}
use Rattle.classes.specs.declared.class.BlockClass.TheVariants.{Edge, Interior, Gap, Other}
use Rattle.classes.specs.Class.{is_class}
use Rattle.classes.specs.Classify.{times_of, times_of_fit, class_of}
use Rattle.classes.proofs.ByTimes.{class_by_times}
use Rattle.prepared.specs.Powers.{block_power, powers_of}
use Rattle.prepared.specs.Left.{less_from, less_fit, less_fits, residual_mean}
use Rattle.measure.specs.Residual.{residual_of, residual_check_of}
use Rattle.measure.specs.Agree.{AgreeIn}

-- ---- the samples of a block

sum_agree : (f g : ℕ → Complex) (a n : ℕ) → ((k : ℕ) → a ≤ k → k < a + n → f k ≡ g k) → c_sum f a n ≡ c_sum g a n
unfolding c_sum
sum_agree f g a zero h = refl
sum_agree f g a (suc n) h = rw (sum_agree f g a n (λ k l b. h k l (omega arith)), h (a + n) (omega arith) (omega arith))

pub block_agree : (iq iq' : List Float) (cyc : Float) (len b : ℕ) → AgreeIn iq iq' len b → block_mean iq cyc len b ≡ block_mean iq' cyc len b
unfolding block_mean mean_from derot
block_agree iq iq' cyc len b h =
    ap (λ s. c_div s (of len)) (sum_agree (derot iq cyc) (derot iq' cyc) (b * len) len (λ k l g. ap (λ x. c_mul x (c_conj (rotor_of cyc k))) (h k l g)))

-- ---- estimates that are one to the Rust

module _ (fs : Float) (len blocks : ℕ) where
  module _ (f g : ElementFit) (same : rust_of f ≡ rust_of g) where
    less_from_alike : (z : Complex) (a n : ℕ) → less_from fs len f z a n ≡ less_from fs len g z a n
    unfolding less_from
    less_from_alike z a zero = refl
    less_from_alike z a (suc n) = rw (less_from_alike z a n, synth_alike fs f g same (a + n))

    less_alike : (b : ℕ) (z : Complex) → less_fit fs len blocks f b z ≡ less_fit fs len blocks g b z
    unfolding less_fit
    less_alike b z = rw (span_alike fs f g same (blocks * len)) (less_from_alike z _ _)

  -- what is left of a mean
  pub left_alike : (fits others : List ElementFit) (b : ℕ) (z : Complex) → map rust_of fits ≡ map rust_of others → less_fits fs len blocks fits b z ≡ less_fits fs len blocks others b z
  unfolding less_fits
  left_alike [] [] b z same = refl
  left_alike [] (g ∷ others) b z same = let no : ◌≡◌ {A = ℕ} 0 1 = cc in absurd (omega arith)
  left_alike (f ∷ fits) [] b z same = let no : ◌≡◌ {A = ℕ} 0 1 = cc in absurd (omega arith)
  left_alike (f ∷ fits) (g ∷ others) b z same =
      let first : rust_of f ≡ rust_of g = cc in
      let rest : map rust_of fits ≡ map rust_of others = cc in
      ap (less_fits fs len blocks fits b) (less_alike f g first b z) ∙ left_alike fits others b (less_fit fs len blocks g b z) rest

-- their times
times_alike : (fits others : List ElementFit) → map rust_of fits ≡ map rust_of others → map times_of_fit fits ≡ map times_of_fit others
times_alike [] [] same = refl
times_alike [] (g ∷ others) same = let no : ◌≡◌ {A = ℕ} 0 1 = cc in absurd (omega arith)
times_alike (f ∷ fits) [] same = let no : ◌≡◌ {A = ℕ} 0 1 = cc in absurd (omega arith)
times_alike (f ∷ fits) (g ∷ others) same =
    let first : rust_of f ≡ rust_of g = cc in
    let rest : map rust_of fits ≡ map rust_of others = cc in
    rw (ap (λ r. r.start) first, ap (λ r. r.end) first, times_alike fits others rest)

-- and their classes
pub class_alike : (fs : Float) (n b : ℕ) (fits fits' : List ElementFit) (elements elements' : List KeyedElement)
    → map rust_of fits ≡ map rust_of fits' → map times_of elements ≡ map times_of elements' → class_of fs n fits elements b ≡ class_of fs n fits' elements' b
class_alike fs n b fits fits' elements elements' e f = class_by_times fs n b fits fits' elements elements' (times_alike fits fits' e) f

-- ---- the check

-- a block that has another class than Other is not Other
measured : (c d : BlockClass) → is_class c Other ≡ false → is_class c d ≡ true → d ≢ Other
measured c d n e g = false≢true (sym n ∙ ap (is_class c) (sym g) ∙ e)

module _ (iq iq' : List Float) (fs carrier : Float) (fits fits' : List ElementFit) (elements elements' : List KeyedElement)
    (long : length iq ≡ length iq') (fitted : map rust_of fits ≡ map rust_of fits') (found : map times_of elements ≡ map times_of elements')
    (agree : (b : ℕ) → b < window.blocks iq (window_of fs) → class_of fs (samples iq) fits elements b ≢ Other → AgreeIn iq iq' (window_of fs) b) where
  pub residual_reach : residual_check_of iq fs carrier fits elements ≡ residual_check_of iq' fs carrier fits' elements'
  unfolding residual_of
  residual_reach = rw (← long, same Edge refl, same Interior refl, same Gap refl)
    where
      n : ℕ
      n = samples iq

      blocks : ℕ
      blocks = window.blocks iq (window_of fs)

      class : ℕ → BlockClass
      class = class_of fs n fits elements

      class' : ℕ → BlockClass
      class' = class_of fs n fits' elements'

      z : ℕ → Complex
      z = block_mean iq (carrier ⊘ fs) (window_of fs)

      z' : ℕ → Complex
      z' = block_mean iq' (carrier ⊘ fs) (window_of fs)

      alike : (b : ℕ) → class b ≡ class' b
      alike b = class_alike fs n b fits fits' elements elements' fitted found

      means : (b : ℕ) → b < blocks → class b ≢ Other → residual_mean fs blocks fits z b ≡ residual_mean fs blocks fits' z' b
      means b h o =
          ap (less_fits fs (window_of fs) blocks fits b) (block_agree iq iq' (carrier ⊘ fs) (window_of fs) b (agree b h o))
          ∙ left_alike fs (window_of fs) blocks fits fits' b (z' b) fitted

      same : (c : BlockClass) → is_class c Other ≡ false → powers_of c class (residual_mean fs blocks fits z) blocks ≡ powers_of c class' (residual_mean fs blocks fits' z') blocks
      same c o =
          picked_cong (λ b. is_class c (class b)) (λ b. is_class c (class' b)) (block_power (residual_mean fs blocks fits z)) (block_power (residual_mean fs blocks fits' z')) blocks
          (λ b h. ap (is_class c) (alike b))
          (λ b h t. ap c_norm_sqr (means b h (measured c (class b) o (ap (is_class c) (alike b) ∙ t))))
