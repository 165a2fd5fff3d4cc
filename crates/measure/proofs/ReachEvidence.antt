-- What the evidence depends on: two recordings that agree in every sample of the interior and the gap blocks have the
-- same evidence, at one rate and carrier and for the same classes (`evidence_reach`); so they have for one estimate in
-- the Rust's own fields (`evidence_check_reach`). Assumes nothing.
use Prim.Native.Nat.{ℕ, ◌<◌}
use mathlib.Core.Path.{◌≡◌, refl, ap, ◌∙◌}
use mathlib.Core.Logic.{◌⊎◌, inl, inr}
use mathlib.Core.Bool.{true, false≢true}
use mathlib.Core.List.{List, map}
use lib.ListN.{length}
use lib.Ieee.{Float}
use Rattle.float.specs.Ops.{◌⊘◌}
use Rattle.row.specs.Window.{window_of, samples, blocks}
use Rattle.elements.specs.declared.element.KeyedElement.{KeyedElement}
use Rattle.fits.specs.declared.fit.ElementFit.{ElementFit}
use Rattle.synth.specs.RustFields.{rust_of}
use Rattle.classes.specs.declared.class.BlockClass.{BlockClass}
use Rattle.classes.specs.declared.class.BlockClass.TheVariants.{Edge, Interior, Gap, Other}
use Rattle.classes.specs.Class.{is_class}
use Rattle.classes.specs.Classify.{times_of, class_of}
use Rattle.gaps.specs.Reference.{mean_at}
use Rattle.measure.specs.Evidence.{is_in, reference_of, evidence_of, evidence_check_of}
use Rattle.measure.specs.Agree.{AgreeIn}
use Rattle.measure.proofs.Reach.{block_agree, class_alike}
use Rattle.measure.proofs.Same.{reference_same, evidence_same}

gap_is : (c : BlockClass) → is_class Gap c ≡ true → c ≡ Gap
gap_is Edge e = absurd (false≢true e)
gap_is Interior e = absurd (false≢true e)
gap_is Gap e = refl
gap_is Other e = absurd (false≢true e)

interior_is : (c : BlockClass) → is_class Interior c ≡ true → c ≡ Interior
interior_is Edge e = absurd (false≢true e)
interior_is Interior e = refl
interior_is Gap e = absurd (false≢true e)
interior_is Other e = absurd (false≢true e)

module _ (iq iq' : List Float) (fs carrier : Float) (class class' : ℕ → BlockClass) (blocks : ℕ)
    (alike : (b : ℕ) → b < blocks → class b ≡ class' b)
    (agree : (b : ℕ) → b < blocks → (class b ≡ Gap) ⊎ (class b ≡ Interior) → AgreeIn iq iq' (window_of fs) b) where
  same : (c : BlockClass) (b : ℕ) → b < blocks → is_in c class b ≡ is_in c class' b
  same c b h = ap (is_class c) (alike b h)

  gap_agrees : (c : Float) (b : ℕ) → b < blocks → is_in Gap class' b ≡ true → mean_at iq fs c b ≡ mean_at iq' fs c b
  gap_agrees c b h e = block_agree iq iq' (c ⊘ fs) (window_of fs) b (agree b h (inl (alike b h ∙ gap_is (class' b) e)))

  interior_agrees : (b : ℕ) → b < blocks → is_in Interior class' b ≡ true → mean_at iq fs carrier b ≡ mean_at iq' fs carrier b
  interior_agrees b h e = block_agree iq iq' (carrier ⊘ fs) (window_of fs) b (agree b h (inr (alike b h ∙ interior_is (class' b) e)))

  pub reference_reach : reference_of iq fs carrier class blocks ≡ reference_of iq' fs carrier class' blocks
  unfolding reference_of
  reference_reach =
      reference_same (mean_at iq fs) (mean_at iq' fs) (is_in Gap class) (is_in Gap class') (mean_at iq fs carrier) (mean_at iq' fs carrier) blocks (same Gap) (gap_agrees carrier) gap_agrees
      (is_in Interior class) (is_in Interior class') (same Interior) interior_agrees carrier

  pub evidence_reach : evidence_of iq fs carrier class blocks ≡ evidence_of iq' fs carrier class' blocks
  unfolding evidence_of
  evidence_reach =
      evidence_same (mean_at iq fs) (mean_at iq' fs) (is_in Gap class) (is_in Gap class') (mean_at iq fs carrier) (mean_at iq' fs carrier) blocks (same Gap) (gap_agrees carrier) gap_agrees
      (is_in Interior class) (is_in Interior class') (same Interior) interior_agrees fs carrier

-- of one length and one estimate in the Rust's own fields: the positions `up` and `down`, which 01 adds, may differ
module _ (iq iq' : List Float) (fs carrier : Float) (fits fits' : List ElementFit) (elements elements' : List KeyedElement)
    (long : length iq ≡ length iq') (fitted : map rust_of fits ≡ map rust_of fits') (found : map times_of elements ≡ map times_of elements')
    (agree : (b : ℕ) → b < blocks iq (window_of fs)
    → (class_of fs (samples iq) fits elements b ≡ Gap) ⊎ (class_of fs (samples iq) fits elements b ≡ Interior) → AgreeIn iq iq' (window_of fs) b) where
  pub evidence_check_reach : evidence_check_of iq fs carrier fits elements ≡ evidence_check_of iq' fs carrier fits' elements'
  evidence_check_reach =
      evidence_reach iq iq' fs carrier (class_of fs (samples iq) fits elements) (class_of fs (samples iq) fits' elements') (blocks iq (window_of fs))
      (λ b h. class_alike fs (samples iq) b fits fits' elements elements' fitted found) agree
      ∙ rw long
