-- The evidence of the blocks that a prepared slice holds is that of the recording (`evidence_prepared`). Assumes
-- nothing.
use Prim.Native.Nat.{ℕ}
use mathlib.Core.Path.{◌≡◌, refl, ◌∙◌}
use mathlib.Core.List.{List}
use lib.Ieee.{Float}
use Rattle.complex.specs.Rows.{z_at}
use Rattle.classes.specs.declared.class.BlockClass.{BlockClass}
use Rattle.classes.specs.declared.class.BlockClass.TheVariants.{Gap, Interior}
use Rattle.measure.specs.declared.evidence.SecondCarrierEvidence.{SecondCarrierEvidence}
use Rattle.prepared.specs.Inner.{of_class}
use Rattle.gaps.specs.Reference.{mean_at}
use Rattle.measure.specs.Evidence.{is_in, evidence_by, evidence_of}
use Rattle.measure.proofs.Grids.{class_held}
use Rattle.measure.specs.Inner.{Held}
use Rattle.measure.proofs.Same.{evidence_same}

pub evidence_prepared : (iq : List Float) (fs carrier : Float) (class : ℕ → BlockClass) (blocks : ℕ) (means codes : List Float)
    → Held means codes (mean_at iq fs carrier) class blocks
    → evidence_by (mean_at iq fs) fs carrier (of_class codes Gap) (of_class codes Interior) (z_at means) blocks ≡ evidence_of iq fs carrier class blocks
unfolding evidence_of
evidence_prepared iq fs carrier class blocks means codes p =
    evidence_same (mean_at iq fs) (mean_at iq fs) (of_class codes Gap) (is_in Gap class) (z_at means) (mean_at iq fs carrier) blocks
    (λ b h. class_held means codes (mean_at iq fs carrier) class blocks Gap b p h) (λ b h g. p.mean b h) (λ c b h g. refl)
    (of_class codes Interior) (is_in Interior class) (λ b h. class_held means codes (mean_at iq fs carrier) class blocks Interior b p h)
    (λ b h g. p.mean b h) fs carrier

pub check_is : (iq iq' : List Float) (fs fs' carrier carrier' : Float) (class : ℕ → BlockClass) (blocks n : ℕ) (means codes : List Float) (r : SecondCarrierEvidence)
    → (iq' ≡ iq) × (fs' ≡ fs) × (carrier' ≡ carrier) → blocks ≡ n → Held means codes (mean_at iq fs carrier) class n
    → r ≡ evidence_by (mean_at iq' fs') fs' carrier' (of_class codes Gap) (of_class codes Interior) (z_at means) blocks
    → r ≡ evidence_of iq fs carrier class n
check_is iq iq' fs fs' carrier carrier' class blocks n means codes r g b p e = e ∙ rw (g.0, g.1, g.2, b) (evidence_prepared iq fs carrier class n means codes p)
