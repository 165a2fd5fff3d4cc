-- Both measures of the blocks that one prepared slice holds. Assumes nothing.
use Prim.Native.Nat.{ℕ}
use mathlib.Core.Path.{◌≡◌}
use mathlib.Core.List.{List}
use lib.Ieee.{Float}
use Rattle.row.specs.Window.{window_of, samples}
use Rattle.row.specs.Window as window
use Rattle.elements.specs.declared.element.KeyedElement.{KeyedElement}
use Rattle.fits.specs.declared.fit.ElementFit.{ElementFit}
use Rattle.complex.specs.Rows.{z_at}
use Rattle.classes.specs.declared.class.BlockClass.TheVariants.{Gap, Interior}
use Rattle.classes.specs.declared.classify.ClassCounts.{ClassCounts}
use Rattle.classes.specs.Classify.{class_of, counts_of, counts_in}
use Rattle.classes.proofs.Counts.{counts_hold}
use Rattle.measure.specs.declared.residual.ResidualCheck.{ResidualCheck}
use Rattle.measure.specs.declared.evidence.SecondCarrierEvidence.{SecondCarrierEvidence}
use Rattle.measure.specs.declared.both.Measures.{Measures}
use Rattle.prepared.specs.Inner.{of_class}
use Rattle.measure.specs.Inner.{Held, residual_held}
use Rattle.measure.specs.Residual.{residual_check_of}
use Rattle.gaps.specs.Reference.{mean_at}
use Rattle.measure.specs.Evidence.{evidence_by, evidence_check_of}
use Rattle.measure.specs.Both.{measures_of}
use Rattle.measure.proofs.Figures as residuals
use Rattle.measure.proofs.Evidences as evidences

pub measures_are : (iq iq' : List Float) (fs fs' carrier carrier' : Float) (fits : List ElementFit) (elements : List KeyedElement) (blocks : ℕ) (means codes : List Float)
    (classes : ClassCounts) (residual : ResidualCheck) (evidence : SecondCarrierEvidence)
    → (iq' ≡ iq) × (fs' ≡ fs) × (carrier' ≡ carrier) → blocks ≡ window.blocks iq (window_of fs)
    → Held means codes (mean_at iq fs carrier) (class_of fs (samples iq) fits elements) (window.blocks iq (window_of fs))
    → classes ≡ counts_in codes → residual ≡ residual_held means codes blocks fs' fits
    → evidence ≡ evidence_by (mean_at iq' fs') fs' carrier' (of_class codes Gap) (of_class codes Interior) (z_at means) blocks
    → ◌≡◌ {A = Measures} (record { blocks = blocks; classes = classes; residual = residual; evidence = evidence }) (measures_of iq fs carrier fits elements)
unfolding measures_of
measures_are iq iq' fs fs' carrier carrier' fits elements blocks means codes classes residual evidence g b p c r e =
    let class = class_of fs (samples iq) fits elements in
    let n = window.blocks iq (window_of fs) in
    let counts : classes ≡ counts_of class n = rw c (counts_hold class n codes p.classes) in
    let check : residual ≡ residual_check_of iq fs carrier fits elements = residuals.check_is fs fs' means codes (mean_at iq fs carrier) class blocks n fits residual g.1 b p r in
    let found : evidence ≡ evidence_check_of iq fs carrier fits elements = evidences.check_is iq iq' fs fs' carrier carrier' class blocks n means codes evidence g b p e in
    rw (counts, check, found, b)
