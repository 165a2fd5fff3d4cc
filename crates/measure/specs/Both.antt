-- Both measures at an estimate (01, part 6), and how many blocks have each class (01, part 5). Definitions only.
use Rattle.std.specs.Prelude.{List, Float}
use Rattle.row.specs.Window.{samples, blocks, window_of}
use Rattle.elements.specs.declared.element.KeyedElement.{KeyedElement}
use Rattle.fits.specs.declared.fit.ElementFit.{ElementFit}
use Rattle.classes.specs.Classify.{class_of, counts_of}
use Rattle.measure.specs.declared.both.Measures.{Measures}
use Rattle.measure.specs.Residual.{residual_check_of}
use Rattle.measure.specs.Evidence.{evidence_check_of}

-- of a recording at a rate and an estimate: its carrier, fits and elements
unfoldable pub measures_of : List Float → Float → Float → List ElementFit → List KeyedElement → Measures
measures_of iq fs carrier fits elements =
    record {
      blocks = blocks iq (window_of fs);
      classes = counts_of (class_of fs (samples iq) fits elements) (blocks iq (window_of fs));
      residual = residual_check_of iq fs carrier fits elements;
      evidence = evidence_check_of iq fs carrier fits elements;
    }
