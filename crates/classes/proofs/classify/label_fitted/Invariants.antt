-- The elements of the first fits have labelled.
use mathlib.Core.Path.{◌≡◌}
use Rattle.fits.specs.List.{fits_in}
use Rattle.classes.specs.Classify.{in_turn}
use Rattle.classes.specs.Inner.{element_labelled}
use Rattle.classes.proofs.classify.label_fitted.Given as goal

abbrev pub invariant-loop-place : goal.invariant-loop-place
invariant-loop-place l = l.class ≡ in_turn (λ f. element_labelled l.w.rate.hz f.element) (fits_in l.fits.numbers.now l.place-index) l.initial.class
