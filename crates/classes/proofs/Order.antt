-- What the order of labelling comes to: the rim wins over everything, the last fit over those before it, and a block
-- near any element, fitted or only found, is no gap.
use Prim.Native.Nat.{ℕ}
use mathlib.Core.Path.{◌≡◌, refl, ap, ◌∙◌}
use mathlib.Core.Bool.{Bool, true, false, ◌||◌, cond, or-true}
use mathlib.Core.List.{List, [], ◌∷◌, ◌++◌, map, map-append, append_assoc}
use lib.Ieee.{Float}
use Rattle.elements.specs.declared.element.KeyedElement.{KeyedElement}
use Rattle.fits.specs.declared.fit.ElementFit.{ElementFit}
use Rattle.classes.specs.declared.class.BlockClass.{BlockClass}
use Rattle.classes.specs.declared.class.BlockClass.TheVariants.{Edge, Interior, Gap, Other}
use Rattle.classes.specs.Class.{is_class}
use Rattle.classes.specs.Classify.{Times, times_of, times_of_fit, in_turn, near, inside, at_edge, element_labels, fit_labels, on_rim, class_at, class_of}
use Rattle.classes.proofs.Turns.{turns_append}

module _ (fs : Float) (n b : ℕ) (fits : List ElementFit) (elements : List KeyedElement) where
  pub rim_is_other : on_rim fs n b ≡ true → class_of fs n fits elements b ≡ Other
  unfolding class_at
  rim_is_other h = rw h

  -- off the rim, the last fit
  module _ (f : ElementFit) (off : on_rim fs n b ≡ false) where
    last_labels : (c : BlockClass) × (class_of fs n (fits ++ (f ∷ [])) elements b ≡ fit_labels fs b (times_of_fit f) c)
    unfolding class_at in_turn
    last_labels =
        let before = map times_of_fit fits in
        let all = map times_of_fit (fits ++ (f ∷ [])) ++ map times_of elements in (
          in_turn (fit_labels fs b) before (in_turn (element_labels fs b) all Gap),
          rw off
              (ap (λ ts. in_turn (fit_labels fs b) ts (in_turn (element_labels fs b) all Gap)) (map-append times_of_fit fits (f ∷ []))
              ∙ turns_append (fit_labels fs b) before (times_of_fit f ∷ []) (in_turn (element_labels fs b) all Gap)),
        )

    pub last_start_is_edge : at_edge fs f.element.start b ≡ true → class_of fs n (fits ++ (f ∷ [])) elements b ≡ Edge
    unfolding fit_labels
    last_start_is_edge h = last_labels.1 ∙ rw h

    pub last_end_is_edge : at_edge fs f.element.end b ≡ true → class_of fs n (fits ++ (f ∷ [])) elements b ≡ Edge
    unfolding fit_labels
    last_end_is_edge h = last_labels.1 ∙ rw (h, or-true (at_edge fs f.element.start b))

    -- its interior goes over an edge of a fit before it
    pub last_inside_is_interior : at_edge fs f.element.start b ≡ false → at_edge fs f.element.end b ≡ false → inside fs (times_of_fit f) b ≡ true
        → class_of fs n (fits ++ (f ∷ [])) elements b ≡ Interior
    unfolding fit_labels
    last_inside_is_interior h g i = last_labels.1 ∙ rw (h, g, i)

-- ---- what is no gap stays none
abbrev NoGap : BlockClass → Type 0
NoGap c = is_class Gap c ≡ false

module _ (fs : Float) (b : ℕ) where
  element_kept : (t : Times) (c : BlockClass) → NoGap c → NoGap (element_labels fs b t c)
  unfolding element_labels
  element_kept t c h = go (near fs t b)
    where
      go : (s : Bool) → NoGap (cond s Other c)
      go true = refl
      go false = h

  fit_kept : (t : Times) (c : BlockClass) → NoGap c → NoGap (fit_labels fs b t c)
  unfolding fit_labels
  fit_kept t c h = go (at_edge fs t.start b || at_edge fs t.end b) (inside fs t b)
    where
      go : (s i : Bool) → NoGap (cond s Edge (cond i Interior c))
      go true i = refl
      go false true = refl
      go false false = h

turns_kept : (labels : Times → BlockClass → BlockClass) → ((t : Times) (c : BlockClass) → NoGap c → NoGap (labels t c))
    → (ts : List Times) (c : BlockClass) → NoGap c → NoGap (in_turn labels ts c)
unfolding in_turn
turns_kept labels one [] c h = h
turns_kept labels one (t ∷ ts) c h = turns_kept labels one ts (labels t c) (one t c h)

elements_label : (fs : Float) (b : ℕ) (before after : List Times) (t : Times) → near fs t b ≡ true → NoGap (in_turn (element_labels fs b) (before ++ (t ∷ after)) Gap)
unfolding in_turn element_labels
elements_label fs b before after t h =
    rw (turns_append (element_labels fs b) before (t ∷ after) Gap, h) (turns_kept (element_labels fs b) (element_kept fs b) after Other refl)

-- A block within three rises of an element is no gap, whether the element has a fit or is too short for one.
pub near_no_gap : (fs : Float) (n b : ℕ) (fitted found before after : List Times) (t : Times)
    → fitted ++ found ≡ before ++ (t ∷ after) → near fs t b ≡ true → is_class Gap (class_at fs n fitted found b) ≡ false
unfolding class_at
near_no_gap fs n b fitted found before after t e h = go (on_rim fs n b)
  where
    go : (s : Bool) → NoGap (cond s Other (in_turn (fit_labels fs b) fitted (in_turn (element_labels fs b) (fitted ++ found) Gap)))
    go true = refl
    go false = turns_kept (fit_labels fs b) (fit_kept fs b) fitted _ (rw e (elements_label fs b before after t h))

pub found_no_gap : (fs : Float) (n b : ℕ) (fits : List ElementFit) (before after : List KeyedElement) (e : KeyedElement)
    → near fs (times_of e) b ≡ true → is_class Gap (class_of fs n fits (before ++ (e ∷ after)) b) ≡ false
found_no_gap fs n b fits before after e h =
    let fitted = map times_of_fit fits in
    near_no_gap fs n b fitted _ (fitted ++ map times_of before) (map times_of after) (times_of e)
    (rw (map-append times_of before (e ∷ after), append_assoc fitted (map times_of before) (times_of e ∷ map times_of after))) h
