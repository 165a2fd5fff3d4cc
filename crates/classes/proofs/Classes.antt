-- A slice that holds the numbers of a row of classes: what labelling makes of it, and what `classify_blocks` leaves in
-- it.
use Prim.Native.Nat.{ℕ, ◌<◌}
use mathlib.Core.Path.{◌≡◌, refl, sym, ap, ◌∙◌}
use mathlib.Core.Bool.{Bool, true, false, ◌||◌, cond}
use mathlib.Core.List.{List, [], ◌∷◌, map}
use lib.ListN.{length, get_or}
use lib.Ieee.{Float, nan}
use Rattle.lists.specs.Firsts.{firsts}
use Rattle.lists.proofs.Firsts.{length_firsts, get_d_firsts, firsts_cong}
use Rattle.elements.specs.declared.element.KeyedElement.{KeyedElement}
use Rattle.fits.specs.declared.fit.ElementFit.{ElementFit}
use Rattle.classes.specs.declared.class.BlockClass.{BlockClass}
use Rattle.classes.specs.declared.class.BlockClass.TheVariants.{Edge, Interior, Gap, Other}
use Rattle.classes.specs.Class.{code_of, codes_of}
use Rattle.classes.specs.Classify.{times_of, times_of_fit, in_turn, near, inside, at_edge, element_labels, fit_labels, on_rim, class_at, class_of}
use Rattle.classes.specs.Inner.{labelled, element_labelled, fit_labelled}
use Rattle.classes.proofs.Turns.{turns_append, turns_map}

-- ---- what such a slice holds
module _ (f : ℕ → BlockClass) (n : ℕ) (l : List Float) (e : l ≡ codes_of f n) where
  pub codes_length : length l ≡ n
  codes_length = ap length e ∙ length_firsts (λ b. code_of (f b)) n

  pub code_at : (b : ℕ) → b < n → get_or l b nan ≡ code_of (f b)
  code_at b h = ap (λ (k : List Float). get_or k b nan) e ∙ get_d_firsts (λ b. code_of (f b)) n b nan h

  -- a class over what is there
  pub label_codes : (p : ℕ → Bool) (c : BlockClass) → labelled l p (code_of c) ≡ codes_of (λ b. cond (p b) c (f b)) n
  unfolding labelled
  label_codes p c =
      ap (firsts (λ b. cond (p b) (code_of c) (get_or l b nan))) codes_length
      ∙ firsts_cong _ _ n (λ b h. ap (cond (p b) (code_of c)) (code_at b h) ∙ either (p b) (f b))
    where
      either : (t : Bool) (d : BlockClass) → cond t (code_of c) (code_of d) ≡ code_of (cond t c d)
      either true d = refl
      either false d = refl

-- ---- one after the other
pub turns_codes : {A : Type 0} (labels : A → List Float → List Float) (rule : ℕ → A → BlockClass → BlockClass) (n : ℕ)
    → ((x : A) (l : List Float) (f : ℕ → BlockClass) → l ≡ codes_of f n → labels x l ≡ codes_of (λ b. rule b x (f b)) n)
    → (xs : List A) (l : List Float) (f : ℕ → BlockClass) → l ≡ codes_of f n → in_turn labels xs l ≡ codes_of (λ b. in_turn (rule b) xs (f b)) n
unfolding in_turn
turns_codes labels rule n one [] l f e = e
turns_codes labels rule n one (x ∷ xs) l f e = turns_codes labels rule n one xs (labels x l) (λ b. rule b x (f b)) (one x l f e)

module _ (fs : Float) (n : ℕ) where
  element_codes : (e : KeyedElement) (l : List Float) (f : ℕ → BlockClass) → l ≡ codes_of f n
      → element_labelled fs e l ≡ codes_of (λ b. element_labels fs b (times_of e) (f b)) n
  unfolding element_labels
  element_codes e l f h = label_codes f n l h (near fs (times_of e)) Other

  fit_codes : (e : KeyedElement) (l : List Float) (f : ℕ → BlockClass) → l ≡ codes_of f n → fit_labelled fs e l ≡ codes_of (λ b. fit_labels fs b (times_of e) (f b)) n
  unfolding fit_labels
  fit_codes e l f h =
      label_codes (λ b. cond (inside fs (times_of e) b) Interior (f b)) n (labelled l (inside fs (times_of e)) (code_of Interior))
      (label_codes f n l h (inside fs (times_of e)) Interior) (λ b. at_edge fs e.start b || at_edge fs e.end b) Edge

-- ---- the five steps of `classify_blocks`
module _ (fs : Float) (n : ℕ) (fits : List ElementFit) (elements : List KeyedElement) (l l0 l1 l2 l3 l4 : List Float) (blocks : ℕ) where
  pub class_by_steps : length l ≡ blocks → l0 ≡ labelled l (λ b. true) (code_of Gap) → l1 ≡ in_turn (λ f. element_labelled fs f.element) fits l0
      → l2 ≡ in_turn (element_labelled fs) elements l1 → l3 ≡ in_turn (λ f. fit_labelled fs f.element) fits l2 → l4 ≡ labelled l3 (on_rim fs n) (code_of Other)
      → l4 ≡ codes_of (class_of fs n fits elements) blocks
  unfolding labelled class_at
  class_by_steps h e0 e1 e2 e3 e4 =
      let g0 : l0 ≡ codes_of (λ b. Gap) blocks = e0 ∙ ap (firsts (λ b. code_of Gap)) h in
      let g1 = e1 ∙ turns_codes _ (λ b f. element_labels fs b (times_of_fit f)) blocks (λ f. element_codes fs blocks f.element) fits l0 (λ b. Gap) g0 in
      let g2 = e2 ∙ turns_codes _ (λ b e. element_labels fs b (times_of e)) blocks (element_codes fs blocks) elements l1 _ g1 in
      let g3 = e3 ∙ turns_codes _ (λ b f. fit_labels fs b (times_of_fit f)) blocks (λ f. fit_codes fs blocks f.element) fits l2 _ g2 in
      e4 ∙ label_codes _ blocks l3 g3 (on_rim fs n) Other
      ∙ firsts_cong _ _ blocks
      (λ b i.
      ap (λ (c : BlockClass). code_of (cond (on_rim fs n b) Other c))
      (sym
      (turns_map (fit_labels fs b) times_of_fit fits _
      ∙ ap (in_turn (λ f. fit_labels fs b (times_of_fit f)) fits)
      (turns_append (element_labels fs b) (map times_of_fit fits) (map times_of elements) Gap
      ∙ turns_map (element_labels fs b) times_of elements _
      ∙ ap (in_turn (λ e. element_labels fs b (times_of e)) elements) (turns_map (element_labels fs b) times_of_fit fits Gap)))))
