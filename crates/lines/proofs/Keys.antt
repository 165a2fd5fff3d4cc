-- The key lines, one for each element that a list holds: one more of them, and the room for it. Assumes nothing.
use Prim.Native.Nat.{ℕ, zero, suc, ◌+◌, ◌≤◌, ◌<◌}
use native.Mathlib.Omega.{arith}
use native.Mathlib.Numerals.{add-one}
use native.Mathlib.Nat.{eq-or-lt_of_le, le_of_suc-le-suc}
use mathlib.Core.Path.{◌≡◌, refl, sym, ap, ◌∙◌, subst}
use mathlib.Core.Logic.{⊎_elim}
use mathlib.Core.List.{List, [], ◌∷◌, ◌++◌, append_assoc, append-nil}
use lib.Ieee.{Float}
use lib.ListN.{length, length-append}
use Rattle.lists.specs.Firsts.{firsts}
use Rattle.elements.specs.declared.element.KeyedElement.{KeyedElement}
use Rattle.elements.specs.Element.{element_at, elements_in}
use Rattle.format.specs.declared.text.Text.{Text}
use Rattle.format.specs.Growing.{Grown}
use Rattle.format.proofs.Growing.{grown_none, grown_more}
use Rattle.lines.specs.Lines.{key_line, key_lines}

keys_both : (es ds : List KeyedElement) → key_lines (es ++ ds) ≡ key_lines es ++ key_lines ds
unfolding key_lines
keys_both [] ds = refl
keys_both (e ∷ es) ds = rw (keys_both es ds) (sym (append_assoc (key_line e) (key_lines es) (key_lines ds)))

keys_one : (e : KeyedElement) → key_lines (e ∷ []) ≡ key_line e
unfolding key_lines
keys_one e = append-nil (key_line e)

keys_more : (l : List Float) (p : ℕ) → key_lines (elements_in l (suc p)) ≡ key_lines (elements_in l p) ++ key_line (element_at l p)
unfolding elements_in firsts
keys_more l p = keys_both (firsts (element_at l) p) (element_at l p ∷ []) ∙ ap (λ (t : List ℕ). key_lines (firsts (element_at l) p) ++ t) (keys_one (element_at l p))

-- ---- a turn of the loop

pub keys_none : (a : Text) (l : List Float) → Grown a (key_lines (elements_in l 0)) a
unfolding elements_in firsts key_lines
keys_none a l = grown_none a

pub keys_turn : (a b c : Text) (l : List Float) (p : ℕ) → Grown a (key_lines (elements_in l p)) b → Grown b (key_line (element_at l p)) c → Grown a (key_lines (elements_in l (p + 1))) c
keys_turn a b c l p before one = rw (add-one, keys_more l p) (grown_more a b c _ _ before one)

-- ---- room for one more

keys_longer : (l : List Float) (p : ℕ) → length (key_lines (elements_in l (suc p))) ≡ length (key_lines (elements_in l p)) + length (key_line (element_at l p))
keys_longer l p = ap length (keys_more l p) ∙ length-append (key_lines (elements_in l p)) (key_line (element_at l p))

room_here : (l : List Float) (p n : ℕ) → p ≡ n → length (key_lines (elements_in l p)) + length (key_line (element_at l p)) ≤ length (key_lines (elements_in l (suc n)))
room_here l p n e = subst (λ (k : ℕ). length (key_lines (elements_in l p)) + length (key_line (element_at l p)) ≤ length (key_lines (elements_in l (suc k)))) e (omega (arith, keys_longer l p))

pub keys_room : (l : List Float) (p n : ℕ) → p < n → length (key_lines (elements_in l p)) + length (key_line (element_at l p)) ≤ length (key_lines (elements_in l n))
keys_room l p zero h = absurd (omega arith)
keys_room l p (suc n) h =
    ⊎_elim (λ e. room_here l p n e) (λ b. let before = keys_room l p n b in let more = keys_longer l n in omega arith) (eq-or-lt_of_le (le_of_suc-le-suc h))
