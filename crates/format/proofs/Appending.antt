-- Text put into a lent buffer, piece by piece: `Appended`, from nothing to several pieces. Assumes nothing.
use Rattle.std.proofs.Common.{ℕ, ◌≡◌, ◌+◌, ◌≤◌, List, [], ◌++◌, length, refl, ◌∙◌, arith, length-append}
use Rattle.std.proofs.Math.Seq.{paste, take_all}
use Rattle.std.proofs.lemmas.List.Edits.{paste_none, paste-paste}
use Rattle.format.specs.Text.{Appended}

-- the buffer afterwards, as std says it of a copy
of_paste : (d : List ℕ) (at : ℕ) (s after : List ℕ) (r : ℕ) → after ≡ paste d at s (length s) → r ≡ at + length s → Appended d at s after r
of_paste d at s after r e next = record { next = next; holds = e ∙ rw (take_all (length s) s (omega arith)) }

as_paste : (d : List ℕ) (at : ℕ) (s after : List ℕ) (r : ℕ) → Appended d at s after r → after ≡ paste d at s (length s)
as_paste d at s after r p = rw (take_all (length s) s (omega arith)) p.holds

pub appended_none : (d : List ℕ) (at : ℕ) → Appended d at [] d at
appended_none d at = of_paste d at [] d at (paste_none d at []) (omega arith)

pub appended_more : (d : List ℕ) (at : ℕ) (s mid : List ℕ) (m : ℕ) (t after : List ℕ) (r : ℕ) → at ≤ length d → Appended d at s mid m → Appended mid m t after r → Appended d at (s ++ t) after r
appended_more d at s mid m t after r room p q =
    let both = length-append s t in
    let first = as_paste d at s mid m p in
    let second = as_paste mid m t after r q in
    let joined = paste-paste d at s t (length s) (length t) refl refl room in
    let next = p.next in
    let ends = q.next in
    of_paste d at (s ++ t) after r (rw both (second ∙ rw (first, next) joined)) (omega arith)
