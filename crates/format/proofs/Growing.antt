-- Text that grows in a lent buffer, piece by piece: `Grown`, of no text and of several pieces. Assumes nothing.
use Prim.Native.Nat.{ℕ}
use mathlib.Core.Path.{refl, ◌∙◌}
use mathlib.Core.List.{List, [], ◌++◌}
use Rattle.format.specs.declared.text.Text.{Text}
use Rattle.format.specs.Growing.{Grown}
use Rattle.format.proofs.Appending.{appended_none, appended_more}

pub grown_none : (a : Text) → Grown a [] a
grown_none a = record { same_buffer = refl; as_long = refl; grown = appended_none _ _ }

pub grown_more : (a b c : Text) (s t : List ℕ) → Grown a s b → Grown b t c → Grown a (s ++ t) c
grown_more a b c s t p q =
    record { same_buffer = q.same_buffer ∙ p.same_buffer; as_long = q.as_long ∙ p.as_long; grown = appended_more _ _ _ _ _ _ _ _ a.within p.grown q.grown }
