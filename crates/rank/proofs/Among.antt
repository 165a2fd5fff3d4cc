-- A percentile is one of the list's numbers: what holds of each of them holds of it (`percentile_keeps`). Assumes
-- nothing.
use Rattle.std.proofs.Common.{Some}
use Prim.Native.Nat.{ℕ, ◌<◌}
use native.Mathlib.Omega.{arith}
use mathlib.Core.Path.{◌≡◌, sym, subst}
use mathlib.Core.List.{List, [], ◌∷◌}
use lib.ListN.{length, get_or}
use native.Mathlib.Nat.{zero-lt-suc, lt_of_lt_of_le, le_of_eq}
use lib.Ieee.{Float, nan}
use Rattle.std.proofs.lemmas.List.Elements.{All-from_get_or, recursion_from_All}
use Rattle.rank.specs.Order.{sorted}
use Rattle.rank.specs.Select.{rank_of, percentile_of}
use Rattle.rank.proofs.Sorted.{Every, every_at, sorted_every, sorted_length, rank_lt}

-- what holds at every index below the length
pub every_of : (P : Float → Type 0) (l : List Float) → ((i : ℕ) → i < length l → P (get_or l i nan)) → Every P l
every_of P l h = recursion_from_All P l (All-from_get_or P l nan h)

pub percentile_keeps : (P : Float → Type 0) (l : List Float) (p v : Float) → ((i : ℕ) → i < length l → P (get_or l i nan)) → percentile_of l p ≡ Some v → P v
unfolding percentile_of
percentile_keeps P [] p v h e = let z : ◌≡◌ {A = ℕ} 0 1 = cc in absurd (omega arith)
percentile_keeps P (x ∷ xs) p v h e =
    let l = x ∷ xs in
    let r = rank_of (length l) p in
    let same : get_or (sorted l) r nan ≡ v = cc in
    subst P same
    (every_at P (sorted l) (sorted_every P l (every_of P l h)) r (lt_of_lt_of_le (rank_lt (length l) p (zero-lt-suc (length xs))) (le_of_eq (sym (sorted_length l)))))
