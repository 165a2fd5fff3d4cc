-- A cell that is narrowed to the ends of its ordinals has the same ordinals (`narrowed`), so a rank in it stays
-- (`rank_narrowed`). Assumes nothing.
use mathlib.Core.Path.{◌≡◌, sym, ap, ◌∙◌}
use mathlib.Core.List.{List}
use Prim.Native.Nat.{ℕ, ◌-◌, ◌/◌, ◌^◌, ◌≤◌, ◌<◌}
use native.Mathlib.Omega.{arith}
use borrow.Author.Tests.{eqb-true}
use Rattle.std.proofs.lemmas.Bool.Decides.{nat_tests}
use lib.Dec.{ltb, eqb}
use lib.Pow.{shr-shr, shr_mono}
use lib.ListN.{length}
use lib.Ieee.{Float}
use Rattle.lists.proofs.Count.{count_cong, count_some}
use Rattle.rank.specs.Inner.{ordinal_at, cell, below, Between, SameOrdinals, RankIn}

-- ---- a cell of a cell
-- where the numbers of one cell are one number, that number divides as the cell does
finer_ltb : (q a u : ℕ) → (q / 2 ^ u ≡ a / 2 ^ u → q ≡ a) → ltb q a ≡ ltb (q / 2 ^ u) (a / 2 ^ u)
finer_ltb q a u one = let h = shr_mono {a = q} {b = a} u in let k = shr_mono {a = a} {b = q} u in grind (arith, nat_tests)

finer_eqb : (q a u : ℕ) → (q / 2 ^ u ≡ a / 2 ^ u → q ≡ a) → eqb q a ≡ eqb (q / 2 ^ u) (a / 2 ^ u)
finer_eqb q a u one = grind (arith, nat_tests)

module _ {l : List Float} {s p t q lo hi : ℕ} (b : Between l (2 ^ s) p (length l) lo hi) (low : lo / 2 ^ t ≡ q) (high : hi / 2 ^ t ≡ q) (h : t < s) (some : 0 < cell (ordinal_at l) (2 ^ s) p (length l)) where
  coarser : (x : ℕ) → x / 2 ^ t / 2 ^ (s - t) ≡ x / 2 ^ s
  coarser x = shr-shr x t (s - t) ∙ ap (λ (i : ℕ). x / 2 ^ i) (omega arith)

  -- all the ordinals of the cell begin with q
  begins : (i : ℕ) → i < length l → ordinal_at l i / 2 ^ s ≡ p → ordinal_at l i / 2 ^ t ≡ q
  begins i g e =
      let a : lo / 2 ^ t ≤ ordinal_at l i / 2 ^ t = shr_mono t (b.from i g e) in
      let c : ordinal_at l i / 2 ^ t ≤ hi / 2 ^ t = shr_mono t (b.to i g e) in
      omega arith

  -- and there is one, so q begins with p
  prefix : q / 2 ^ (s - t) ≡ p
  unfolding cell
  prefix =
      let w = count_some (λ i. eqb (ordinal_at l i / 2 ^ s) p) (length l) some in
      let e : ordinal_at l w.0 / 2 ^ s ≡ p = eqb-true (ordinal_at l w.0 / 2 ^ s) p w.2 in
      ap (λ (x : ℕ). x / 2 ^ (s - t)) (sym (begins w.0 w.1 e)) ∙ coarser (ordinal_at l w.0) ∙ e

  one : (i : ℕ) → i < length l → ordinal_at l i / 2 ^ t / 2 ^ (s - t) ≡ q / 2 ^ (s - t) → ordinal_at l i / 2 ^ t ≡ q
  one i g e = begins i g (sym (coarser (ordinal_at l i)) ∙ e ∙ prefix)

  pub narrowed : SameOrdinals l s p t q
  unfolding cell below
  narrowed = record {
    shorter = omega arith;
    under =
        count_cong (λ i. ltb (ordinal_at l i / 2 ^ t) q) (λ i. ltb (ordinal_at l i / 2 ^ s) p) (length l)
        (λ (i : ℕ) (g : i < length l). finer_ltb (ordinal_at l i / 2 ^ t) q (s - t) (one i g) ∙ rw (coarser (ordinal_at l i), prefix));
    inside =
        count_cong (λ i. eqb (ordinal_at l i / 2 ^ t) q) (λ i. eqb (ordinal_at l i / 2 ^ s) p) (length l)
        (λ (i : ℕ) (g : i < length l). finer_eqb (ordinal_at l i / 2 ^ t) q (s - t) (one i g) ∙ rw (coarser (ordinal_at l i), prefix));
  }

pub rank_narrowed : {l : List Float} {s p t q rank left : ℕ} → SameOrdinals l s p t q → RankIn l (2 ^ s) rank p left → RankIn l (2 ^ t) rank q left
rank_narrowed n r = record { under = rw n.under r.under; inside = rw n.inside r.inside }
