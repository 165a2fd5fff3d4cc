-- Gap blocks above a level, and pairs of them: the ways out of each test, and the loops over the blocks.
use Prim.Native.Nat.{ℕ, zero, suc, ◌+◌, ◌-◌, ◌≤◌, ◌<◌}
use native.Mathlib.Omega.{arith}
use mathlib.Core.Path.{◌≡◌, refl, sym, ◌∙◌}
use mathlib.Core.Bool.{Bool, true, false, false≢true}
use mathlib.Core.List.{List, [], ◌∷◌, ◌++◌}
use lib.Ieee.{Float}
use Rattle.float.specs.Ops.{◌⊗◌, bits}
use Rattle.float.specs.Ops as float
use Rattle.constants.proofs.Bits.{hot_factor_bits}
use Rattle.lists.specs.Count.{count_to}
use Rattle.lists.specs.Those.{picked}
use Rattle.lists.specs.Sums.{sum_over}
use Rattle.lists.proofs.Count.{count_most}
use Rattle.lists.proofs.Every.{and_left}
use Rattle.lists.proofs.Sums.{over_more}
use Rattle.complex.specs.declared.value.Complex.{Complex}
use Rattle.complex.specs.Value.{c_zero, c_add, c_norm}
use Rattle.gaps.specs.declared.pairs.Gaps.{Gaps}
use Rattle.gaps.specs.declared.pairs.Pairs.{Pairs}
use Rattle.gaps.specs.Inner.{pair_plus}
use Rattle.gaps.specs.Pairs.{above, gaps_of, preceded, pair_at, lagged, products, c_over, pairs_of}
use Rattle.gaps.proofs.Counted.{count_yes, count_no, picked_yes, picked_no}

-- ---- the tests

module _ (s : ℕ → Bool) where
  pub preceded_none : (b : ℕ) → b ≤ 0 → false ≡ preceded s b
  unfolding preceded
  preceded_none b h = let none : b ≡ 0 = omega arith in rw none

  pub preceded_some : (b : ℕ) (t : Bool) → 0 < b → t ≡ s (b - 1) → t ≡ preceded s b
  unfolding preceded
  preceded_some zero t h e = absurd (omega arith)
  preceded_some (suc a) t h e = let here : suc a - 1 ≡ a = omega arith in rw here at e

  -- a block before b is there
  pub preceded_there : (b : ℕ) → preceded s b ≡ true → 1 ≤ b
  unfolding preceded
  preceded_there zero e = absurd (false≢true e)
  preceded_there (suc a) e = omega arith

  -- a pair ends at no block 0
  pub pair_later : (b : ℕ) → pair_at s b ≡ true → 1 ≤ b
  unfolding pair_at
  pair_later b e = preceded_there b (and_left (preceded s b) (s b) e)

-- ---- how many gap blocks there are, and how many of them are hot

pub gaps_are : (gap : ℕ → Bool) (z : ℕ → Complex) (ref : Float) (n m h : ℕ)
    → m ≡ count_to gap n → h ≡ count_to (above gap z (bits 0x4010_0000_0000_0000 ⊗ ref)) n
    → ◌≡◌ {A = Gaps} (record { blocks = m; hot = h }) (gaps_of gap z ref n)
unfolding gaps_of
gaps_are gap z ref n m h p q = rw (hot_factor_bits, p, q)

-- ---- one more product

pub c_over_more : (start : Complex) (xs : List Complex) (x : Complex) → c_over start (xs ++ (x ∷ [])) ≡ c_add (c_over start xs) x
unfolding c_over
c_over_more start [] x = refl
c_over_more start (y ∷ xs) x = c_over_more (c_add start y) xs x

-- ---- the loop over the pairs

module _ (s : ℕ → Bool) (z : ℕ → Complex) where
  pub pairs_none : pairs_of s z 0 ≡ record { count = 0; sum = c_zero; size = float.plus_zero }
  unfolding pairs_of count_to picked c_over sum_over
  pairs_none = refl

  pub pairs_yes : (b : ℕ) (found r : Pairs) (t : Bool) (p : Complex)
      → found ≡ pairs_of s z b → t ≡ pair_at s b → t ≡ true → p ≡ lagged z b → r ≡ pair_plus found p → r ≡ pairs_of s z (b + 1)
  unfolding pairs_of
  pairs_yes b found r t p f e h q g =
      let yes : pair_at s b ≡ true = sym e ∙ h in
      rw (
        g,
        f,
        q,
        ← count_yes (pair_at s) b _ _ t refl e h refl,
        picked_yes (pair_at s) (lagged z) b yes,
        c_over_more c_zero (products s z b) (lagged z b),
        over_more c_norm float.plus_zero (products s z b) (lagged z b),
      )

  pub pairs_no : (b : ℕ) (found r : Pairs) (t : Bool) → found ≡ pairs_of s z b → t ≡ pair_at s b → t ≡ false → r ≡ found → r ≡ pairs_of s z (b + 1)
  unfolding pairs_of
  pairs_no b found r t f e h g =
      let no : pair_at s b ≡ false = sym e ∙ h in
      rw (g, f, ← count_no (pair_at s) b _ _ t refl e h refl, picked_no (pair_at s) (lagged z) b no)

  pub pairs_done : (n k : ℕ) (found : Pairs) → found ≡ pairs_of s z k → k ≤ n → n ≤ k → found ≡ pairs_of s z n
  pairs_done n k found f h g = let all : k ≡ n = omega arith in rw all at f

  pub pairs_few : (b : ℕ) (found : Pairs) → found ≡ pairs_of s z b → found.count ≤ b
  unfolding pairs_of
  pairs_few b found f = rw f (count_most (pair_at s) b)
