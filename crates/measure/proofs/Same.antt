-- The evidence depends on the gap blocks and the interior blocks alone: rows that agree there have the same reference
-- (`reference_same`) and the same evidence (`evidence_same`).
use Prim.Native.Nat.{ℕ, zero, suc, ◌+◌, ◌-◌, ◌<◌}
use native.Mathlib.Omega.{arith}
use mathlib.Core.Path.{◌≡◌, refl, ap, ◌∙◌}
use mathlib.Core.Bool.{Bool, true, false, ◌&&◌, ◌||◌, cond, false≢true}
use mathlib.Core.List.{List, [], ◌∷◌, ◌++◌, append-nil}
use borrow.Author.Tests.{ltb-true}
use lib.Dec.{ltb}
use lib.Ieee.{Float, neg, lt}
use Rattle.float.specs.Ops.{◌⊕◌, ◌⊖◌, ◌⊘◌, of, minus_zero}
use Rattle.lists.specs.Those.{picked}
use Rattle.lists.specs.Sums.{sum_over}
use Rattle.lists.proofs.Count.{count_cong}
use Rattle.lists.proofs.Every.{and_left, and_right}
use Rattle.lists.proofs.Sums.{over_more}
use Rattle.lists.proofs.Those.{picked_cong}
use Rattle.constants.specs.Constants.{REFERENCE_OFFSET_HZ}
use Rattle.complex.specs.declared.value.Complex.{Complex}
use Rattle.complex.specs.Value.{c_norm_sqr}
use Rattle.row.specs.Window.{window_of}
use Rattle.prepared.specs.Powers.{block_power}
use Rattle.gaps.specs.Reference.{reference_by}
use Rattle.gaps.specs.Pairs.{above, hot, strong, gaps_of, preceded, followed, pair_at, lagged, pairs_of, in_pair, pair_blocks}
use Rattle.measure.specs.Offset.{power_at, stronger, strongest, offset_from}
use Rattle.measure.specs.Evidence.{evidence_with, evidence_by}

-- ---- tests that agree have the same pairs

module _ (s t : ℕ → Bool) (blocks : ℕ) (same : (b : ℕ) → b < blocks → s b ≡ t b) where
  preceded_same : (b : ℕ) → b < blocks → preceded s b ≡ preceded t b
  unfolding preceded
  preceded_same zero h = refl
  preceded_same (suc a) h = same a (omega arith)

  followed_same : (b : ℕ) → followed s blocks b ≡ followed t blocks b
  unfolding followed
  followed_same b = go (ltb (b + 1) blocks) refl
    where
      go : (c : Bool) → ltb (b + 1) blocks ≡ c → (c && s (b + 1)) ≡ (c && t (b + 1))
      go true e = same (b + 1) (ltb-true (b + 1) blocks e)
      go false e = refl

  pub pair_same : (b : ℕ) → b < blocks → pair_at s b ≡ pair_at t b
  unfolding pair_at
  pair_same b h = rw (preceded_same b h, same b h)

  in_same : (b : ℕ) → b < blocks → in_pair s blocks b ≡ in_pair t blocks b
  unfolding in_pair
  in_same b h = rw (same b h, preceded_same b h, followed_same b)

  pub blocks_same : pair_blocks s blocks ≡ pair_blocks t blocks
  blocks_same = picked_cong (in_pair s blocks) (in_pair t blocks) (λ b. b) (λ b. b) blocks in_same (λ b h e. refl)

-- both blocks of a pair are strong
pub pair_first : (s : ℕ → Bool) (b : ℕ) → pair_at s b ≡ true → s (b - 1) ≡ true
unfolding pair_at preceded
pair_first s zero e = absurd (false≢true e)
pair_first s (suc a) e = let here : suc a - 1 ≡ a = omega arith in rw here (and_left (s a) (s (suc a)) e)

pub pair_second : (s : ℕ → Bool) (b : ℕ) → pair_at s b ≡ true → s b ≡ true
unfolding pair_at
pair_second s b e = and_right (preceded s b) (s b) e

pub in_strong : (s : ℕ → Bool) (blocks b : ℕ) → in_pair s blocks b ≡ true → s b ≡ true
unfolding in_pair
in_strong s blocks b e = and_left (s b) (preceded s b || followed s blocks b) e

-- what is above a level is a gap block
pub above_gap : (gap : ℕ → Bool) (z : ℕ → Complex) (level : Float) (b : ℕ) → above gap z level b ≡ true → gap b ≡ true
unfolding above
above_gap gap z level b e = and_left (gap b) (lt level (block_power z b)) e

-- ---- rows of means that agree at the gap blocks

module _ (gap gap' : ℕ → Bool) (z z' : ℕ → Complex) (blocks : ℕ) (same : (b : ℕ) → b < blocks → gap b ≡ gap' b) (alike : (b : ℕ) → b < blocks → gap' b ≡ true → z b ≡ z' b) where
  above_same : (level : Float) (b : ℕ) → b < blocks → above gap z level b ≡ above gap' z' level b
  unfolding above
  above_same level b h = rw (same b h) (go (gap' b) refl)
    where
      go : (c : Bool) → gap' b ≡ c → (c && lt level (block_power z b)) ≡ (c && lt level (block_power z' b))
      go true e = rw (alike b h e)
      go false e = refl

  pub gaps_same : (ref : Float) → gaps_of gap z ref blocks ≡ gaps_of gap' z' ref blocks
  unfolding gaps_of
  gaps_same ref =
      rw (count_cong gap gap' blocks same, count_cong (hot gap z ref) (hot gap' z' ref) blocks (λ b h. above_same _ b h))

  pub pairs_same : (ref : Float) → pairs_of (strong gap z ref) z blocks ≡ pairs_of (strong gap' z' ref) z' blocks
  unfolding pairs_of
  pairs_same ref =
      rw (
        count_cong (pair_at s) (pair_at t) blocks (pair_same s t blocks tests),
        picked_cong (pair_at s) (pair_at t) (lagged z) (lagged z') blocks (pair_same s t blocks tests) product_same,
      )
    where
      s : ℕ → Bool
      s = strong gap z ref

      t : ℕ → Bool
      t = strong gap' z' ref

      tests : (b : ℕ) → b < blocks → s b ≡ t b
      tests b h = above_same _ b h

      product_same : (b : ℕ) → b < blocks → pair_at t b ≡ true → lagged z b ≡ lagged z' b
      product_same b h e =
          let one : gap' (b - 1) ≡ true = above_gap gap' z' _ (b - 1) (pair_first t b e) in
          let two : gap' b ≡ true = above_gap gap' z' _ b (pair_second t b e) in
          rw (alike b h two, alike (b - 1) (omega arith) one)

  pub strong_same : (ref : Float) → pair_blocks (strong gap z ref) blocks ≡ pair_blocks (strong gap' z' ref) blocks
  strong_same ref = blocks_same (strong gap z ref) (strong gap' z' ref) blocks (λ b h. above_same _ b h)

-- ---- powers at other carriers

pub over_same : (p : ℕ → Bool) (f g : ℕ → Float) (start : Float) (n : ℕ) → ((k : ℕ) → k < n → p k ≡ true → f k ≡ g k)
    → sum_over f start (picked p (λ k. k) n) ≡ sum_over g start (picked p (λ k. k) n)
unfolding picked sum_over
over_same p f g start zero h = refl
over_same p f g start (suc n) h = go (p n) refl (over_same p f g start n (λ k l. h k (omega arith)))
  where
    before_n : List ℕ
    before_n = picked p (λ k. k) n

    go : (c : Bool) → p n ≡ c → sum_over f start before_n ≡ sum_over g start before_n
        → sum_over f start (before_n ++ cond c (n ∷ []) []) ≡ sum_over g start (before_n ++ cond c (n ∷ []) [])
    go true e i = rw (over_more f start before_n n, over_more g start before_n n, i, h n (omega arith) e)
    go false e i = rw (append-nil before_n) i

stronger_same : (p q : Float → Float) (a b : Float) → p a ≡ q a → p b ≡ q b → stronger p a b ≡ stronger q a b
stronger_same p q a b h g = rw (h, g)

strongest_same : (p q : Float → Float) (f0 rate : Float) → ((f : Float) → p f ≡ q f) → strongest p f0 rate ≡ strongest q f0 rate
unfolding strongest
strongest_same p q f0 rate e =
    let first : stronger p f0 (f0 ⊖ rate) ≡ stronger q f0 (f0 ⊖ rate) = stronger_same p q f0 (f0 ⊖ rate) (e f0) (e (f0 ⊖ rate)) in
    ap (λ m. stronger p m (f0 ⊕ rate)) first ∙ stronger_same p q (stronger q f0 (f0 ⊖ rate)) (f0 ⊕ rate) (e _) (e _)

-- ---- the evidence

module _ (mean mean' : Float → ℕ → Complex) (gap gap' : ℕ → Bool) (z z' : ℕ → Complex) (blocks : ℕ)
    (same : (b : ℕ) → b < blocks → gap b ≡ gap' b)
    (alike : (b : ℕ) → b < blocks → gap' b ≡ true → z b ≡ z' b)
    (others : (c : Float) (b : ℕ) → b < blocks → gap' b ≡ true → mean c b ≡ mean' c b) where
  power_same : (carrier ref f : Float)
      → power_at mean carrier (pair_blocks (strong gap' z' ref) blocks) f ≡ power_at mean' carrier (pair_blocks (strong gap' z' ref) blocks) f
  unfolding power_at
  power_same carrier ref f =
      let s = strong gap' z' ref in
      over_same (in_pair s blocks) (block_power (mean (carrier ⊕ f))) (block_power (mean' (carrier ⊕ f))) minus_zero blocks
      (λ b h e. ap c_norm_sqr (others (carrier ⊕ f) b h (above_gap gap' z' _ b (in_strong s blocks b e))))

  offset_same : (carrier rate ref : Float)
      → offset_from mean carrier rate (pairs_of (strong gap z ref) z blocks) (pair_blocks (strong gap z ref) blocks)
      ≡ offset_from mean' carrier rate (pairs_of (strong gap' z' ref) z' blocks) (pair_blocks (strong gap' z' ref) blocks)
  unfolding offset_from
  offset_same carrier rate ref =
      rw (
        pairs_same gap gap' z z' blocks same alike ref,
        strong_same gap gap' z z' blocks same alike ref,
        strongest_same (power_at mean carrier (pair_blocks (strong gap' z' ref) blocks)) (power_at mean' carrier (pair_blocks (strong gap' z' ref) blocks)) _ rate (power_same carrier ref),
      )

  pub with_same : (fs carrier ref : Float) → evidence_with mean fs carrier gap z blocks ref ≡ evidence_with mean' fs carrier gap' z' blocks ref
  unfolding evidence_with
  with_same fs carrier ref =
      rw (gaps_same gap gap' z z' blocks same alike ref, offset_same carrier (fs ⊘ of (window_of fs)) ref, pairs_same gap gap' z z' blocks same alike ref)

  module _ (interior interior' : ℕ → Bool)
      (insides : (b : ℕ) → b < blocks → interior b ≡ interior' b)
      (within : (b : ℕ) → b < blocks → interior' b ≡ true → z b ≡ z' b) where
    pub reference_same : (carrier : Float) → reference_by mean carrier gap interior z blocks ≡ reference_by mean' carrier gap' interior' z' blocks
    unfolding reference_by
    reference_same carrier =
        rw (
          side_same (carrier ⊕ neg REFERENCE_OFFSET_HZ),
          side_same (carrier ⊕ REFERENCE_OFFSET_HZ),
          picked_cong interior interior' (block_power z) (block_power z') blocks insides (λ b h e. ap c_norm_sqr (within b h e)),
        )
      where
        side_same : (c : Float) → picked gap (block_power (mean c)) blocks ≡ picked gap' (block_power (mean' c)) blocks
        side_same c = picked_cong gap gap' (block_power (mean c)) (block_power (mean' c)) blocks same (λ b h e. ap c_norm_sqr (others c b h e))

    pub evidence_same : (fs carrier : Float) → evidence_by mean fs carrier gap interior z blocks ≡ evidence_by mean' fs carrier gap' interior' z' blocks
    unfolding evidence_by
    evidence_same fs carrier = rw (reference_same carrier) (with_same fs carrier (reference_by mean' carrier gap' interior' z' blocks))
