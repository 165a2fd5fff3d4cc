-- The powers that the evidence ranks are amounts: finite, not negative and no −0.0, at any carrier (`powers_amounts`,
-- `side_amounts`). Of amounts the order of a percentile, `total_cmp`'s, is the order of the values (`order_is`). The
-- reference is at least the smallest normal f64, whatever the lists hold (`reference_above`). Assumes nothing.
use Prim.Native.Nat.{ℕ, zero, suc, ◌≤◌, ◌<◌}
use native.Mathlib.Omega.{arith}
use mathlib.Core.Path.{◌≡◌, refl}
use mathlib.Core.Bool.{Bool, true, false, not, ◌&&◌, ◌||◌, cond}
use mathlib.Core.List.{List, [], ◌∷◌, ◌++◌}
use lib.Dec.{T, lit≤}
use lib.Ieee.{Float, nan, inf, fin, lt, le, eq, is_nan, neg, round}
use Rattle.float.specs.Ops.{◌⊕◌, ◌⊘◌, fraction}
use Rattle.float.specs.Compare.{max_of}
use Rattle.float.proofs.Compared.{no}
use Rattle.float.proofs.Monotone.{not_lt_le}
use Rattle.float.proofs.Amounts.{Amount, amount_squares, amount_number}
use Rattle.lists.specs.Those.{picked}
use Rattle.constants.specs.Constants.{REFERENCE_OFFSET_HZ, MIN_POSITIVE}
use Rattle.rank.specs.Order.{is_minus_zero, precedes}
use Rattle.rank.proofs.Sorted.{Every}
use Rattle.row.specs.Samples.{Singles, Iq}
use Rattle.row.specs.Window.{step_of, window_of}
use Rattle.row.specs.Window as window
use Rattle.row.proofs.Steps.{step_low}
use Rattle.row.proofs.Bounds.{block_bounded}
use Rattle.prepared.specs.Powers.{block_power}
use Rattle.gaps.specs.Reference.{side_of, reference_from, mean_at}

-- ---- lists of values that each are something

every_append : (P : Float → Type 0) (a b : List Float) → Every P a → Every P b → Every P (a ++ b)
every_append P [] b p q = q
every_append P (x ∷ a) b p q = (p.0, every_append P a b p.1 q)

every_picked : (P : Float → Type 0) (p : ℕ → Bool) (f : ℕ → Float) (n : ℕ) → ((k : ℕ) → k < n → P (f k)) → Every P (picked p f n)
unfolding picked
every_picked P p f zero h = tt
every_picked P p f (suc n) h = every_append P (picked p f n) _ (every_picked P p f n (λ k l. h k (omega arith))) (go (p n))
  where
    go : (t : Bool) → Every P (cond t (f n ∷ []) [])
    go true = (h n (omega arith), tt)
    go false = tt

-- ---- the powers

module _ (iq : List Float) (fs : Float) (s : Singles iq) (q : Iq iq) where
  pub power_amount : (c : Float) (b : ℕ) → b < window.blocks iq (window_of fs) → Amount (block_power (mean_at iq fs c) b)
  power_amount c b h =
      let low : 1 ≤ step_of fs = step_low fs in
      let z = block_bounded iq (c ⊘ fs) (window_of fs) b s q (omega arith) h in
      amount_squares z.re_part z.im_part (lit≤ tt) (lit≤ tt)

  module _ (p : ℕ → Bool) (blocks : ℕ) (few : blocks ≤ window.blocks iq (window_of fs)) where
    -- those of the blocks that pass a test, as the gap blocks and the interior blocks
    pub powers_amounts : (c : Float) → Every Amount (picked p (block_power (mean_at iq fs c)) blocks)
    powers_amounts c = every_picked Amount p (block_power (mean_at iq fs c)) blocks (λ b h. power_amount c b (omega arith))

    pub side_amounts : (carrier : Float) → Every Amount (side_of (mean_at iq fs) carrier p blocks)
    side_amounts carrier =
        every_append Amount (picked p (block_power (mean_at iq fs (carrier ⊕ neg REFERENCE_OFFSET_HZ))) blocks) _ (powers_amounts (carrier ⊕ neg REFERENCE_OFFSET_HZ))
        (powers_amounts (carrier ⊕ REFERENCE_OFFSET_HZ))

-- ---- their order

not_minus_zero : (x : Float) → Amount x → is_minus_zero x ≡ false
unfolding is_minus_zero
not_minus_zero nan h = refl
not_minus_zero (inf s) h = refl
not_minus_zero (fin true m e) h = absurd h.plus
not_minus_zero (fin false zero e) h = refl
not_minus_zero (fin false (suc m) e) h = refl

pub order_is : (x y : Float) → Amount x → Amount y → precedes x y ≡ lt x y
unfolding precedes
order_is x y p q = rw (not_minus_zero x p, amount_number q) (go (lt x y) (eq x y))
  where
    go : (a b : Bool) → (a || (b && false && not (is_minus_zero y)) || (false && not (is_nan x))) ≡ a
    go true b = refl
    go false true = refl
    go false false = refl

-- ---- the reference is a number, and at least the smallest normal f64

least : T (le MIN_POSITIVE MIN_POSITIVE) × T (not (is_nan MIN_POSITIVE))
unfolding MIN_POSITIVE fraction round le lt eq is_nan
least = (tt, tt)

module _ (x : Float) where
  least_is : (n t : Bool) → is_nan x ≡ n → lt x MIN_POSITIVE ≡ t
      → T (le MIN_POSITIVE (cond n MIN_POSITIVE (cond t MIN_POSITIVE x)))
  least_is true t p q = least.0
  least_is false true p q = least.0
  least_is false false p q = not_lt_le x MIN_POSITIVE (no p) least.1 (no q)

pub reference_above : (side interior : List Float) → T (le MIN_POSITIVE (reference_from side interior))
unfolding reference_from max_of
reference_above side interior = least_is _ _ _ refl refl
