-- The numbers of every listed element are finite: no time is a NaN or an infinity, as long as the amplitudes and the
-- threshold are amounts (finite, with the sign plus).
-- `element_bounded` is of one key-down, `elements_bounded` of all that a row has. Of a recording of finite f32, at
-- any carrier: `threshold_amount`, `recorded_is`, `found_bounded`. Assumes nothing.
use Rattle.std.proofs.Common.{Some, None}
use Rattle.std.specs.declared.option.Option.{Option}
use mathlib.Core.Path.{◌≡◌, refl, sym, ap, ◌∙◌, subst}
use mathlib.Core.Logic.{◌⊎◌, inl, inr, ◌↔◌}
use mathlib.Core.Bool.{Bool, true, false, cond}
use mathlib.Core.List.Memᴰ
use mathlib.Core.List.{List, Memᴰ}
use Prim.Native.Nat.{ℕ, ◌-◌, ◌*◌, ◌^◌, ◌≤◌, ◌<◌}
use native.Mathlib.Nat.{mul-le-mul, eq-zero-or-pos}
use native.Mathlib.Omega.{arith}
use lib.Dec.{lit≤}
use lib.Ieee.{Float, nan, lt}
use lib.ListN.{length, get_or}
use Rattle.float.specs.Ops.{◌⊗◌, half, plus_zero}
use Rattle.float.proofs.Bounds.{Bounded, bounded_more, bounded_whole}
use Rattle.float.proofs.Amounts.{Amount, amount_half, amount_number}
use Rattle.row.specs.Samples.{Singles, Iq}
use Rattle.row.specs.Window.{Rate, step_of, blocks}
use Rattle.row.specs.Envelope.{row_of, row_length}
use Rattle.lists.specs.Firsts.{firsts}
use Rattle.row.proofs.Means.{blocks_short}
use Rattle.row.proofs.Steps.{step_low, step_high}
use Rattle.lists.proofs.Firsts.{length_firsts, get_d_firsts}
use Rattle.row.proofs.Bounds.{row_amount}
use Rattle.rank.specs.Select.{percentile_of}
use Rattle.rank.proofs.Sorted.{percentile_none}
use Rattle.rank.proofs.Among.{percentile_keeps}
use Rattle.constants.specs.Constants.{EDGE_PERCENTILE}
use Rattle.elements.specs.Find.{half_of, threshold_of, key_downs_at, elements_at, key_downs_of, elements_found}
use Rattle.elements.specs.declared.element.KeyedElement.{KeyedElement}
use Rattle.elements.specs.Keying.{KeyDown, IsKeyDown, row_key_downs, crossed_at, element_of, listed_of, elements_of, elements_to}
use Rattle.elements.specs.Times.{twice_centre, LiesBetween}
use Rattle.elements.proofs.KeyDowns.{up_at_least_one, members, listed_is, key_down_is}
use Rattle.elements.proofs.Centres.{Crossed, crossed_between, between_bounded}

-- ---- one element

-- its four numbers are finite and this small
pub record Plain (e : KeyedElement) : Type 0 where
  pub start_bounded : Bounded 0 (2 ^ 27) e.start
  pub end_bounded : Bounded 0 (2 ^ 27) e.end
  pub up_bounded : Bounded 0 (2 ^ 20) e.up
  pub down_bounded : Bounded 0 (2 ^ 20) e.down

module _ (row : ℕ → Float) (thr : Float) (step last : ℕ) (some : 0 < step) (s : step ≤ 64) (h : last ≤ 2 ^ 20) (each : (i : ℕ) → i ≤ last → Amount (row i)) (t : Amount thr) (k : KeyDown)
    (is : IsKeyDown row thr last k) where
  between : (i : ℕ) → 0 < i → i ≤ last → Crossed row thr i → LiesBetween (twice_centre step (i - 1)) (twice_centre step i) (crossed_at row thr step i)
  between i p l c = crossed_between row thr step i some s p (omega arith) (each (i - 1) (omega arith)) (each i l) t c

  pub start_between : LiesBetween (twice_centre step (k.up - 1)) (twice_centre step k.up) (crossed_at row thr step k.up)
  start_between = between k.up (up_at_least_one row thr last k is) (omega (arith, is.later, is.within)) (inl is.rises)

  pub end_between : LiesBetween (twice_centre step (k.down - 1)) (twice_centre step k.down) (crossed_at row thr step k.down)
  end_between = between k.down (omega (arith, is.later)) is.within (inr is.falls)

  few : (i : ℕ) → i ≤ last → twice_centre step i ≤ 2 * 2 ^ 27
  few i l = let far : i * step ≤ 2 ^ 20 * 64 = mul-le-mul {n₁ = i} {n₂ = 2 ^ 20} (omega arith) s in omega arith

  element_bounded : Plain (element_of row thr step k)
  unfolding element_of
  element_bounded =
      let later = is.later in
      let within = is.within in
      record {
        start_bounded = between_bounded (2 ^ 27) (few k.up (omega arith)) start_between;
        end_bounded = between_bounded (2 ^ 27) (few k.down within) end_between;
        up_bounded = bounded_more (bounded_whole k.up (omega arith)) (omega arith) (lit≤ tt);
        down_bounded = bounded_more (bounded_whole k.down (omega arith)) (omega arith) (lit≤ tt);
      }

-- ---- all of them

pub elements_bounded : (row : ℕ → Float) (thr : Float) (step : ℕ) (fs : Float) (j : ℕ) → 0 < step → step ≤ 64 → j ≤ 2 ^ 20 → ((i : ℕ) → i ≤ j → Amount (row i)) → Amount thr
    → (e : KeyedElement) → Memᴰ e (elements_to row thr step fs j) → Plain e
unfolding elements_to elements_of
elements_bounded row thr step fs j some s h each t e m =
    let ks = row_key_downs row thr j in
    let from = Memᴰ.of_map (element_of row thr step) (listed_of row thr step fs ks) m in
    let listed = (listed_is row thr step fs ks from.0).0 from.1 in
    subst Plain from.2 (element_bounded row thr step j some s h each t from.0 (members row thr j from.0 listed.0).0)

-- ---- those of a recording, at any carrier

-- a row that has a threshold is not empty
pub some_row : (iq : List Float) (fs carrier thr : Float) → threshold_of iq fs carrier ≡ Some thr → 0 < row_length iq fs
unfolding threshold_of
some_row iq fs carrier thr e = go (eq-zero-or-pos (row_length iq fs))
  where
    row : List Float
    row = firsts (row_of iq fs carrier) (row_length iq fs)

    go : (row_length iq fs ≡ 0) ⊎ (0 < row_length iq fs) → 0 < row_length iq fs
    go (inl z) =
        let none : None ≡ percentile_of row EDGE_PERCENTILE = percentile_none row EDGE_PERCENTILE (length_firsts (row_of iq fs carrier) (row_length iq fs) ∙ z) in
        let gone : half_of None ≡ Some thr = ap half_of none ∙ e in
        let no : ◌≡◌ {A = ℕ} 0 1 = cc in absurd (omega arith)
    go (inr p) = p

-- a row has at most 2^20 positions
pub short_row : (iq : List Float) (fs : Float) → Iq iq → row_length iq fs - 1 ≤ 2 ^ 20
short_row iq fs q = let few : blocks iq (step_of fs) ≤ 2 ^ 20 = blocks_short iq (step_of fs) q.short in omega arith

module _ (iq : List Float) (fs carrier : Float) (s : Singles iq) (q : Iq iq) where
  listed_amount : (i : ℕ) → i < length (firsts (row_of iq fs carrier) (row_length iq fs)) → Amount (get_or (firsts (row_of iq fs carrier) (row_length iq fs)) i nan)
  listed_amount i h =
      let here : i < row_length iq fs = subst (λ (n : ℕ). i < n) (length_firsts (row_of iq fs carrier) (row_length iq fs)) h in
      subst Amount (sym (get_d_firsts (row_of iq fs carrier) (row_length iq fs) i nan here)) (row_amount iq fs carrier i s q here)

  half_amount : (p : Option Float) (thr : Float) → ((v : Float) → p ≡ Some v → Amount v) → half_of p ≡ Some thr → Amount thr
  half_amount (Some top) thr h e = go (lt plus_zero (half ⊗ top)) e
    where
      go : (t : Bool) → cond t (Some (half ⊗ top)) None ≡ Some thr → Amount thr
      go true e = let same : half ⊗ top ≡ thr = cc in subst Amount same (amount_half top (h top refl))
      go false e = let no : ◌≡◌ {A = ℕ} 0 1 = cc in absurd (omega arith)
  half_amount None thr h e = let no : ◌≡◌ {A = ℕ} 0 1 = cc in absurd (omega arith)

  -- the threshold
  pub threshold_amount : (thr : Float) → threshold_of iq fs carrier ≡ Some thr → Amount thr
  unfolding threshold_of
  threshold_amount thr e =
      let row = firsts (row_of iq fs carrier) (row_length iq fs) in
      half_amount (percentile_of row EDGE_PERCENTILE) thr (λ v p. percentile_keeps Amount row EDGE_PERCENTILE v listed_amount p) e

  pub last_amount : (thr : Float) → threshold_of iq fs carrier ≡ Some thr → (i : ℕ) → i ≤ row_length iq fs - 1 → Amount (row_of iq fs carrier i)
  last_amount thr t i h = let some : 0 < row_length iq fs = some_row iq fs carrier thr t in row_amount iq fs carrier i s q (omega arith)

  -- A pair of positions is a key-down of the recording exactly if it is an upward crossing and the next downward one:
  -- the row has no NaN.
  pub recorded_is : (thr : Float) → threshold_of iq fs carrier ≡ Some thr
      → (k : KeyDown) → Memᴰ k (key_downs_of iq fs carrier) ↔ IsKeyDown (row_of iq fs carrier) thr (row_length iq fs - 1) k
  unfolding key_downs_of
  recorded_is thr t k =
      let last = row_length iq fs - 1 in
      subst (λ (p : Option Float). Memᴰ k (key_downs_at (row_of iq fs carrier) last (step_of fs) fs p) ↔ IsKeyDown (row_of iq fs carrier) thr last k) (sym t)
      (key_down_is (row_of iq fs carrier) thr last (λ i l. amount_number (last_amount thr t i l)) k)

  -- the numbers of every element found
  pub found_bounded : Rate fs → (e : KeyedElement) → Memᴰ e (elements_found iq fs carrier) → Plain e
  unfolding elements_found
  found_bounded r e m = go (threshold_of iq fs carrier) refl m
    where
      go : (p : Option Float) → threshold_of iq fs carrier ≡ p → Memᴰ e (elements_at (row_of iq fs carrier) (row_length iq fs - 1) (step_of fs) fs p) → Plain e
      go (Some thr) t m =
          elements_bounded (row_of iq fs carrier) thr (step_of fs) fs (row_length iq fs - 1) (step_low fs) (step_high fs r) (short_row iq fs q)
          (last_amount thr t) (threshold_amount thr t) e m
      go None t m = absurd (Memᴰ.not-nil m)
