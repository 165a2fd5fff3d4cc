-- The times of the elements found, in their order (02, N8). Of every recording of f32 that questions 2 and 3 accept, at
-- every rate that question 1 accepts and at any carrier: each start lies from the centre of the window at up − 1 to the
-- centre at up, and each end likewise for down, ends included (`found_placed`); starts rise strictly, and no end is
-- later than the next start or any later one (`found_in_time`). The times are the f64 that are computed; what is
-- compared is their exact value too (`before_exactly`). Assumes nothing.
use Rattle.std.proofs.Common.{Some, None}
use Rattle.std.specs.declared.option.Option.{Option}
use mathlib.Core.Path.{◌≡◌, refl, subst}
use mathlib.Core.Bool.{false}
use mathlib.Core.List.Memᴰ
use mathlib.Core.List.{List, [], ◌∷◌, map, Memᴰ}
use Prim.Native.Nat.{ℕ, ◌+◌, ◌-◌, ◌*◌, ◌^◌, ◌≤◌, ◌<◌}
use native.Mathlib.Nat.{mul-le-mul_right}
use native.Mathlib.Omega.{arith}
use lib.Ieee.{Float, binary64}
use lib.Ieee.Exact.{HasValue}
use Rattle.float.proofs.Compared.{lt→cross, le→value, yes}
use Rattle.float.proofs.Counts.{whole_value}
use Rattle.float.proofs.Amounts.{Amount}
use Rattle.lists.specs.Records.{handed}
use Rattle.row.specs.Samples.{Singles, Iq}
use Rattle.row.specs.Window.{Rate, step_of}
use Rattle.row.specs.Envelope.{row_of, row_length}
use Rattle.row.proofs.Steps.{step_low, step_high}
use Rattle.elements.specs.declared.element.KeyedElement.{KeyedElement}
use Rattle.elements.specs.Element.{ELEMENT, elements_in, handed_elements}
use Rattle.elements.specs.Keying.{KeyDown, IsKeyDown, InOrder, LongKeyDowns, element_of}
use Rattle.elements.specs.Find.{threshold_of, elements_found}
use Rattle.elements.specs.Times.{Placed, Before, InTime}
use Rattle.elements.proofs.KeyDowns.{up_at_least_one}
use Rattle.elements.proofs.Centres.{between_le, between_lt}
use Rattle.elements.proofs.Bounds.{start_between, end_between, short_row, last_amount, threshold_amount}
use Rattle.elements.proofs.Exactly.{found_exactly, found_nothing}
use Rattle.elements.proofs.Records.{elements_read}

-- The order of the floats is that of their exact values.
pub before_exactly : {x y : KeyedElement} → Before x y → (a c p r b d : ℕ) → 0 < c → 0 < r → 0 < d → HasValue x.start false a c → HasValue x.end false p r → HasValue y.start false b d
    → (a * d < b * c) × (p * d ≤ b * r)
before_exactly {x} {y} h a c p r b d C R D v w z =
    (lt→cross x.start y.start a c b d C D v z (yes h.rises), le→value x.end y.start p r b d R D w z (yes h.clear))

-- ---- the elements of a row

module _ (row : ℕ → Float) (thr : Float) (step last : ℕ) (some : 0 < step) (s : step ≤ 64) (h : last ≤ 2 ^ 20) (each : (i : ℕ) → i ≤ last → Amount (row i)) (t : Amount thr) where
  element_placed : (k : KeyDown) → IsKeyDown row thr last k → Placed step (element_of row thr step k)
  unfolding element_of
  element_placed k is =
      let later = is.later in
      let within = is.within in
      record {
        u = k.up;
        d = k.down;
        up_is = whole_value binary64 k.up (omega arith);
        down_is = whole_value binary64 k.down (omega arith);
        first = up_at_least_one row thr last k is;
        later = later;
        start = start_between row thr step last some s h each t k is;
        end = end_between row thr step last some s h each t k is;
      }

  -- a key-down that ends before another begins: the centre at its down is no later than the one before the other's up
  element_before : (k l : KeyDown) → IsKeyDown row thr last k → IsKeyDown row thr last l → k.down < l.up → Before (element_of row thr step k) (element_of row thr step l)
  unfolding element_of
  element_before k l is so apart =
      let later = is.later in
      let on : (k.up + 1) * step ≤ (l.up - 1) * step = mul-le-mul_right step (omega arith) in
      let end : k.down * step ≤ (l.up - 1) * step = mul-le-mul_right step (omega arith) in
      let next = start_between row thr step last some s h each t l so in
      record {
        rises = between_lt (start_between row thr step last some s h each t k is) next (omega arith);
        clear = between_le (end_between row thr step last some s h each t k is) next (omega arith);
      }

  in_time : (ks : List KeyDown) → ((k : KeyDown) → Memᴰ k ks → IsKeyDown row thr last k) → InOrder ks → InTime (map (element_of row thr step) ks)
  in_time [] is o = tt
  in_time (k ∷ ks) is o = (
    λ f m.
        let from = Memᴰ.of_map (element_of row thr step) ks m in
        subst (Before (element_of row thr step k)) from.2
        (element_before k from.0 (is k (Memᴰ.head refl)) (is from.0 (Memᴰ.tail from.1)) (o.0 from.0 from.1)),
    in_time ks (λ l m. is l (Memᴰ.tail m)) o.1,
  )

-- ---- those of a recording

module _ (iq : List Float) (fs carrier : Float) (s : Singles iq) (q : Iq iq) (r : Rate fs) where
  module _ (thr : Float) (t : threshold_of iq fs carrier ≡ Some thr) where
    listed : LongKeyDowns (row_of iq fs carrier) thr (row_length iq fs - 1) (step_of fs) fs (elements_found iq fs carrier)
    listed = found_exactly iq fs carrier s q thr t

    placed_at : (e : KeyedElement) → Memᴰ e (elements_found iq fs carrier) → Placed (step_of fs) e
    placed_at e m =
        let from = Memᴰ.of_map (element_of (row_of iq fs carrier) thr (step_of fs)) listed.long_ones (rw listed.are at m) in
        subst (Placed (step_of fs)) from.2
        (element_placed (row_of iq fs carrier) thr (step_of fs) (row_length iq fs - 1) (step_low fs) (step_high fs r) (short_row iq fs q) (last_amount iq fs carrier s q thr t) (threshold_amount iq fs carrier s q thr t)
        from.0 ((listed.exactly from.0).0 from.1).0)

    in_time_at : InTime (elements_found iq fs carrier)
    in_time_at =
        rw listed.are
        (in_time (row_of iq fs carrier) thr (step_of fs) (row_length iq fs - 1) (step_low fs) (step_high fs r) (short_row iq fs q) (last_amount iq fs carrier s q thr t) (threshold_amount iq fs carrier s q thr t)
        listed.long_ones (λ k m. ((listed.exactly k).0 m).0) listed.in_order)

  -- Each start lies from the centre of the window at up − 1 to the centre at up, and each end from the centre at
  -- down − 1 to the centre at down, ends included.
  pub found_placed : (e : KeyedElement) → Memᴰ e (elements_found iq fs carrier) → Placed (step_of fs) e
  found_placed e m = go (threshold_of iq fs carrier) refl
    where
      go : (p : Option Float) → threshold_of iq fs carrier ≡ p → Placed (step_of fs) e
      go (Some thr) t = placed_at thr t e m
      go None t = absurd (Memᴰ.not-nil (rw (found_nothing iq fs carrier t) at m))

  -- Starts rise strictly, and no end is later than the next start, nor than any later one.
  pub found_in_time : InTime (elements_found iq fs carrier)
  found_in_time = go (threshold_of iq fs carrier) refl
    where
      go : (p : Option Float) → threshold_of iq fs carrier ≡ p → InTime (elements_found iq fs carrier)
      go (Some thr) t = in_time_at thr t
      go None t = rw (found_nothing iq fs carrier t) tt

  -- The same of the elements at the first places of a list that hands them out.
  module _ (cur l : List Float) (n : ℕ) (h : handed_elements cur n ≡ handed ELEMENT (elements_found iq fs carrier) l) where
    pub handed_placed : (e : KeyedElement) → Memᴰ e (elements_in cur n) → Placed (step_of fs) e
    handed_placed e m = found_placed e (rw (elements_read cur l n (elements_found iq fs carrier) h) at m)

    pub handed_in_time : InTime (elements_in cur n)
    handed_in_time = rw (elements_read cur l n (elements_found iq fs carrier) h) found_in_time
