-- What `find_elements` answers of a recording, in the terms of document 01, part 3. For every recording, rate and
-- carrier. Assumes nothing.
use Rattle.std.proofs.Common.{Some, None}
use Rattle.std.specs.declared.option.Option.{Option}
use Prim.Native.Nat.{ℕ, ◌+◌, ◌-◌, ◌*◌, ◌/◌, ◌≤◌}
use native.Mathlib.Omega.{arith}
use mathlib.Core.Path.{◌≡◌, refl, sym}
use mathlib.Core.List.{List}
use lib.ListN.{length, length-map}
use lib.Ieee.{Float}
use Rattle.row.specs.Window.{step_of, step_blocks}
use Rattle.row.specs.Envelope.{row_of, row_length}
use Rattle.elements.specs.Keying.{row_key_downs, element_of, listed_of, counts, elements_of, found_to, elements_to}
use Rattle.elements.specs.Find.{threshold_of, key_downs_at, found_at, elements_at, key_downs_of, found_of, elements_found}
use Rattle.elements.proofs.KeyDowns.{balance, places}

module _ (row : ℕ → Float) (last step : ℕ) (fs : Float) where
  key_downs_at_lem : (t : Option Float) → (found_at row last step fs t).key_downs ≡ length (key_downs_at row last step fs t)
  unfolding found_to counts
  key_downs_at_lem (Some thr) = refl
  key_downs_at_lem None = refl

  listed_at : (t : Option Float) → (found_at row last step fs t).listed ≡ length (elements_at row last step fs t)
  unfolding found_to counts elements_to elements_of
  listed_at (Some thr) = sym (length-map (listed_of row thr step fs (row_key_downs row thr last)) (element_of row thr step))
  listed_at None = refl

  balance_at : (t : Option Float) → (found_at row last step fs t).key_downs ≡ (found_at row last step fs t).listed + (found_at row last step fs t).short
  balance_at (Some thr) = balance row thr step fs last
  balance_at None = refl

  few_at : (t : Option Float) → 2 * length (key_downs_at row last step fs t) ≤ last
  few_at (Some thr) = places row thr last
  few_at None = omega arith

module _ (iq : List Float) (fs carrier : Float) where
  -- Key-downs and listed, as counts, are how many of each there are, and each key-down is listed or short.
  pub key_downs_counted : (found_of iq fs carrier).key_downs ≡ length (key_downs_of iq fs carrier)
  unfolding found_of key_downs_of
  key_downs_counted = key_downs_at_lem (row_of iq fs carrier) (row_length iq fs - 1) (step_of fs) fs (threshold_of iq fs carrier)

  pub listed_counted : (found_of iq fs carrier).listed ≡ length (elements_found iq fs carrier)
  unfolding found_of elements_found
  listed_counted = listed_at (row_of iq fs carrier) (row_length iq fs - 1) (step_of fs) fs (threshold_of iq fs carrier)

  pub all_counted : (found_of iq fs carrier).key_downs ≡ (found_of iq fs carrier).listed + (found_of iq fs carrier).short
  unfolding found_of
  all_counted = balance_at (row_of iq fs carrier) (row_length iq fs - 1) (step_of fs) fs (threshold_of iq fs carrier)

  -- floor(B/2) places are enough
  pub enough_places : (found_of iq fs carrier).key_downs ≤ step_blocks iq fs / 2
  unfolding key_downs_of
  enough_places =
      let few = few_at (row_of iq fs carrier) (row_length iq fs - 1) (step_of fs) fs (threshold_of iq fs carrier) in
      let many = key_downs_counted in
      omega arith
