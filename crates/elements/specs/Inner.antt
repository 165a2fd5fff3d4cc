-- Not needed to read a public promise: what the functions behind `find_elements` require and ensure. Definitions only.
use Rattle.std.specs.Prelude.{ℕ, ◌+◌, ◌*◌, ◌^◌, ◌≤◌, ◌<◌, List, set, Float}
use Rattle.lists.specs.Records.{stored_by}
use Rattle.elements.specs.declared.element.KeyedElement.{KeyedElement}
use Rattle.elements.specs.declared.keying.Found.{Found}
use Rattle.elements.specs.Element.{ELEMENT}

-- ---- records stored in a list

-- a list with an element stored from number `at` on, and at place p
abbrev pub put_element_from : List Float → ℕ → KeyedElement → List Float
put_element_from l at e = set (set (set (set l at e.start) (at + 1) e.end) (at + 2) e.up) (at + 3) e.down

abbrev pub put_element : List Float → ℕ → KeyedElement → List Float
put_element l p e = put_element_from l (ELEMENT * p) e

-- elements stored one after the other, from place p on and from the start on
abbrev pub stored_from : List Float → ℕ → List KeyedElement → List Float
stored_from l p es = stored_by ELEMENT put_element_from l p es

abbrev pub stored : List Float → List KeyedElement → List Float
stored l es = stored_from l 0 es

-- ---- counts one key-down at a time

-- two counts together
abbrev pub found_plus : Found → Found → Found
found_plus a b =
    record { key_downs = a.key_downs + b.key_downs; listed = a.listed + b.listed; short = a.short + b.short; airtime = a.airtime + b.airtime }

-- the count of one listed key-down of so many samples, and of one short key-down
abbrev pub one_listed : ℕ → Found
one_listed samples = record { key_downs = 1; listed = 1; short = 0; airtime = samples }

abbrev pub one_short : Found
one_short = record { key_downs = 1; listed = 0; short = 1; airtime = 0 }

-- the counts of a row of at most 2^20 amplitudes, at most 64 samples apart, are this small
pub record Room (a : Found) : Type 0 where
  pub key_downs : a.key_downs ≤ 2 ^ 20
  pub long : a.listed ≤ 2 ^ 20
  pub brief : a.short ≤ 2 ^ 20
  pub air : a.airtime ≤ 2 ^ 26

-- where a key-down from up ends at i: it is one of the row, and the counts of those before it leave room for it
pub record Ending (a : Found) (up i : ℕ) : Type 0 where
  pub first : 1 ≤ up
  pub later : up < i
  pub place : 2 * (a.listed + 1) ≤ i
  pub room : Room a
