-- What is found in a recording, and what a list then hands out: the elements of the long key-downs, each once, in
-- order, and nothing else; the counts are those of the row's key-downs; without a threshold, nothing. Assumes nothing.
use Rattle.std.proofs.Common.{Some, None}
use Prim.Native.Nat.{ℕ, ◌-◌}
use mathlib.Core.Path.{◌≡◌, ap}
use mathlib.Core.List.{List, [], map}
use lib.Ieee.{Float}
use Rattle.row.specs.Samples.{Singles, Iq}
use Rattle.row.specs.Window.{step_of}
use Rattle.row.specs.Envelope.{row_of, row_length}
use Rattle.elements.specs.declared.keying.Found.{Found}
use Rattle.lists.specs.Records.{handed}
use Rattle.elements.specs.Element.{ELEMENT, elements_in, handed_elements}
use Rattle.elements.specs.Keying.{KeyDown, row_key_downs, InOrder, LongKeyDowns, RowCounts, element_of, long, listed_of, no_key_downs, counts, elements_of, found_to, elements_to}
use Rattle.elements.specs.Find.{threshold_of, key_downs_of, found_of, elements_found}
use Rattle.elements.proofs.KeyDowns.{in_order, those_in_order, listed_is}
use Rattle.elements.proofs.Bounds.{recorded_is}
use Rattle.elements.proofs.Records.{elements_read}

module _ (iq : List Float) (fs carrier : Float) where
  -- the listed key-downs
  abbrev key_downs_listed : Float → List KeyDown
  key_downs_listed thr = listed_of (row_of iq fs carrier) thr (step_of fs) fs (key_downs_of iq fs carrier)

  elements_listed : (thr : Float) → threshold_of iq fs carrier ≡ Some thr → elements_found iq fs carrier ≡ map (element_of (row_of iq fs carrier) thr (step_of fs)) (key_downs_listed thr)
  unfolding key_downs_of elements_found elements_to elements_of
  elements_listed thr t = rw t

  listed_in_order : (thr : Float) → threshold_of iq fs carrier ≡ Some thr → InOrder (key_downs_listed thr)
  unfolding key_downs_of listed_of
  listed_in_order thr t =
      let row = row_of iq fs carrier in
      let last = row_length iq fs - 1 in
      rw t (those_in_order (long row thr (step_of fs) fs) (row_key_downs row thr last) (in_order row thr last))

  -- The elements found are those of the long key-downs of the recording's row.
  pub found_exactly : Singles iq → Iq iq → (thr : Float) → threshold_of iq fs carrier ≡ Some thr
      → LongKeyDowns (row_of iq fs carrier) thr (row_length iq fs - 1) (step_of fs) fs (elements_found iq fs carrier)
  found_exactly s q thr t =
      let is = listed_is (row_of iq fs carrier) thr (step_of fs) fs (key_downs_of iq fs carrier) in
      let key = recorded_is iq fs carrier s q thr t in
      record {
        long_ones = key_downs_listed thr;
        are = elements_listed thr t;
        in_order = listed_in_order thr t;
        exactly = λ k. (λ m. let h = (is k).0 m in ((key k).0 h.0, h.1), λ h. (is k).1 ((key k).1 h.0, h.1));
      }

  -- Counted are all key-downs of the recording's row, those that are listed and those that are short.
  counts_of_lem : (thr : Float) → threshold_of iq fs carrier ≡ Some thr → found_of iq fs carrier ≡ counts (row_of iq fs carrier) thr (step_of fs) fs (key_downs_of iq fs carrier)
  unfolding key_downs_of found_of found_to
  counts_of_lem thr t = rw t

  all_in_order : (thr : Float) → threshold_of iq fs carrier ≡ Some thr → InOrder (key_downs_of iq fs carrier)
  unfolding key_downs_of
  all_in_order thr t = rw t (in_order (row_of iq fs carrier) thr (row_length iq fs - 1))

  pub counted_exactly : Singles iq → Iq iq → (thr : Float) → threshold_of iq fs carrier ≡ Some thr
      → RowCounts (row_of iq fs carrier) thr (row_length iq fs - 1) (step_of fs) fs (found_of iq fs carrier)
  unfolding counts
  counted_exactly s q thr t =
      let are = counts_of_lem thr t in
      record {
        all = key_downs_of iq fs carrier;
        in_order = all_in_order thr t;
        exactly = recorded_is iq fs carrier s q thr t;
        key_downs = ap (λ (f : Found). f.key_downs) are;
        listed = ap (λ (f : Found). f.listed) are;
        short = ap (λ (f : Found). f.short) are;
        airtime = ap (λ (f : Found). f.airtime) are;
      }

  -- Without a threshold nothing is counted, and nothing is found.
  pub counted_nothing : threshold_of iq fs carrier ≡ None → found_of iq fs carrier ≡ no_key_downs
  unfolding found_of
  counted_nothing t = rw t

  pub found_nothing : threshold_of iq fs carrier ≡ None → elements_found iq fs carrier ≡ []
  unfolding elements_found
  found_nothing t = rw t

  -- The same of the elements at the first places of a list that hands them out.
  module _ (cur l : List Float) (n : ℕ) (h : handed_elements cur n ≡ handed ELEMENT (elements_found iq fs carrier) l) where
    pub handed_exactly : Singles iq → Iq iq → (thr : Float) → threshold_of iq fs carrier ≡ Some thr
        → LongKeyDowns (row_of iq fs carrier) thr (row_length iq fs - 1) (step_of fs) fs (elements_in cur n)
    handed_exactly s q thr t = rw (elements_read cur l n (elements_found iq fs carrier) h) (found_exactly s q thr t)

    pub handed_nothing : threshold_of iq fs carrier ≡ None → elements_in cur n ≡ []
    handed_nothing t = rw (elements_read cur l n (elements_found iq fs carrier) h) (found_nothing t)
