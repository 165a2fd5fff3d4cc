-- What `find_elements` finds in a recording at a rate and a carrier (01, parts 2 and 3). Definitions only.
use Rattle.std.specs.Prelude.{ℕ, ◌-◌, cond, List, [], Float, Some, None}
use Rattle.std.specs.declared.option.Option.{Option}
use Rattle.std.specs.Float.Ieee.{lt}
use Rattle.float.specs.Ops.{◌⊗◌, half, plus_zero}
use Rattle.lists.specs.Firsts.{firsts}
use Rattle.constants.specs.Constants.{EDGE_PERCENTILE}
use Rattle.row.specs.Window.{step_of}
use Rattle.row.specs.Envelope.{row_of, row_length}
use Rattle.rank.specs.Select.{percentile_of}
use Rattle.elements.specs.declared.amplitude.AmplitudeRow.{AmplitudeRow}
use Rattle.elements.specs.declared.element.KeyedElement.{KeyedElement}
use Rattle.elements.specs.declared.keying.Found.{Found}
use Rattle.elements.specs.Keying.{KeyDown, row_key_downs, found_to, elements_to, no_key_downs}

-- Threshold: half the 98th percentile. A row with no percentile has none, and one not positive gives no key-downs.
abbrev pub half_of : Option Float → Option Float
half_of (Some top) = cond (lt plus_zero (half ⊗ top)) (Some (half ⊗ top)) None
half_of None = None

-- of a row as a list, and of a recording
abbrev pub row_threshold : List Float → Option Float
row_threshold row = half_of (percentile_of row EDGE_PERCENTILE)

unfoldable pub threshold_of : List Float → Float → Float → Option Float
threshold_of iq fs carrier = row_threshold (firsts (row_of iq fs carrier) (row_length iq fs))

-- how many amplitudes the row of a recording has, and its threshold
unfoldable pub amplitude_row_of : List Float → Float → Float → AmplitudeRow
amplitude_row_of iq fs carrier = record { amplitudes = row_length iq fs; threshold = threshold_of iq fs carrier }

module _ (row : ℕ → Float) (last step : ℕ) (fs : Float) where
  -- of a row whose last position is `last`, at a threshold; without one there is no key-down
  abbrev pub key_downs_at : Option Float → List KeyDown
  key_downs_at (Some thr) = row_key_downs row thr last
  key_downs_at None = []

  abbrev pub found_at : Option Float → Found
  found_at (Some thr) = found_to row thr step fs last
  found_at None = no_key_downs

  abbrev pub elements_at : Option Float → List KeyedElement
  elements_at (Some thr) = elements_to row thr step fs last
  elements_at None = []

module _ (iq : List Float) (fs carrier : Float) where
  -- the key-downs of a recording, their counts, and the elements listed
  unfoldable pub key_downs_of : List KeyDown
  key_downs_of = key_downs_at (row_of iq fs carrier) (row_length iq fs - 1) (step_of fs) fs (threshold_of iq fs carrier)

  unfoldable pub found_of : Found
  found_of = found_at (row_of iq fs carrier) (row_length iq fs - 1) (step_of fs) fs (threshold_of iq fs carrier)

  unfoldable pub elements_found : List KeyedElement
  elements_found = elements_at (row_of iq fs carrier) (row_length iq fs - 1) (step_of fs) fs (threshold_of iq fs carrier)
