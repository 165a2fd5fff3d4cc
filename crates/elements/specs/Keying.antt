-- A row of amplitudes at a threshold (01, part 3): its crossings and key-downs, their times, the elements listed, and
-- the counts. A row is a function of the position. Definitions only.
use Rattle.std.specs.Prelude.{ℕ, zero, suc, ◌+◌, ◌-◌, ◌*◌, ◌≤◌, ◌<◌, ◌≡◌, Bool, true, false, not, ◌&&◌, cond, ◌↔◌, length, get_or, Float, Some, None}
use Rattle.std.specs.declared.option.Option.{Option}
use mathlib.Core.List.{List, [], ◌∷◌, ◌++◌, map, Memᴰ}
use Rattle.std.specs.Float.{nan}
use Rattle.std.specs.Float.Ieee.{lt, le}
use Rattle.float.specs.Ops.{◌⊕◌, ◌⊖◌, ◌⊗◌, ◌⊘◌, of}
use Rattle.lists.specs.Those.{those}
use Rattle.constants.specs.Constants.{RISE_S}
use Rattle.row.specs.Window.{centre_of}
use Rattle.elements.specs.declared.element.KeyedElement.{KeyedElement}
use Rattle.elements.specs.declared.keying.Found.{Found}

-- a list of amplitudes as such a function; past its end it is a NaN
abbrev pub heights : List Float → ℕ → Float
heights l = λ i. get_or l i nan

-- A crossing at i is upward when row[i−1] < threshold ≤ row[i] ..
unfoldable pub upward : (ℕ → Float) → Float → ℕ → Bool
upward row thr i = lt (row (i - 1)) thr && le thr (row i)

-- .. and downward when row[i−1] ≥ threshold > row[i].
unfoldable pub downward : (ℕ → Float) → Float → ℕ → Bool
downward row thr i = le thr (row (i - 1)) && lt (row i) thr

-- ---- key-downs

-- A key-down is an upward crossing (position up) and the next downward one (position down).
pub record KeyDown : Type 0 where
  pub up : ℕ
  pub down : ℕ

abbrev pub key_down : ℕ → ℕ → KeyDown
key_down u d = record { up = u; down = d }

-- As a property of a pair of positions up to `last`. `key_down_is` of the proofs says that `row_key_downs` below has
-- the pairs with it and no others.
pub record IsKeyDown (row : ℕ → Float) (thr : Float) (last : ℕ) (k : KeyDown) : Type 0 where
  pub rises : upward row thr k.up ≡ true
  pub falls : downward row thr k.down ≡ true
  pub later : k.up < k.down
  pub within : k.down ≤ last
  pub next : (i : ℕ) → k.up < i → i < k.down → downward row thr i ≡ false

-- A list of them is in order when each ends before the next ones begin. Then ups rise, and none is there twice.
abbrev pub InOrder : List KeyDown → Type 0
InOrder [] = Unit {0}
InOrder (k ∷ ks) = ((d : KeyDown) → Memᴰ d ks → k.down < d.up) × InOrder ks

-- Among the positions 1 to j: the upward crossing that no downward one has followed, if there is one (the Rust's
-- `rising`).
unfoldable pub pending : (ℕ → Float) → Float → ℕ → Option ℕ
unfolding upward downward
pending row thr zero = None
pending row thr (suc j) =
    let before = pending row thr j in
    let unless = cond (downward row thr (suc j)) None before in
    cond (upward row thr (suc j)) (Some (suc j)) unless

-- what a downward crossing at i ends: the key-down of the pending upward crossing, nothing where none is pending
abbrev pub ended : Option ℕ → ℕ → List KeyDown
ended (Some u) i = key_down u i ∷ []
ended None i = []

-- the key-downs that end at the positions 1 to j, in order
unfoldable pub row_key_downs : (ℕ → Float) → Float → ℕ → List KeyDown
unfolding pending downward
row_key_downs row thr zero = []
row_key_downs row thr (suc j) =
    let here = ended (pending row thr j) (suc j) in
    row_key_downs row thr j ++ cond (downward row thr (suc j)) here []

-- ---- their times: "Times follow `find_elements`"

-- The time of a crossing at i, on the line from amplitude i − 1 to amplitude i. Amplitude i stands at the centre of
-- the window = 8 × step samples from i × step on.
unfoldable pub crossed_at : (ℕ → Float) → Float → ℕ → ℕ → Float
crossed_at row thr step i = centre_of ((i - 1) * step) (8 * step) ⊕ (thr ⊖ row (i - 1)) ⊘ (row i ⊖ row (i - 1)) ⊗ of step

-- An element keeps start, end and, added, up and down.
unfoldable pub element_of : (ℕ → Float) → Float → ℕ → KeyDown → KeyedElement
element_of row thr step k =
    record { start = crossed_at row thr step k.up; end = crossed_at row thr step k.down; up = of k.up; down = of k.down }

-- Listed: end − start ≥ RISE_S × fs as computed; otherwise short.
unfoldable pub is_long : Float → KeyedElement → Bool
is_long fs e = le (RISE_S ⊗ fs) (e.end ⊖ e.start)

unfoldable pub long : (ℕ → Float) → Float → ℕ → Float → KeyDown → Bool
long row thr step fs k = is_long fs (element_of row thr step k)

-- A list of elements has the long key-downs of a row: each once, in order, and nothing else. `found_exactly` of the
-- proofs says so of the elements found in a recording.
pub record LongKeyDowns (row : ℕ → Float) (thr : Float) (last step : ℕ) (fs : Float) (es : List KeyedElement) : Type 0 where
  pub long_ones : List KeyDown
  pub are : es ≡ map (element_of row thr step) long_ones
  pub in_order : InOrder long_ones
  pub exactly : (k : KeyDown) → Memᴰ k long_ones ↔ (IsKeyDown row thr last k × (long row thr step fs k ≡ true))

-- ---- the elements listed, and the counts

-- Airtime: the sum of (down − up) × step
unfoldable pub airtime_of : ℕ → List KeyDown → ℕ
airtime_of step [] = 0
airtime_of step (k ∷ ks) = (k.down - k.up) * step + airtime_of step ks

-- nothing found
abbrev pub no_key_downs : Found
no_key_downs = record { key_downs = 0; listed = 0; short = 0; airtime = 0 }

module _ (row : ℕ → Float) (thr : Float) (step : ℕ) (fs : Float) where
  -- listed and short
  unfoldable pub listed_of : List KeyDown → List KeyDown
  listed_of ks = those (long row thr step fs) ks

  unfoldable pub short_of : List KeyDown → List KeyDown
  short_of ks = those (λ k. not (long row thr step fs k)) ks

  -- Key-downs, listed and short, as counts, are how many of each there are. Airtime is over listed elements.
  unfoldable pub counts : List KeyDown → Found
  counts ks =
      record { key_downs = length ks; listed = length (listed_of ks); short = length (short_of ks); airtime = airtime_of step (listed_of ks) }

  unfoldable pub elements_of : List KeyDown → List KeyedElement
  elements_of ks = map (element_of row thr step) (listed_of ks)

  -- of the positions 1 to j of the row; a row of n amplitudes has the positions 1 to n − 1
  unfoldable pub found_to : ℕ → Found
  found_to j = counts (row_key_downs row thr j)

  unfoldable pub elements_to : ℕ → List KeyedElement
  elements_to j = elements_of (row_key_downs row thr j)

-- Key-downs, listed and short, as counts, are how many of each the row has, and airtime is over the listed ones: of a
-- list that has every key-down of the row once, in order, and nothing else. `counted_exactly` of the proofs says so of
-- what is counted in a recording.
pub record RowCounts (row : ℕ → Float) (thr : Float) (last step : ℕ) (fs : Float) (f : Found) : Type 0 where
  pub all : List KeyDown
  pub in_order : InOrder all
  pub exactly : (k : KeyDown) → Memᴰ k all ↔ IsKeyDown row thr last k
  pub key_downs : f.key_downs ≡ length all
  pub listed : f.listed ≡ length (listed_of row thr step fs all)
  pub short : f.short ≡ length (short_of row thr step fs all)
  pub airtime : f.airtime ≡ airtime_of step (listed_of row thr step fs all)
