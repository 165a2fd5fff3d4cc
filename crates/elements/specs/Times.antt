-- The times of the elements found, in their order (02, N8). Theorems cite these definitions, contracts do not.
-- Definitions only.
use Rattle.std.specs.Prelude.{ℕ, ◌+◌, ◌-◌, ◌*◌, ◌≤◌, ◌<◌, ◌≡◌, true, false, Float}
use mathlib.Core.List.{List, [], ◌∷◌, Memᴰ}
use Rattle.std.specs.Float.Ieee.{lt, le}
use Rattle.std.specs.Float.Ieee.Exact.{HasValue}
use Rattle.elements.specs.declared.element.KeyedElement.{KeyedElement}

-- Centres are whole multiples of one half: twice the centre of the window at i, the 8 × step samples from i × step on,
-- is 2 × (i × step + (8 × step − 1) / 2).
abbrev pub twice_centre : ℕ → ℕ → ℕ
twice_centre step i = 2 * (i * step) + (8 * step - 1)

-- Doubled whole numbers compared with the exact meaning of the f64: x is finite with the exact value a / c, and twice
-- that lies from lo to hi, ends included.
pub record LiesBetween (lo hi : ℕ) (x : Float) : Type 0 where
  pub a : ℕ
  pub c : ℕ
  pub some : 0 < c
  pub value : HasValue x false a c
  pub from : lo * c ≤ 2 * a
  pub to : 2 * a ≤ hi * c

-- Each start lies from the centre of the window at up − 1 to the centre at up, ends included, each end likewise for
-- down. Up and down are the record's: whole numbers, up at least 1 and before down.
pub record Placed (step : ℕ) (e : KeyedElement) : Type 0 where
  pub u : ℕ
  pub d : ℕ
  pub up_is : HasValue e.up false u 1
  pub down_is : HasValue e.down false d 1
  pub first : 1 ≤ u
  pub later : u < d
  pub start : LiesBetween (twice_centre step (u - 1)) (twice_centre step u) e.start
  pub end : LiesBetween (twice_centre step (d - 1)) (twice_centre step d) e.end

-- Starts rise strictly, and no end is later than the next start, as the f64 computed compare: two neighbours may touch,
-- not overlap. `before_exactly` of the proofs says the same of the exact values.
pub record Before (x y : KeyedElement) : Type 0 where
  pub rises : lt x.start y.start ≡ true
  pub clear : le x.end y.start ≡ true

-- each element is before the next one, and before every later one too
abbrev pub InTime : List KeyedElement → Type 0
InTime [] = Unit {0}
InTime (e ∷ es) = ((f : KeyedElement) → Memᴰ f es → Before e f) × InTime es
