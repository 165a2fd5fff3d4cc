-- The weighted least squares of `fit_elements` (01, part 4): points with a time, a phase and a weight, and the slope
-- of the line through them. Definitions only.
use Rattle.std.specs.Prelude.{ℕ, ◌+◌, ◌*◌, cond, leb, Float}
use Rattle.std.specs.Float.Ieee.{lt}
use Rattle.float.specs.Ops.{◌⊖◌, ◌⊗◌, ◌⊘◌, plus_zero}
use Rattle.lists.specs.Sums.{total}
use Rattle.row.specs.Window.{centre_of}

-- `t`: the time of block b of an interior that begins at i0, the centre of its samples
abbrev pub time_of : ℕ → ℕ → ℕ → Float
time_of i0 block b = centre_of (i0 + b * block) block

-- Σ w x, over n points
abbrev pub weighted : (ℕ → Float) → (ℕ → Float) → ℕ → Float
weighted w x = total (λ b. w b ⊗ x b)

-- Σ w (x − xm) (y − ym), over n points
abbrev pub moment : (ℕ → Float) → (ℕ → Float) → Float → (ℕ → Float) → Float → ℕ → Float
moment w x xm y ym = total (λ b. w b ⊗ (x b ⊖ xm) ⊗ (y b ⊖ ym))

-- The slope of phase p over time t with weights w: num / den about the weighted means tm and pm.
-- It is 0 with fewer than two points, with no weight, and with no spread of time.
unfoldable pub line_slope : (ℕ → Float) → (ℕ → Float) → (ℕ → Float) → ℕ → Float
line_slope w t p n =
    let wsum = total w n in
    let tm = weighted w t n ⊘ wsum in
    let pm = weighted w p n ⊘ wsum in
    let num = moment w t tm p pm n in
    let den = moment w t tm t tm n in
    cond (leb 2 n) (cond (lt plus_zero wsum) (cond (lt plus_zero den) (num ⊘ den) plus_zero) plus_zero) plus_zero
