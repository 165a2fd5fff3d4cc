-- Two recordings that agree in the samples of a block, of which the theorems on two runs speak. Definitions only.
use Rattle.std.specs.Prelude.{ℕ, ◌+◌, ◌*◌, ◌≤◌, ◌<◌, ◌≡◌, List, Float}
use Rattle.complex.specs.Rows.{z_at}

-- they agree in the samples of block b, of `len` samples
abbrev pub AgreeIn : List Float → List Float → ℕ → ℕ → Type 0
AgreeIn iq iq' len b = (k : ℕ) → b * len ≤ k → k < b * len + len → z_at iq k ≡ z_at iq' k
