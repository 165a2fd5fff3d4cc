-- The sample rate, `step` and `window`, which come from `edge_window`, the number of blocks and where a run of samples
-- has its centre (01, head and question 1). Definitions only.
use Rattle.std.specs.Prelude.{ℕ, ◌*◌, ◌/◌, Bool, ◌&&◌, List, T, length, Float}
use Rattle.std.specs.Float.Ieee.{le, to_unsigned}
use Rattle.float.specs.Ops.{◌⊕◌, ◌⊖◌, ◌⊗◌, ◌⊘◌, of, one, two, eight}
use Rattle.float.specs.Compare.{max_of}
use Rattle.float.specs.Whole.{round_of}
use Rattle.constants.specs.Constants.{EDGE_WINDOW_S}

-- question 1: is fs a number from 2,000 to 192,000, ends included?
unfoldable pub rate_ok : Float → Bool
rate_ok fs = le (of 2000) fs && le fs (of 192000)

-- what the functions behind that question require of fs
pub record Rate (fs : Float) : Type 0 where
  pub low : T (le (of 2000) fs)
  pub high : T (le fs (of 192000))

-- step: ((fs * EDGE_WINDOW_S) / 8.0).round().max(1.0) as usize
unfoldable pub step_of : Float → ℕ
step_of fs = to_unsigned 64 (max_of (round_of ((fs ⊗ EDGE_WINDOW_S) ⊘ eight)) one)

-- window = 8 × step
abbrev pub window_of : Float → ℕ
window_of fs = 8 * step_of fs

-- n, the number of complex samples of a recording that is lent as 2 n f32
abbrev pub samples : List Float → ℕ
samples iq = length iq / 2

-- how many whole blocks of len samples there are
abbrev pub blocks : List Float → ℕ → ℕ
blocks iq len = samples iq / len

-- B = floor(n/step)
abbrev pub step_blocks : List Float → Float → ℕ
step_blocks iq fs = blocks iq (step_of fs)

-- the centre of the len samples from sample a, in samples: a + (len − 1)/2
abbrev pub centre_of : ℕ → ℕ → Float
centre_of a len = of a ⊕ (of len ⊖ one) ⊘ two
