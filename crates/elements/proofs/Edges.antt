-- What 01's edge table and the report programs are computed at, fs 3,000: step 1, window 8. Assumes nothing.
use mathlib.Core.Path.{◌≡◌, refl}
use lib.Ieee.{mul, div, lt, of_int, of_bits, round, to_unsigned, is_nan}
use Rattle.float.specs.Ops.{of, fraction}
use Rattle.float.specs.Compare.{max_of}
use Rattle.float.specs.Whole.{round_of, whole_by}
use Rattle.constants.specs.Constants.{EDGE_WINDOW_S}
use Rattle.row.specs.Window.{step_of, window_of}

pub step_3000 : step_of (of 3000) ≡ 1
unfolding step_of EDGE_WINDOW_S fraction max_of round_of whole_by round mul div lt is_nan of_int of_bits to_unsigned
step_3000 = refl

pub window_3000 : window_of (of 3000) ≡ 8
window_3000 = rw step_3000
