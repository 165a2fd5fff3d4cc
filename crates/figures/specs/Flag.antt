-- A yes or no as a figure. Definitions only.
use Rattle.std.specs.Prelude.{Bool, true, false, Float}
use Rattle.float.specs.Ops.{of}

-- yes is 1, no is 0
abbrev pub flag_of : Bool → Float
flag_of true = of 1
flag_of false = of 0
