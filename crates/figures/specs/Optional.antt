-- A number that may be absent, as two figures (include/cancel.h): the threshold of an amplitude row, the offset of an
-- evidence. Definitions only.
use Rattle.std.specs.Prelude.{Float, Some, None}
use Rattle.std.specs.declared.option.Option.{Option}
use Rattle.float.specs.Ops.{of}

-- whether it is present, 0 or 1
abbrev pub present_of : Option Float → Float
present_of (Some x) = of 1
present_of None = of 0

-- its value, 0 where it is absent
abbrev pub value_of : Option Float → Float
value_of (Some x) = x
value_of None = of 0
