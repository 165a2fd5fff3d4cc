-- A fit's span (01, part 7: "the stretch of samples that the Rust's `subtract` visits for it, cut to the recording";
-- the Rust's `fit_span`). Definitions only.
use Rattle.std.specs.Prelude.{ℕ, min, Bool, ◌&&◌, leb, ltb, Float}
use Rattle.std.specs.Float.Ieee.{to_unsigned}
use Rattle.float.specs.Ops.{◌⊕◌, ◌⊖◌, ◌⊗◌, plus_zero, two}
use Rattle.float.specs.Compare.{max_of}
use Rattle.float.specs.Whole.{floor_of, ceil_of}
use Rattle.constants.specs.Constants.{RISE_S}
use Rattle.fits.specs.declared.fit.ElementFit.{ElementFit}
use Rattle.row.specs.declared.span.Span.{Span}

-- `pad`: two rises, in samples
abbrev pub pad_of : Float → Float
pad_of fs = two ⊗ RISE_S ⊗ fs

-- of n samples: from lo up to, not including, hi
unfoldable pub span_of : Float → ℕ → ElementFit → Span
span_of fs n f =
    let e = f.element in
    let hi = min (to_unsigned 64 (max_of (ceil_of (e.end ⊕ pad_of fs)) plus_zero)) n in
    record { lo = min (to_unsigned 64 (max_of (floor_of (e.start ⊖ pad_of fs)) plus_zero)) hi; hi = hi }

-- whether sample k is one of them
abbrev pub covers : Span → ℕ → Bool
covers s k = leb s.lo k && ltb k s.hi
