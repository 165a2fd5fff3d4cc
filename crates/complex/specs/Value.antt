-- Complex numbers of two f64 (01, part 1): each operation is made of single rounded operations, in the order written.
-- Definitions only.
use Rattle.std.specs.Prelude.{Float}
use Rattle.std.specs.Float.Ieee.{neg}
use Rattle.std.specs.Float.{binary64}
use Rattle.complex.specs.declared.value.Complex.{Complex}
use Rattle.float.specs.Ops.{◌⊕◌, ◌⊖◌, ◌⊗◌, ◌⊘◌, plus_zero}
use Rattle.float.specs.Root.{sqrt_of}
use Rattle.trig.specs.Circle.{sin_of, cos_of}
use Rattle.trig.specs.Argument.{arg_of}

abbrev pub c_new : Float → Float → Complex
c_new x y = record { re = x; im = y }

abbrev pub c_zero : Complex
c_zero = c_new plus_zero plus_zero

abbrev pub c_add : Complex → Complex → Complex
c_add a b = c_new (a.re ⊕ b.re) (a.im ⊕ b.im)

abbrev pub c_sub : Complex → Complex → Complex
c_sub a b = c_new (a.re ⊖ b.re) (a.im ⊖ b.im)

-- (a,b)(c,d) = (ac − bd, ad + bc)
abbrev pub c_mul : Complex → Complex → Complex
c_mul a b = c_new (a.re ⊗ b.re ⊖ a.im ⊗ b.im) (a.re ⊗ b.im ⊕ a.im ⊗ b.re)

abbrev pub c_conj : Complex → Complex
c_conj a = c_new a.re (neg a.im)

-- `norm_sqr` = re·re + im·im, and `norm` its correctly rounded square root
abbrev pub c_norm_sqr : Complex → Float
c_norm_sqr a = a.re ⊗ a.re ⊕ a.im ⊗ a.im

abbrev pub c_norm : Complex → Float
c_norm a = sqrt_of binary64 (c_norm_sqr a)

abbrev pub c_arg : Complex → Float
c_arg a = arg_of a.re a.im

-- a real divides each part
abbrev pub c_div : Complex → Float → Complex
c_div a d = c_new (a.re ⊘ d) (a.im ⊘ d)

-- `from_polar(w, t)` = (w cos t, w sin t)
abbrev pub c_polar : Float → Float → Complex
c_polar w t = c_new (w ⊗ cos_of t) (w ⊗ sin_of t)
