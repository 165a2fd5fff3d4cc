-- The mean of a block of the samples that are kept.
use Prim.Native.Nat.{ℕ, ◌+◌, ◌*◌, ◌≤◌}
use native.Mathlib.Nat.{add_assoc, zero-add}
use native.Mathlib.Omega.{arith}
use mathlib.Core.Path.{◌≡◌, sym, ap, ◌∙◌}
use mathlib.Core.List.{List}
use lib.Ieee.{Float}
use Rattle.float.specs.Ops.{of}
use Rattle.complex.specs.declared.value.Complex.{Complex}
use Rattle.complex.specs.Value.{c_div}
use Rattle.complex.specs.Rows.{z_at, c_sum}
use Rattle.complex.proofs.RowLaws.{c_sum_moved}
use Rattle.row.specs.Blocks.{derot, mean_from}
use Rattle.interiors.specs.Slope.{slope_mean}
use Rattle.interiors.specs.Inner.{Derotated}

pub mean_kept : (iq : List Float) (cyc : Float) (i0 m block b : ℕ) (l : List Float) (sum r : Complex) (x : Float)
    → Derotated iq cyc i0 0 m l → b * block + block ≤ m → sum ≡ c_sum (z_at l) (b * block) block → x ≡ of block → r ≡ c_div sum x → r ≡ slope_mean iq cyc i0 block b
unfolding slope_mean mean_from
mean_kept iq cyc i0 m block b l sum r x d h p e q =
    let same : c_sum (z_at l) (b * block) block ≡ c_sum (derot iq cyc) (i0 + b * block) block =
    c_sum_moved (z_at l) (derot iq cyc) (b * block) (i0 + b * block) block
    (λ i w. ap (z_at l) (sym (zero-add (b * block + i))) ∙ d.each (b * block + i) (omega arith) ∙ ap (derot iq cyc) (sym (add_assoc i0 (b * block) i))) in
    rw (q, p, e, same)
