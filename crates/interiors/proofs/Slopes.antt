-- The slope of the points in the work slice is that of the recording.
use Prim.Native.Nat.{ℕ, ◌*◌, ◌/◌, ◌≤◌, ◌<◌}
use mathlib.Core.Path.{◌≡◌, ap, ◌∙◌}
use mathlib.Core.List.{List}
use borrow.Author.Tests.{lt-leb}
use lib.ListN.{length}
use lib.Ieee.{Float}
use Rattle.float.specs.Ops.{◌⊘◌, plus_zero, minus_zero}
use Rattle.complex.specs.declared.value.Complex.{Complex}
use Rattle.complex.specs.Value.{c_norm}
use Rattle.complex.specs.Rows.{z_at, z_fill}
use Rattle.complex.proofs.RowLaws.{z_at_z_fill}
use Rattle.lists.specs.Sums.{total}
use Rattle.lists.proofs.Sums.{f_sum_cong}
use Rattle.interiors.specs.Line.{weighted, moment, line_slope}
use Rattle.interiors.specs.Slope.{phase_of, slope_of}
use Rattle.interiors.specs.Inner.{point_of, phase_in, weight_in}

-- points alike have the same slope
pub slope_cong : (w w' t p p' : ℕ → Float) (n : ℕ) → ((k : ℕ) → k < n → w k ≡ w' k) → ((k : ℕ) → k < n → p k ≡ p' k) → line_slope w t p n ≡ line_slope w' t p' n
unfolding line_slope
slope_cong w w' t p p' n h g =
    let ws : total w n ≡ total w' n = f_sum_cong minus_zero w w' n h in
    let wt : weighted w t n ≡ weighted w' t n = f_sum_cong minus_zero _ _ n (λ k b. rw (h k b)) in
    let wp : weighted w p n ≡ weighted w' p' n = f_sum_cong minus_zero _ _ n (λ k b. rw (h k b, g k b)) in
    let num : (tm pm : Float) → moment w t tm p pm n ≡ moment w' t tm p' pm n = λ tm pm. f_sum_cong minus_zero _ _ n (λ k b. rw (h k b, g k b)) in
    let den : (tm : Float) → moment w t tm t tm n ≡ moment w' t tm t tm n = λ tm. f_sum_cong minus_zero _ _ n (λ k b. rw (h k b)) in
    let tm = weighted w' t n ⊘ total w' n in
    let pm = weighted w' p' n ⊘ total w' n in
    rw (ws, wt, wp, num tm pm, den tm)

-- the points stored in a list are those of the recording
pub slope_stored : (l cur : List Float) (z : ℕ → Complex) (t : ℕ → Float) (n : ℕ) (r : Float)
    → cur ≡ z_fill l 0 (point_of z) n → 2 * n ≤ length l → r ≡ line_slope (weight_in cur) t (phase_in cur) n → r ≡ line_slope (λ b. c_norm (z b)) t (phase_of z) n
slope_stored l cur z t n r e h q =
    let same : (k : ℕ) → k < n → z_at cur k ≡ point_of z k = λ k b. rw e (z_at_z_fill l (point_of z) n k b h) in
    q ∙ slope_cong (weight_in cur) (λ b. c_norm (z b)) t (phase_in cur) (phase_of z) n (λ k b. ap (λ x. x.im) (same k b)) (λ k b. ap (λ x. x.re) (same k b))

-- fewer than two points
pub slope_none : (iq : List Float) (cyc : Float) (i0 len block : ℕ) → len / block < 2 → plus_zero ≡ slope_of iq cyc i0 len block
unfolding slope_of line_slope
slope_none iq cyc i0 len block h = rw (lt-leb 2 (len / block) h)
