-- The row of amplitudes in the work slice: it is that of the block means stored before it, read by its index or as a
-- list.
use Rattle.std.proofs.Common.{◌≡◌, ℕ, ◌+◌, ◌-◌, ◌*◌, ◌/◌, ◌≤◌, ◌<◌, List, ◌++◌, length, take, drop, refl, ap, arith}
use Rattle.std.proofs.Math.Nat.{div-lt_iff_lt-mul, le-div_iff_mul-le}
use Rattle.std.proofs.Math.ListN.{get_or-append}
use Rattle.std.specs.Float.{nan}
use Rattle.std.specs.Prelude.{Float}
use Rattle.float.specs.Ops.{◌⊘◌, eight}
use Rattle.complex.specs.declared.value.Complex.{Complex}
use Rattle.complex.specs.Value.{c_norm, c_div}
use Rattle.complex.specs.Rows.{z_at, z_fill}
use Rattle.complex.proofs.RowLaws.{z_at_z_fill, length_z_fill}
use Rattle.lists.specs.Fill.{fill}
use Rattle.lists.proofs.Fill.{fill_cong}
use Rattle.row.specs.Window.{step_of, window_of, samples, step_blocks}
use Rattle.row.specs.Blocks.{block_mean}
use Rattle.row.specs.Envelope.{amplitude, row_of, row_length}
use Rattle.lists.specs.Firsts.{firsts}
use Rattle.lists.proofs.Fill.{fill_behind}
use Rattle.row.proofs.Running.{run_cong}
use Rattle.row.proofs.Steps.{step_low}
use Rattle.lists.proofs.Fill.{part_fill}

-- ---- the row of the block means

-- the amplitudes are of the means that were stored, which are the first part of the work slice
pub row_stored : (w front back end : List Float) (z : ℕ → Complex) (b r : ℕ)
    → r ≡ b → front ++ back ≡ z_fill w 0 z b → length front ≡ 2 * r → end ≡ fill back 0 (amplitude (z_at front)) (r - 7) → 8 ≤ b → 3 * b ≤ length w
    → front ++ end ≡ fill (z_fill w 0 z b) (2 * b) (amplitude z) (b - 7)
row_stored w front back end z b r e q n p h g =
    let few : length front ≡ 2 * b = omega arith in
    rw (p, e, fill_behind front back (2 * b) (amplitude (z_at front)) (b - 7) few, q)
    (fill_cong (z_fill w 0 z b) (2 * b) (amplitude (z_at front)) (amplitude z) (b - 7)
    (λ i f. ap (λ (s : Complex). c_norm (c_div s eight)) (run_cong (z_at front) z i (λ k j. read k (omega arith)))))
  where
    read : (k : ℕ) → k < b → z_at front k ≡ z k
    read k j =
        rw (← get_or-append front back nan (2 * k) (omega arith), ← get_or-append front back nan (2 * k + 1) (omega arith), q)
        (z_at_z_fill w z b k j (omega arith))

module _ (w end : List Float) (z : ℕ → Complex) (b : ℕ) (e : end ≡ fill (z_fill w 0 z b) (2 * b) (amplitude z) (b - 7)) (g : 3 * b ≤ length w) where
  room : 2 * b + (b - 7) ≤ length (z_fill w 0 z b)
  room = rw (length_z_fill w 0 z b) (omega arith)

  pub row_part : take (b - 7) (drop (2 * b) end) ≡ firsts (amplitude z) (b - 7)
  row_part = rw e (part_fill (z_fill w 0 z b) (2 * b) (amplitude z) (b - 7) nan room)

-- at a rate and a carrier
pub row_is : (iq : List Float) (fs carrier : Float) → amplitude (block_mean iq (carrier ⊘ fs) (step_of fs)) ≡ row_of iq fs carrier
unfolding row_of
row_is iq fs carrier = refl

-- ---- how many amplitudes: none for n < window, and B - 7 is no cut difference from window on

few : (n s : ℕ) → 1 ≤ s → n < 8 * s → n / s < 8
few n s h g = (div-lt_iff_lt-mul h).1 g

pub row_none : (iq : List Float) (fs : Float) → samples iq < window_of fs → row_length iq fs ≡ 0
row_none iq fs h = let few-blocks : step_blocks iq fs < 8 = few (samples iq) (step_of fs) (step_low fs) h in omega arith

pub row_some : (iq : List Float) (fs : Float) → window_of fs ≤ samples iq → 8 ≤ step_blocks iq fs
row_some iq fs h = (le-div_iff_mul-le (step_low fs)).1 h
