-- The amplitude row in the work slice, and in a list that hands it out, a number a place. Assumes nothing.
use Rattle.std.proofs.Common.{◌≡◌, ℕ, ◌+◌, ◌-◌, ◌*◌, ◌/◌, ◌^◌, ◌≤◌, ◌<◌, List, [], ◌++◌, length, take, drop, Some, None, refl, ap, ◌∙◌, arith, length-append, length-drop}
use Rattle.std.proofs.Math.Seq.{take-append_seam}
use Rattle.std.specs.Prelude.{Float}
use Rattle.std.specs.declared.option.Option.{Option}
use Rattle.lists.specs.Fill.{fill}
use Rattle.lists.specs.Firsts.{firsts}
use Rattle.lists.proofs.Firsts.{length_firsts}
use Rattle.lists.proofs.Records.{numbers_handed}
use Rattle.float.specs.Ops.{◌⊘◌}
use Rattle.complex.specs.Rows.{z_fill}
use Rattle.row.specs.Window.{step_of, window_of, samples, blocks, step_blocks}
use Rattle.row.specs.Samples.{Iq}
use Rattle.row.specs.Blocks.{block_mean}
use Rattle.row.specs.Envelope.{amplitude, row_of, row_length}
use Rattle.row.proofs.Steps.{step_low}
use Rattle.row.proofs.Means.{blocks_short}
use Rattle.row.proofs.Rows.{row_part, row_is, row_none, row_some}
use Rattle.elements.specs.declared.amplitude.AmplitudeRow.{AmplitudeRow}
use Rattle.lists.specs.Records.{handed, handed_numbers}
use Rattle.elements.specs.Find.{row_threshold, threshold_of, amplitude_row_of, found_at, elements_at, found_of, elements_found}
use Rattle.elements.proofs.Same.{found_same, elements_same}
use Rattle.elements.proofs.Bounds.{some_row}

-- ---- the row in the work slice

-- where the recording has a window of samples: how many blocks of a step there are
pub record Entered (iq : List Float) (fs : Float) (n step : ℕ) : Type 0 where
  pub same : n / step ≡ step_blocks iq fs
  pub least : 1 ≤ step
  pub eight : 8 ≤ n / step

pub entered : (iq : List Float) (fs : Float) (n step : ℕ) → n ≡ samples iq → step ≡ step_of fs → window_of fs ≤ n → Entered iq fs n step
entered iq fs n step e s h =
    record { same = rw (e, s); least = rw s (step_low fs); eight = rw (e, s) (row_some iq fs (rw e at h)) }

module _ (iq : List Float) (fs carrier : Float) where
  -- where it has none, the row is empty
  pub row_empty : samples iq < window_of fs → [] ≡ firsts (row_of iq fs carrier) (row_length iq fs)
  unfolding firsts
  row_empty few = rw (row_none iq fs few)

  -- the amplitudes stored behind the block means are the row
  pub row_read : (step : ℕ) (w end : List Float) → step ≡ step_of fs
      → end ≡ fill (z_fill w 0 (block_mean iq (carrier ⊘ fs) step) (blocks iq step)) (2 * blocks iq step) (amplitude (block_mean iq (carrier ⊘ fs) step)) (blocks iq step - 7)
      → 3 * blocks iq step ≤ length w
      → take (2 * blocks iq step + (blocks iq step - 7) - 2 * blocks iq step) (drop (2 * blocks iq step) end) ≡ firsts (row_of iq fs carrier) (row_length iq fs)
  row_read step w end e filled room =
      let size : 2 * blocks iq step + (blocks iq step - 7) - 2 * blocks iq step ≡ blocks iq step - 7 = omega arith in
      rw (size, ← row_is iq fs carrier, ← e) (row_part w end (block_mean iq (carrier ⊘ fs) step) (blocks iq step) filled room)

  -- how many amplitudes it has
  module _ (v : List Float) (is : v ≡ firsts (row_of iq fs carrier) (row_length iq fs)) where
    pub row_size : length v ≡ row_length iq fs
    row_size = ap length is ∙ length_firsts (row_of iq fs carrier) (row_length iq fs)

    pub row_few : Iq iq → length v ≤ 2 ^ 20
    row_few i = omega (arith, row_size, blocks_short iq (step_of fs) i.short)

-- ---- the row handed out

module _ (iq : List Float) (fs carrier : Float) where
  abbrev row_answered : AmplitudeRow → List Float → List Float → Type 0
  row_answered r l out =
      (r ≡ amplitude_row_of iq fs carrier)
      × (handed_numbers out r.amplitudes ≡ handed 1 (firsts (row_of iq fs carrier) (row_length iq fs)) l)

  -- v is the row as the work slice has it, copied to the start of the list l, and t its threshold
  pub row_made : (l v : List Float) (t : Option Float) → v ≡ firsts (row_of iq fs carrier) (row_length iq fs)
      → row_length iq fs ≤ length l → t ≡ row_threshold v
      → row_answered (record { amplitudes = length v; threshold = t }) l (v ++ drop (length v) l)
  unfolding amplitude_row_of threshold_of
  row_made l v t is room told =
      let size = row_size iq fs carrier v is in
      let whole : length (v ++ drop (length v) l) ≡ length l = simp (length-append, length-drop) (omega arith) in
      (rw (size, told, is), rw (← is) (numbers_handed l (v ++ drop (length v) l) v (length v) whole (take-append_seam v (drop (length v) l))))

-- ---- the key-downs of numbers that are the row, at the recording's threshold, are those of the recording
module _ (iq : List Float) (fs carrier : Float) (row : ℕ → Float) (same : (i : ℕ) → i < row_length iq fs → row i ≡ row_of iq fs carrier i) where
  agree : (thr : Float) → threshold_of iq fs carrier ≡ Some thr → (i : ℕ) → i ≤ row_length iq fs - 1 → row i ≡ row_of iq fs carrier i
  agree thr t i h = let some = some_row iq fs carrier thr t in same i (omega arith)

  pub found_by_row : found_at row (row_length iq fs - 1) (step_of fs) fs (threshold_of iq fs carrier) ≡ found_of iq fs carrier
  unfolding found_of
  found_by_row = go (threshold_of iq fs carrier) refl
    where
      go : (t : Option Float) → threshold_of iq fs carrier ≡ t
          → found_at row (row_length iq fs - 1) (step_of fs) fs t ≡ found_at (row_of iq fs carrier) (row_length iq fs - 1) (step_of fs) fs t
      go (Some thr) t = found_same row (row_of iq fs carrier) thr (row_length iq fs - 1) (agree thr t) (step_of fs) fs
      go None t = refl

  pub elements_by_row : elements_at row (row_length iq fs - 1) (step_of fs) fs (threshold_of iq fs carrier) ≡ elements_found iq fs carrier
  unfolding elements_found
  elements_by_row = go (threshold_of iq fs carrier) refl
    where
      go : (t : Option Float) → threshold_of iq fs carrier ≡ t
          → elements_at row (row_length iq fs - 1) (step_of fs) fs t ≡ elements_at (row_of iq fs carrier) (row_length iq fs - 1) (step_of fs) fs t
      go (Some thr) t = elements_same row (row_of iq fs carrier) thr (row_length iq fs - 1) (agree thr t) (step_of fs) fs
      go None t = refl
