-- The reference: the medians, and the rows of powers to both sides of the carrier.
use Rattle.std.proofs.Common.{Some, None}
use Rattle.std.specs.declared.option.Option.{Option}
use Rattle.std.specs.Option.{unwrap_or}
use Rattle.std.proofs.lemmas.List.{take_at, drop_at, take-append-le}
use Prim.Native.Nat.{ℕ, ◌+◌, ◌^◌, ◌≤◌}
use native.Mathlib.Omega.{arith}
use mathlib.Core.Path.{◌≡◌, refl, ◌∙◌}
use mathlib.Core.Bool.{Bool}
use mathlib.Core.List.{List, ◌++◌}
use lib.ListN.{length, take}
use lib.Seq.{length-take-le, take-add}
use lib.Ieee.{Float, neg, round, of_bits}
use Rattle.float.specs.Ops.{◌⊕◌, ◌⊗◌, ◌⊘◌, bits, fraction, plus_zero, half}
use Rattle.float.specs.Compare.{max_of}
use Rattle.lists.specs.Count.{count_to}
use Rattle.lists.specs.Those.{picked, keep}
use Rattle.lists.proofs.Count.{count_most}
use Rattle.lists.proofs.Kept.{length_keep}
use Rattle.constants.proofs.Bits.{reference_offset_bits, min_positive_bits}
use Rattle.complex.specs.declared.value.Complex.{Complex}
use Rattle.row.specs.Window.{window_of}
use Rattle.row.specs.Blocks.{block_mean}
use Rattle.rank.specs.Select.{percentile_of}
use Rattle.prepared.specs.Powers.{block_power}
use Rattle.prepared.proofs.Gathered.{gathered}
use Rattle.gaps.specs.Reference.{or_zero, median_of, side_of, reference_from, reference_by, mean_at}

-- `unwrap_or(0.0)`
pub or_zero_is : (p : Option Float) → unwrap_or p plus_zero ≡ or_zero p
or_zero_is (Some v) = refl
or_zero_is None = refl

-- two rows of powers: the second is gathered in what lies behind the first, d, which then holds ys and zs
pub both_held : (w u d ys zs : List Float) (p : ℕ → Bool) (f g : ℕ → Float) (blocks n m : ℕ)
    → (n ≡ count_to p blocks) × (u ≡ keep w 0 p f blocks) → (m ≡ count_to p blocks) × (ys ≡ keep d 0 p g blocks)
    → blocks ≤ length w → blocks ≤ length d → take (n + m) (take n u ++ (ys ++ zs)) ≡ picked p f blocks ++ picked p g blocks
both_held w u d ys zs p f g blocks n m first second room rest =
    let few : n ≤ blocks = rw first.0 (count_most p blocks) in
    let more : m ≤ blocks = rw second.0 (count_most p blocks) in
    let long : length u ≡ length w = rw first.1 (length_keep w 0 p f blocks) in
    let wide : length ys ≡ length d = rw second.1 (length_keep d 0 p g blocks) in
    let part : length (take n u) ≡ n = length-take-le n u (omega arith) in
    let front : take n (take n u ++ (ys ++ zs)) ≡ picked p f blocks = take_at (take n u) (ys ++ zs) n part ∙ gathered w u p f blocks n first.0 first.1 room in
    let back : take m (ys ++ zs) ≡ picked p g blocks = take-append-le m ys zs (omega arith) ∙ gathered d ys p g blocks m second.0 second.1 rest in
    rw (take-add n m (take n u ++ (ys ++ zs)), front, drop_at (take n u) (ys ++ zs) n part, back)

-- the powers to both sides of the carrier
pub side_is : (iq : List Float) (fs carrier : Float) (len : ℕ) (gap : ℕ → Bool) (blocks : ℕ) (l : List Float) (p : Option Float) (r : Float)
    → p ≡ percentile_of l half → r ≡ unwrap_or p plus_zero
    → l ≡ picked gap (block_power (block_mean iq ((carrier ⊕ neg (bits 0x407f_4000_0000_0000)) ⊘ fs) len)) blocks
    ++ picked gap (block_power (block_mean iq ((carrier ⊕ bits 0x407f_4000_0000_0000) ⊘ fs) len)) blocks
    → len ≡ window_of fs → r ≡ median_of (side_of (mean_at iq fs) carrier gap blocks)
side_is iq fs carrier len gap blocks l p r e o h w = rw (o, or_zero_is p, e, h, w, reference_offset_bits)

-- 1e-12
floor_bits : fraction 1 (10 ^ 12) ≡ bits 0x3d71_9799_812d_ea11
unfolding fraction round of_bits
floor_bits = refl

pub reference_is : (mean : Float → ℕ → Complex) (carrier : Float) (gap interior : ℕ → Bool) (z : ℕ → Complex) (blocks : ℕ) (p : Option Float) (side inner first r : Float)
    → side ≡ median_of (side_of mean carrier gap blocks)
    → p ≡ percentile_of (picked interior (block_power z) blocks) half → inner ≡ unwrap_or p plus_zero
    → first ≡ max_of side (bits 0x3d71_9799_812d_ea11 ⊗ inner) → r ≡ max_of first (bits 0x0010_0000_0000_0000)
    → r ≡ reference_by mean carrier gap interior z blocks
unfolding reference_by reference_from
reference_is mean carrier gap interior z blocks p side inner first r s q o e h = rw (h, e, s, o, or_zero_is p, q, floor_bits, min_positive_bits)
