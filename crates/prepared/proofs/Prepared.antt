-- The work slice made ready: how many blocks there are, that they leave room, and what the slice holds.
use Prim.Native.Nat.{ℕ, ◌-◌, ◌*◌, ◌/◌, ◌≤◌, ◌<◌}
use native.Mathlib.Nat.{le-div_iff_mul-le, div-mul-le_self, mul_assoc, mul_comm}
use native.Mathlib.Omega.{arith}
use mathlib.Core.Path.{◌≡◌, ◌∙◌}
use mathlib.Core.List.{List}
use lib.ListN.{length}
use lib.Ieee.{Float, nan}
use Rattle.float.specs.Ops.{◌⊘◌}
use borrow.Rule.Slice.PartMut.{mid_of, put_mid, take_put, same_len_mid}
use Rattle.complex.specs.declared.value.Complex.{Complex}
use Rattle.complex.specs.Rows.{z_fill}
use Rattle.complex.proofs.RowLaws.{z_at_z_fill, length_z_fill}
use Rattle.row.specs.Samples.{Iq}
use Rattle.row.specs.Window.{Rate, step_of, window_of, samples, step_blocks}
use Rattle.row.specs.Window as window
use Rattle.row.specs.Blocks.{block_mean}
use Rattle.row.proofs.Steps.{step_low}
use Rattle.classes.specs.declared.class.BlockClass.{BlockClass}
use Rattle.classes.specs.Class.{codes_of}
use Rattle.classes.proofs.Classes.{codes_length, code_at}
use Rattle.classes.proofs.Lent.{put_at}
use Rattle.prepared.specs.Inner.{Prepared}
use Rattle.prepared.proofs.Parts.{z_at_below}

-- the blocks of eight steps are no more than an eighth of those of one
pub eighth : (n s : ℕ) → 1 ≤ s → 8 * (n / (8 * s)) ≤ n / s
eighth n s h =
    let q = n / (8 * s) in
    let same : 8 * q * s ≡ q * (8 * s) = rw (mul_comm 8 q, mul_assoc q 8 s) in
    (le-div_iff_mul-le {k = s} {x = 8 * q} {y = n} h).1 (omega (arith, same, div-mul-le_self n (8 * s)))

-- ---- how many blocks there are
pub record Counted (iq : List Float) (fs : Float) (len blocks : ℕ) (w : List Float) : Type 0 where
  pub some : 0 < len
  pub inside : blocks * len ≤ 1048576
  pub room : 32 * blocks ≤ length w

pub counted : (iq : List Float) (fs : Float) (len blocks : ℕ) (w : List Float)
    → Iq iq → len ≡ window_of fs → blocks ≡ window.blocks iq len → 4 * step_blocks iq fs ≤ length w → Counted iq fs len blocks w
counted iq fs len blocks w i e b h =
    let low : 1 ≤ step_of fs = step_low fs in
    let eight : 8 ≤ len = omega (arith, e) in
    let all : blocks ≡ window.blocks iq (window_of fs) = rw e at b in
    let fewer : 8 * window.blocks iq (window_of fs) ≤ step_blocks iq fs = eighth (samples iq) (step_of fs) low in
    let whole : blocks * len ≤ 1048576 = rw b (omega (arith, div-mul-le_self (samples iq) len, i.short)) in
    record {
      some = omega arith;
      inside = whole;
      room = omega (arith, all);
    }

-- ---- what the slice holds
module _ (w v ys : List Float) (z : ℕ → Complex) (class : ℕ → BlockClass) (blocks : ℕ)
    (e : v ≡ z_fill w 0 z blocks) (room : 32 * blocks ≤ length w) (c : ys ≡ codes_of class blocks) (size : length ys ≡ length (mid_of (2 * blocks) (3 * blocks - 2 * blocks) v)) where
  long : length v ≡ length w
  long = rw e (length_z_fill w 0 z blocks)

  pub prepared : Prepared (put_mid (2 * blocks) (3 * blocks - 2 * blocks) v ys) z class blocks
  prepared =
      record {
        mean =
            λ b h.
            z_at_below (put_mid (2 * blocks) (3 * blocks - 2 * blocks) v ys) v (2 * blocks) (take_put (2 * blocks) (3 * blocks - 2 * blocks) v ys (omega (arith, long))) b (omega arith)
            ∙ rw e (z_at_z_fill w z blocks b h (omega arith));
        class =
            λ b h.
            put_at (2 * blocks) (3 * blocks - 2 * blocks) v nan ys (omega (arith, long)) b (omega (arith, codes_length class blocks ys c)) ∙ code_at class blocks ys c b h;
        room = omega (arith, same_len_mid (2 * blocks) (3 * blocks - 2 * blocks) v ys size, long);
      }

pub made : (iq : List Float) (fs carrier : Float) (len blocks : ℕ) (w v ys : List Float) (class : ℕ → BlockClass)
    → Counted iq fs len blocks w → len ≡ window_of fs → blocks ≡ window.blocks iq len
    → v ≡ z_fill w 0 (block_mean iq (carrier ⊘ fs) len) (window.blocks iq len)
    → ys ≡ codes_of class (window.blocks iq (window_of fs)) → length ys ≡ length (mid_of (2 * blocks) (3 * blocks - 2 * blocks) v)
    → Prepared (put_mid (2 * blocks) (3 * blocks - 2 * blocks) v ys) (block_mean iq (carrier ⊘ fs) (window_of fs)) class (window.blocks iq (window_of fs))
made iq fs carrier len blocks w v ys class k l b e c size =
    rw (← l, ← b) (prepared w v ys (block_mean iq (carrier ⊘ fs) len) class blocks (rw (← b) at e) k.room (rw (← l, ← b) at c) size)
