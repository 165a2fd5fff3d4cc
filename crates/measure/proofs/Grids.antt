-- The blocks of a recording that a prepared slice holds: how many they are, and their means and classes. Assumes
-- nothing.
use Prim.Native.Nat.{ℕ, ◌+◌, ◌*◌, ◌/◌, ◌≤◌, ◌<◌}
use native.Mathlib.Omega.{arith}
use mathlib.Core.Path.{◌≡◌, sym, ap, ◌∙◌}
use mathlib.Core.List.{List}
use lib.ListN.{length, get_or, take, drop, length-drop}
use lib.Seq.{length-take-le, get_or-take, get_or-drop}
use lib.Ieee.{Float, nan}
use Rattle.lists.proofs.Firsts.{firsts_take}
use Rattle.complex.specs.declared.value.Complex.{Complex}
use Rattle.row.specs.Window.{window_of}
use Rattle.row.specs.Window as window
use Rattle.classes.specs.declared.class.BlockClass.{BlockClass}
use Rattle.classes.specs.Class.{code_of, is_class}
use Rattle.classes.proofs.Counts.{class_told}
use Rattle.prepared.specs.Sections.{SIDES}
use Rattle.prepared.specs.Inner.{Prepared, of_class}
use Rattle.prepared.proofs.Parts.{z_at_same}
use Rattle.measure.specs.Inner.{Held}

-- the grid's blocks are those of the recording
pub grid_count : (iq iq' : List Float) (fs fs' : Float) (len blocks : ℕ) → iq' ≡ iq → fs' ≡ fs → len ≡ window_of fs' → blocks ≡ length iq' / 2 / len
    → blocks ≡ window.blocks iq (window_of fs)
grid_count iq iq' fs fs' len blocks e f w b = rw (b, w, e, f)

-- the front of a prepared slice, cut in two
pub held : (w u means codes : List Float) (z : ℕ → Complex) (class : ℕ → BlockClass) (blocks n : ℕ) → Prepared w z class n → blocks ≡ n → u ≡ take (SIDES * blocks) w
    → (means ≡ take (2 * blocks) u) × (codes ≡ take blocks (drop (2 * blocks) u)) → Held means codes z class n
held w u means codes z class blocks n p e a b =
    record {
      mean = λ k h. z_at_same means w k (λ i l. mean_at i (omega arith)) ∙ p.mean k h;
      classes =
          rw e at b.1
          ∙ sym (firsts_take (λ k. code_of (class k)) (drop (2 * n) u) nan n room
          (λ k h. sym (get_or-drop (2 * n) u k nan ∙ below (2 * n + k) (omega arith) ∙ p.class k h)));
    }
  where
    front : u ≡ take (SIDES * n) w
    front = rw e at a

    long : length u ≡ SIDES * n
    long = let room : 32 * n ≤ length w = p.room in ap length front ∙ length-take-le (SIDES * n) w (omega arith)

    below : (i : ℕ) → i < SIDES * n → get_or u i nan ≡ get_or w i nan
    below i h = ap (λ (l : List Float). get_or l i nan) front ∙ get_or-take (SIDES * n) w i nan h

    mean_at : (i : ℕ) → i < 2 * n → get_or means i nan ≡ get_or w i nan
    mean_at i h = ap (λ (l : List Float). get_or l i nan) (rw e at b.0) ∙ get_or-take (2 * n) u i nan h ∙ below i (omega arith)

    room : n ≤ length (drop (2 * n) u)
    room = simp length-drop (omega (arith, long))

-- the class of a block that is held
pub class_held : (means codes : List Float) (z : ℕ → Complex) (class : ℕ → BlockClass) (blocks : ℕ) (c : BlockClass) (b : ℕ) → Held means codes z class blocks → b < blocks
    → of_class codes c b ≡ is_class c (class b)
class_held means codes z class blocks c b p h = class_told class blocks codes p.classes b c h
